-- The words of other crates, of the declared types and of scenarios that these definitions use, from one place.
pub use Rattle.std.specs.Prelude.{Bool, Err, IsUtf8, List, None, Ok, Option, Result, Some, [], codes, false, if◌then◌else◌, length, nat_lt, negsuc, ok_or, option_and_then, option_map, pos, take, true}
pub use Rattle.std.specs.Prelude.{ℕ, ℤ, ⊤, ◌++◌, ◌+◌, ◌<◌, ◌==◌, ◌∷◌, ◌≡◌, ◌≤◌, ◌⊎◌}
pub use Rattle.std.specs.{Int.RustNames.bit_and, Int.RustNames.bit_or, Io.KnownBytes.Consumes, Str.bytes_eq}
pub use Rattle.event_masks.specs.{Exits.both, Exits.mask_with, Exits.no_events, Exits.no_flags, Reading.events_named, Reading.flag_named, declared.EventMask.EventMask, declared.StopFlags.StopFlags}
pub use Rattle.event_masks.specs.{Calls.call_named, declared.Call.Call, declared.CallKind.CallKind}
pub use Rattle.json.specs.{Json.value, Token.Token, declared.reader.Invalid.Invalid}
pub use Rattle.json_values.specs.{Reading.integer_in, Reading.members_among, Reading.read_items, Reading.read_members, Reading.text_in, declared.scalars.Scalar.Scalar}
pub use Rattle.step_types.specs.{Plain.UserStep, Plain.PlainStep, Status.no_options, declared.Act.Act, declared.Options.Options, declared.Request.Request}
pub use Rattle.step_types.specs.{Names.act_named, Names.op_named, Names.request_named, declared.ActKind.ActKind, declared.Settings.Settings, declared.step.StepKind.StepKind}
pub use Rattle.serde_json.specs.{Data.Data, Data.Items, Data.Members, Data.item, Data.member, Data.no_items, Data.no_members, Data.object, Events.items_len, Read.converted, Read.of_json, Read.read}
pub use Rattle.serde_json.specs.Find.{as_array, as_i64, as_number, as_str, get_member}
pub use Rattle.signals.specs.{Dispositions.disposition_named, Sets.with, declared.Disposition.Disposition}
pub use Rattle.stop_handlers.specs.{Decisions.decision_named, declared.Decision.Decision, declared.DecisionKind.DecisionKind, declared.Rule.Rule}
pub use Rattle.scenario_text.specs.Plan.{Plan, max_steps}
pub use Rattle.scenario_text.specs.declared.{fault.Fault.Fault, fields.Fields.Fields, fields.KeyError.KeyError, keys.Key.Key, keys.Keys.Keys, listing.Listed.Listed, arrays.WaitOption.WaitOption}
pub use Rattle.scenario_text.specs.declared.{parsing.ScenarioKey.ScenarioKey}
pub use Rattle.scenario_text.specs.declared.{rules.RuleFields.RuleFields, rules.RuleList.RuleList, stop.Stop.Stop}
pub use Rattle.scenario_text.specs.declared.fault.Fault.TheVariants.{BadJson, BadName, BadNumber, BadShape, BadUser, Memory, Read, TooLong, TooManyRules, TooManySteps}
pub use Rattle.scenario_text.specs.declared.fields.KeyError.TheVariants.{Name, Number, Shape, User}
pub use Rattle.scenario_text.specs.declared.keys.TheConstants.Keys.{DECISION, FLAGS, PASS, SIGNAL}
pub use Rattle.scenario_text.specs.declared.arrays.WaitOption.TheVariants.{Continued, Nohang, Untraced}
