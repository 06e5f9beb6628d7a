-- The names that proofs speak by: those of the libraries, and of this crate's definitions.
pub use Rattle.std.proofs.Common.{Bool, Equal, Err, Greater, IfOk, Less, List, None, Ok, Option, Ordering, Result, Some, [], ap, ap₂, arith, bit_or, false, inl, inr, is_eq, length, map, nat_cmp, refl}
pub use Rattle.std.proofs.Common.{rules, subst, sym, take, true, vec_len, ℕ, ℤ, ◌++◌, ◌+◌, ◌-◌, ◌<◌, ◌∙◌, ◌∷◌, ◌≡◌, ◌≤◌, ◌⊎◌}
pub use Rattle.std.proofs.{Math.Path.fun_ext, lemmas.Bool.cases_Bool, lemmas.Bool.cases_lt, lemmas.Bool.Decides.nat_tests, lemmas.Map.Text.is_eq-slice_cmp, lemmas.Slice.Eq.bytes_eq-Decides}
pub use Rattle.std.proofs.{lemmas.List.append-nil, lemmas.List.append_assoc, lemmas.List.length-append, lemmas.List.length-take, lemmas.Nat.Bits.bit_at_or, lemmas.Nat.Bits.same_from_bits}
pub use Rattle.std.specs.{Cmp.Lexicographic.slice_cmp, Io.KnownBytes.Consumes, Io.KnownBytes.Keeps, Io.KnownBytes.ReadConsumes, Ordering.match_ordering, Prelude.if◌then◌else◌, Prelude.⊤, Str.bytes_eq}
pub use Rattle.json.proofs.Grammar.{left_some, read_key-shorter}
pub use Rattle.json.specs.{Json.after_end_array, Json.items, Json.members, Json.parse_map, Json.read_key, Token.Token, Token.begin_array, Token.begin_object}
pub use Rattle.json_values.proofs.{FirstTokens.array_value, FirstTokens.object_value, Keys.members_among-put}
pub use Rattle.json_values.proofs.Loops.{last_item, last_member, next_item, next_item_fails, next_member_fails, no_key, pass_member, what_was_read}
pub use Rattle.json_values.specs.{Reading.IsScalar, Reading.Opens, Reading.Says, Reading.read_items, Reading.read_members, declared.scalars.Scalar.Scalar}
pub use Rattle.step_types.specs.{Plain.UserStep, Plain.PlainStep, Plain.with_handler, declared.Settings.Settings, declared.step.Step.Step}
pub use Rattle.serde_json.proofs.Views.{get_member-put, get_member-put_other}
pub use Rattle.serde_json.specs.{Data.Data, Data.Items, Data.Members, Data.array, Data.item, Data.member, Data.no_items, Data.no_members, Data.object, Data.put, Find.as_object, Find.get_member}
pub use Rattle.serde_json.specs.{Events.items_len, Read.converted, Read.of_items, Read.of_json, Read.of_members, Read.read}
pub use Rattle.stop_handlers.specs.declared.Rule.{Rule}
pub use Rattle.scenario_text.specs.Plan.{Plan, asked, with_policies, first_policy, max_steps, policies_after, policies_in, policy_before, with_installed, with_policy, user_and_step}
pub use Rattle.scenario_text.specs.Streams.{AreRead, IsListOf, IsNamed, StepsAre, pushed, rules_taken, taken, with_named, with_named_rule}
pub use Rattle.scenario_text.specs.{Fields.Gives, Fields.atom_in, Fields.atom_of, Fields.each, Fields.gather, Fields.integer, Fields.items_of, Fields.seen, Fields.◌>>=◌, declared.fault.Fault.Fault}
pub use Rattle.scenario_text.specs.{Keys.key_named, Keys.key_rows, Keys.keys_in, Keys.set_named, Keys.◌∪◌, Rules.policy_of, Rules.rule_fields_by, Rules.rule_fields_in, Rules.rule_from, Rules.rule_of}
pub use Rattle.scenario_text.specs.{Fields.named, OneStep.AnswersBy, OneStep.IsStep, Steps.fields_by, Steps.fields_in, Steps.step_from, Steps.step_of, declared.fields.KeyError.TheVariants.TooManyRules}
pub use Rattle.scenario_text.specs.Scenarios.{StandsFor, Takes, Yields, head_settings, no_value, numbered, steps_from, too_long}
pub use Rattle.scenario_text.specs.{declared.fault.Fault.TheVariants.BadShape, declared.fault.Fault.TheVariants.Memory, declared.fault.Fault.TheVariants.TooManySteps, declared.rules.RuleList.RuleList}
pub use Rattle.scenario_text.specs.{declared.fields.KeyError.KeyError, declared.keys.Keys.Keys, declared.listing.Listed.Listed}
unfoldable pub use Rattle.scenario_text.specs.Scenarios.{head_of, plan_of}
