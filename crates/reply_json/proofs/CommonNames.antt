-- The names that proofs speak by: those of the libraries, and of this crate's definitions.
pub use Rattle.std.proofs.Common.{Bool, List, None, Option, Some, [], ap, append-nil, append_assoc, arith, codes, drop, find, map, max, option_and_then, refl, rules, subst, sym, true, ℕ, ◌++◌, ◌<◌}
pub use Rattle.std.proofs.Common.{◌==◌, ◌∙◌, ◌∷◌, ◌≡◌, ◌≢◌, ◌≤◌, ◌⊎◌}
pub use Rattle.std.proofs.lemmas.Bool.{and_parts, leb-true, ne_eqb}
pub use Rattle.std.specs.{Option.option_map_or, Prelude.Err, Prelude.Ok, Prelude.OnOk, Prelude.Result, Prelude.◌&&◌}
pub use Rattle.event_masks.specs.Names.{names_of}
pub use Rattle.json.proofs.Printed.Trees.{value-json_tokens}
pub use Rattle.json.specs.{Json.Json, Json.document, Json.if_last, Json.max_depth, Json.string, Json.value, Tree.depth, Tree.items_tokens, Tree.json_tokens, Tree.members_depth, Tree.members_tokens}
pub use Rattle.json.specs.{Lex.tokens, Print.print, Token.Token, Token.boolean, Token.end_object, Token.key, Value.items_of}
pub use Rattle.step_types.specs.declared.Reply.{Reply}
pub use Rattle.signals.specs.{Names.Row, Names.signal_name, Sets.members, Table.is_signal}
unfoldable pub use Rattle.signals.specs.Names.{table}
pub use Rattle.reply_json.specs.Objects.{Member, json_text, member_tokens, members_of, natural, numbers_of, strings_of}
pub use Rattle.reply_json.specs.Replies.{refusal_value, reply_members, reply_value}
