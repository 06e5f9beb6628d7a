-- The names that proofs speak by: those of the libraries, and of this crate's definitions.
pub use Rattle.std.proofs.Common.{Bool, Bor, Equal, Greater, Less, List, None, Option, Ordering, Some, [], add-zero, ap, append-nil, ap₂, arith, cond, decimal, drop, eqb, false, get_or, inl, inr}
pub use Rattle.std.proofs.Common.{is_some, length, lt_of_not-le, ltb, map, nat_cmp, nat_eq, neg_ℤ, negsuc, not, option_and_then, pos, refl, rules, subst, suc, sym, take, take-take, take_all, true, w64, zero, ℕ, ℤ}
pub use Rattle.std.proofs.Common.{⊎_elim, ◌%◌, ◌&&◌, ◌*◌, ◌++◌, ◌+◌, ◌-◌, ◌<◌, ◌==◌, ◌^◌, ◌∙◌, ◌∷◌, ◌≡◌, ◌≢◌, ◌≤◌, ◌⊎◌}
pub use Rattle.std.proofs.lemmas.Bool.{and_parts, cases_lt, eq-eqb, eqb-true, false≢true, lt-leb, ne_eqb, not-true, or_parts, true≢false}
pub use Rattle.std.proofs.lemmas.List.{drop-drop, drop_all, drop_more, get_or-drop, get_or-take, get_or_default, get_or_past, length-drop, length-map, take-append-drop}
pub use Rattle.std.proofs.{Math.Dec.leb, lemmas.Simd.chunk-drop, lemmas.Simd.first_set_mask_l, lemmas.Simd.leading_from_mask_l, lemmas.Simd.length-chunk, lemmas.Simd.mask_l-mod, lemmas.Simd.trailing_mask_l, lemmas.Simd.zip2_splat, lemmas.Slice.Zip.length-zip}
pub use Rattle.std.proofs.{lemmas.Bool.Decides.nat_tests, lemmas.Fmt.decimal-digits_value, lemmas.List.Folds.prefix_len-append, lemmas.Map.Text.is_eq-slice_cmp, lemmas.Slice.Eq.bytes_eq-Decides}
pub use Rattle.std.proofs.{lemmas.Int.ints, lemmas.Int.to_z_pos, lemmas.List.Sums.prefix_len-le-length, lemmas.Str.Parse.numerals_by_value, lemmas.Str.Parse.tells_digits}
pub use Rattle.std.proofs.{lemmas.Int.Digits.digits_more, lemmas.Int.Digits.digits_value_more, lemmas.Option.none-some, lemmas.Str.IsCharBoundary-after_ascii, lemmas.Str.IsCharBoundary-before_ascii}
pub use Rattle.std.specs.{Char.digit_value, Char.is_ascii_digit, List.list_any, List.prefix_len, List.starts_with, Prelude.MatchOption, Prelude.zip, Prelude.⊤, Str.Parse.AllDigits, Str.Parse.digits_value}
pub use Rattle.std.specs.{Cmp.Lexicographic.slice_cmp, Ordering.match_ordering, Str.bytes_eq}
pub use Rattle.fast_float.proofs.Writing.{scan-text_of}
pub use Rattle.fast_float.specs.Text.{IsWellFormed, Parts, scan}
pub use Rattle.json.proofs.Grammar.{items_end, items_fail, items_more, left, left-parse_map, left_some, members_end, members_fail, members_more, members_no_key, read_key-shorter, value-begin_array}
pub use Rattle.json.proofs.Grammar.{value-begin_object, value_is}
pub use Rattle.json.proofs.{Printed.Decimals.IsNumber-decimal, Printed.Decimals.IsNumber-signed_decimal, Printed.Numbers.in_word-ended, Printed.Numbers.lex-number, Printed.Numbers.number_alone}
pub use Rattle.json.specs.Lex.{Class, Lexeme, after_comma, after_value, backslash, begins_colon, between, class, colon, comma, fresh, if_allowed, in_string, operator, operator_lexeme, other}
pub use Rattle.json.specs.Lex.{place_token, quote, space, string_token, token}
pub use Rattle.json.specs.{Align.is_blank, Align.is_good, Token.Token, Token.bad, Token.begin_array, Token.begin_object, Token.end_array, Token.end_object, Token.key, Token.number}
pub use Rattle.json.specs.{Json.Parse, Json.after_end_array, Json.parse_map, Json.read_key, Reads.Yields, Reads.token_of, Run.is_plain, Run.is_stop, Word.ends_word, Word.head}
pub use Rattle.json.specs.Text.{plain, prepend}
unfoldable pub use Rattle.json.specs.{Json.items, Json.members, Json.value, Lex.lex, Lex.punctuate, Text.content, Word.after_number, Word.word}
pub use Rattle.serde_json.specs.Data.{Data, Members, Num, array, item, member, no_items, no_members, object, put}
pub use Rattle.serde_json.specs.{Find.as_array, Find.as_i64, Find.as_object, Read.converted, Read.number_from, Read.of_items, Read.of_json, Read.of_members}
unfoldable pub use Rattle.serde_json.specs.Read.{number_of}
pub use lib.Bits.{bit_or}
pub use lib.Count.{count_trailing_zeros}
pub use lib.Lanes.{chunk, mask_l, top, zip2}
pub use mir.Val.{SFits}
pub use Rattle.json_values.specs.Lexing.{Ends, IsNumberAt, IsWholeAt, LiteralOf, IsWritten, NotBeforeComma, differ, may_begin, may_close, piece, refused_at, tokens_at}
pub use Rattle.json_values.specs.declared.punctuation.Place.TheVariants.{AfterComma, AfterValue, Failed, Fresh}
pub use Rattle.json_values.specs.{Reading.IsScalar, Reading.Opens, Reading.Says, Reading.members_among, Reading.read_items, Reading.read_members, Reading.rest, declared.scalars.Opening.Opening}
pub use Rattle.json_values.specs.{declared.punctuation.Place.Place, declared.scalars.Scalar.Scalar}
