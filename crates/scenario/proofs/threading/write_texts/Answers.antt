use Rattle.std.proofs.Common.{◌≡◌, ℕ, ◌+◌, ◌<◌, ◌++◌, List, Option, String, Err, drop, get_or, length, sym, ap, subst, ◌∙◌, string_bytes}
use Rattle.scenario.proofs.CommonNames.{Global, Appends, flat_map, at_drop_more, Front, Writes}
use Rattle.scenario.proofs.FrontLemmas.{front_failed, front_next}
use Rattle.scenario.proofs.threading.write_texts.Goals as goal

-- what is left begins with the next text
next_text : (texts : List (String Global)) (i : ℕ) (text : String Global) (a b : Option (List ℕ)) → i < length texts → text ≡ get_or texts i text
    → Front a b (flat_map string_bytes (drop i texts)) (flat_map string_bytes texts) → Front a b (string_bytes text ++ flat_map string_bytes (drop (i + 1) texts)) (flat_map string_bytes texts)
next_text texts i text a b more here before =
    let first : flat_map string_bytes (drop i texts) ≡ string_bytes text ++ flat_map string_bytes (drop (i + 1) texts) =
    at_drop_more (flat_map string_bytes) texts i text more ∙ ap (λ x. string_bytes x ++ flat_map string_bytes (drop (i + 1) texts)) (sym here) in
    subst (λ xs. Front a b xs (flat_map string_bytes texts)) first before

pub returns-in_err-write_whole-clause-writes : goal.returns-in_err-write_whole-clause-writes
returns-in_err-write_whole-clause-writes g c =
    let text = c.text-item.result in
    let fault = c.in_err-write_whole.field-0.0 in
    let written = subst (λ bytes. Writes (Err fault) (g.W.Write.contents c.loop-text.writer) (g.W.Write.contents c.write_whole.new.writer) bytes) c.as_bytes.ensures.value c.in_err-write_whole.ensures.writes in
    front_failed _ _ _ _ fault (string_bytes text) (flat_map string_bytes (drop (c.loop-text.text-index + 1) c.args.texts.now)) _ c.from_residual.ensures.1 c.in_err-write_whole.ensures.kind
    (next_text c.args.texts.now c.loop-text.text-index text _ _ c.loop-text-test.true c.text-item.is c.loop-text.invariant) written

pub loop-text-preserved : goal.loop-text-preserved
loop-text-preserved g c =
    let text = c.text-item.result in
    let written = subst (λ bytes. Appends (g.W.Write.contents c.loop-text.writer) (g.W.Write.contents c.write_whole.new.writer) bytes) c.as_bytes.ensures.value c.in_ok-write_whole.ensures.writes in
    front_next _ _ _ (string_bytes text) (flat_map string_bytes (drop (c.loop-text.text-index + 1) c.args.texts.now)) _
    (next_text c.args.texts.now c.loop-text.text-index text _ _ c.loop-text-test.true c.text-item.is c.loop-text.invariant) written
