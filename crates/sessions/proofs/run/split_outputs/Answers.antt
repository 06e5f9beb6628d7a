use Rattle.std.proofs.Common.{rules, ◌≡◌, ◌+◌, [], ◌∷◌, ◌++◌, List, reverse, vec_len, sym, ap, ◌∙◌, arith}
use Rattle.sessions.proofs.CommonNames.{reverse-reverse, SessionOutput, output_session, output_transcript}
use Rattle.sessions.proofs.Scripts.{next_step}
use Rattle.sessions.proofs.Pairing.{map_snoc}
use Rattle.sessions.proofs.run.split_outputs.Goals as goal

pub loop-one-init : goal.loop-one-init
loop-one-init g c =
    let len = c.into_reversed-done.ensures.len in
    let sessions = c.requires.sessions in
    let transcripts = c.requires.transcripts in (
      [],
      sym (reverse-reverse c.args.done.items) ∙ sym (ap reverse c.into_reversed-done.ensures.items),
      sessions.0,
      transcripts.0,
      omega (arith, len, sessions.1, sessions.2),
      omega (arith, len, transcripts.1, transcripts.2),
    )

pub loop-one-preserved : goal.loop-one-preserved
loop-one-preserved g c =
    let inv = c.loop-one.invariant in
    let past : List (SessionOutput g.row.O.Denot) = inv.0 in
    let one : SessionOutput g.row.O.Denot = c.in-Some.one in
    let popped : c.loop-one.done.items ≡ c.pop.new.self.items ++ one ∷ [] = search rules in
    let less : vec_len c.pop.new.self + 1 ≡ vec_len c.loop-one.done = search rules in
    let pushed = c.push_reserved.ensures.len in
    let room = c.push_reserved.ensures.capacity in
    let pushed' = c.push_reserved-in-Some.ensures.len in
    let room' = c.push_reserved-in-Some.ensures.capacity in (
      past ++ one ∷ [],
      next_step c.args.done.items past c.loop-one.done.items c.pop.new.self.items one inv.1 popped,
      c.push_reserved-in-Some.ensures.items ∙ sym (map_snoc output_session past _ one c.loop-one.sessions.items one.session (λ i. past ++ one ∷ []) (sym inv.2) (λ i. one.session)),
      c.push_reserved.ensures.items ∙ ap (λ u. c.loop-one.transcripts.items ++ record { uid = u; replies = one.output } ∷ []) c.uid.ensures ∙ sym (map_snoc output_transcript past _ one c.loop-one.transcripts.items (output_transcript one) (λ i. past ++ one ∷ []) (sym inv.3) (λ i. output_transcript one)),
      omega arith,
      omega arith,
    )
