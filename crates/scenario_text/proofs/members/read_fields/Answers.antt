use Rattle.scenario_text.proofs.CommonNames.{rules, Some, sym, ap, ◌∙◌, no_members, put, with_named, key_named}
use Rattle.scenario_text.proofs.{KeyLemmas.fields_in-put, ReadLoops.first_member, ReadLoops.its_name, ReadLoops.more_members}
use Rattle.scenario_text.proofs.members.read_fields.Goals as goal

pub members-init : goal.members-init
members-init c = (no_members, first_member _ _, search rules)

pub members-preserved : goal.members-preserved
members-preserved c =
    let l = c.members in
    let read = c.in_ok-key.ensures in
    let named = its_name key_named read.0 c.in-Some.key (sym c.in-Some.is ∙ read.2) in
    let was = c.in_ok-read_named.ensures.value in (
      put named.0 was.0 l.invariant.0,
      more_members _ _ _ _ l.invariant.1 _ _ named.0 was.0 (read.1 ∙ ap (λ o. Some (o, c.next_key.new.reader)) named.1) was.1 c.in_ok-read_named.ensures.shorter,
      was.2 ∙ ap (λ k. with_named k was.0 l.fields) named.2 ∙ ap (with_named (key_named named.0) was.0) l.invariant.2 ∙ sym (fields_in-put was.0 l.invariant.0 named.0),
    )
