use Rattle.wait4.proofs.CommonNames.{ap, is_some, subst, ◌≡◌, ℕ, true, rules, IfEnded, Ended, cases_Bool, nat_tests, is_end, ended, IsStatus, word}
use Rattle.wait4.proofs.collecting.status_of.Goals as goal

-- the word of a process's end is that of a status
ended_status : (w : ℕ) → is_end w ≡ true → IsStatus (ended w) × (word (ended w) ≡ w)
ended_status w is = search (rules, cases_Bool, nat_tests)

pub unwrap-requires : goal.unwrap-requires
unwrap-requires c =
    let end : Ended c.args.p.now c.in-Zombie.status = subst (IfEnded c.args.p.now) c.in-Zombie.is c.requires.ended in
    let is = ended_status c.in-Zombie.status end.word in
    ap is_some ((c.of_word.ensures.exact (ended c.in-Zombie.status) is.0).1 is.1)
