-- The sets of lemmas that functions name: for laws, and for the collection of one process.
use Rattle.wait4.proofs.CommonNames.{found_row, named-same, named-untraced, below_or_not}
use Rattle.wait4.proofs.Search.{none_outside}
use Rattle.wait4.proofs.ChildByNumber.{child-outside}
use Rattle.wait4.proofs.Candidates.{report-any, report-first, report-numbered, reported-least}
use Rattle.wait4.proofs.CollectRows.{collected-seen, collected-passed, collected-gone}
use Rattle.wait4.proofs.IsolationOfWaits.{own_reported, own_collect, own_after_wait, others_after_wait}
use Rattle.wait4.proofs.Unnamed.{no_tracee, no_child, no_lwp}

pub ruleset of_waits = (reported-least, own_reported, own_collect, own_after_wait, others_after_wait)

pub ruleset of_one = (found_row, named-same, named-untraced, no_tracee, no_child, no_lwp, collected-seen, collected-passed, collected-gone)

pub ruleset of_report = (report-any, report-first, report-numbered)

pub ruleset of_number = (below_or_not, none_outside, child-outside)
