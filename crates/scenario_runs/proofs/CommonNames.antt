-- The names that proofs speak by: those of the libraries, and of this crate's definitions.
pub use Rattle.std.proofs.Common.{Bool, List, None, Option, Result, Some, [], ap, append-nil, ap₂, arith, cond, count_by, drop, false, get_or, if◌then◌else◌, length, map, refl, replicate, rules}
pub use Rattle.std.proofs.Common.{string_bytes, subst, sym, take, ℕ, ◌++◌, ◌+◌, ◌-◌, ◌*◌, ◌<◌, ◌==◌, ◌∙◌, ◌∷◌, ◌≡◌, ◌≤◌}
pub use Rattle.std.proofs.lemmas.List.{append_assoc, at_drop_all, at_drop_more, get_or-replicate, get_or-set_other, get_or-set_same, get_or_past, length-append, length-drop, length-set}
pub use Rattle.std.proofs.lemmas.List.{take-append-drop}
pub use Rattle.std.proofs.{Math.ListN.set, Math.Seq.take-append_seam, Math.Seq.take-length, lemmas.Bool.Decides.nat_tests, lemmas.List.Sums.count_by-le-length, lemmas.List.Sums.sum_by-cons}
pub use Rattle.std.specs.{Io.KnownBytes.Appends, Io.KnownBytes.Keeps, Io.KnownBytes.WriteAppends, Prelude.⊤, Vec.Iter.into_iter_items}
pub use Rattle.requests.specs.{Hosts.Steps, Making.Makes}
pub use Rattle.requests.specs.{Machine.Machine, Machine.empty, Run.replies}
pub use Rattle.step_types.specs.{Plain.UserStep, Plain.PlainStep, Plain.with_handler, Replies.is_memory, declared.Reply.Reply, declared.step.Step.Step}
pub use Rattle.scenario_text.proofs.WithPoliciesLemmas.{left_after}
pub use Rattle.scenario_text.specs.Plan.{asked, with_policies, first, first_policy, policies_after, policies_in, policy_before, with_installed}
pub use Rattle.stop_handlers.specs.declared.Rule.{Rule}
pub use Rattle.visibility.proofs.{Answered.map-push, Steps.did}
pub use Rattle.visibility.specs.Runs.{MakesStep, reply_given}
pub use Rattle.scenario_runs.specs.{Lines.Answered, Lines.Line, Lines.line, Lines.lines_after, Lines.lines_of, Lines.shown_line, Lines.text_of, declared.style.Style.Style}
pub use Rattle.scenario_runs.specs.Runs.{IsAnswered, IsBound, answered, answers_of, paired, shown}
