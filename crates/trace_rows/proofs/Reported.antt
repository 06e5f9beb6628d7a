-- An LWP that reports nothing stays as it is once its report is dropped.
use Rattle.trace_rows.proofs.CommonNames.{◌≡◌, ◌∙◌, ℕ, [], ◌∷◌, List, Some, false, not, ◌==◌, ◌&&◌, refl, ap, arith, nat_tests, LwpData, Differ, Rows, lwp_of, lwp_of-tid, set_lwp, with_lwp, unreported}
use Rattle.proc_table.proofs.LwpWalk.{unput}

with_same : (l : LwpData) (ls : List LwpData) → Differ ls → lwp_of l.tid ls ≡ Some l → with_lwp l ls ≡ ls
with_same l [] differ at = refl
with_same l (x ∷ ls) differ at = grind (arith, nat_tests, with_same l ls differ.1, unput l ls, differ.0)

same : (l : LwpData) → not ((l.flags.0 == 0) && ((l.child == 0) && (l.code == 0))) ≡ false → unreported l ≡ l
same l silent = grind (arith, nat_tests)

pub none_reported : (tid : ℕ) (l : LwpData) (rows : Rows) → Differ rows.lwps → lwp_of tid rows.lwps ≡ Some l → not ((l.flags.0 == 0) && ((l.child == 0) && (l.code == 0))) ≡ false → set_lwp (unreported l) rows ≡ rows
none_reported tid l rows differ at silent = ap (λ k. set_lwp k rows) (same l silent) ∙ ap (λ ls. record rows { lwps = ls }) (with_same l rows.lwps differ (ap (λ n. lwp_of n rows.lwps) (lwp_of-tid tid l rows.lwps at) ∙ at))
