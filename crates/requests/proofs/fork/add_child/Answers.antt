use Rattle.requests.proofs.CommonNames.{same_number, ◌==◌, ◌≡◌, ℕ, Bool, false, Some, ◌++◌, ◌∷◌, [], List, refl, sym, subst, rules, IsSomeAnd, LwpData, born, has_lwp, lwp_of, ProcData, process_of}
use Rattle.requests.proofs.CommonNames.{Rows, is_process, arith, nat_tests, add_process, add_lwp, TableInvariant, Named, every_found, found_row, IsActing, HasLwp, forked, Due}
use Rattle.requests.proofs.HasLwpAfterChange.{acting_has, has-lwp_added, has-process_added, has-stop}
use Rattle.requests.proofs.SoundAfterTurn.{find_last}
use Rattle.requests.proofs.fork.add_child.Goals as goal

forked_named : (followed : Bool) (p : ProcData) (pid : ℕ) (rows : Rows) → TableInvariant rows → process_of p.pid rows.processes ≡ Some p → Named rows (forked followed p pid)
forked_named followed p pid rows kept at = search (rules, every_found, found_row)

child_found : (tid pid blocked : ℕ) (ls : List LwpData) → has_lwp tid ls ≡ false → IsSomeAnd (lwp_of tid (ls ++ (born tid pid blocked Due.Nothing ∷ []))) (λ l. l.pid ≡ pid)
child_found tid pid blocked ls free = rw (find_last (λ k. k.tid == tid) ls (born tid pid blocked Due.Nothing) free (same_number tid)) refl

parent_there : (u : ℕ) (new : ProcData) (child : LwpData) (p : ProcData) (l : LwpData) (rows : Rows) → TableInvariant rows → is_process rows new.pid ≡ false → IsActing p l rows
    → HasLwp p.pid l.tid (add_lwp u child (add_process new rows))
parent_there u new child p l rows kept free a = has-lwp_added u child p.pid l.tid (add_process new rows) (has-process_added new p.pid l.tid rows kept free (acting_has p l rows a))

pub add_process-requires-clause-named : goal.add_process-requires-clause-named
add_process-requires-clause-named c = subst (Named c.args.tables.now.rows) (sym c.forked.ensures) (forked_named c.is_asked-followed.result c.args.p.now c.args.pid c.args.tables.now.rows c.assert_invariant.ensures c.requires.acting.process)

pub stop-requires-clause-lwp : goal.stop-requires-clause-lwp
stop-requires-clause-lwp c = rw (c.add_lwp.ensures.rows, c.add_process.ensures.rows, c.born.ensures) (child_found c.args.tid c.args.pid c.args.l.now.blocked c.args.tables.now.rows.lwps c.requires.own_fresh)

pub returns-else-followed-clause-there : goal.returns-else-followed-clause-there
returns-else-followed-clause-there c = grind (arith, nat_tests, parent_there c.args.p.now.uid c.forked.result c.born.result c.args.p.now c.args.l.now c.args.tables.now.rows c.assert_invariant.ensures (subst (λ (q : ProcData). is_process c.args.tables.now.rows q.pid ≡ false) (sym c.forked.ensures) c.requires.fresh) c.requires.acting)

pub returns-then-followed-clause-there : goal.returns-then-followed-clause-there
returns-then-followed-clause-there c = grind (arith, nat_tests, has-stop, parent_there c.args.p.now.uid c.forked.result c.born.result c.args.p.now c.args.l.now c.args.tables.now.rows c.assert_invariant.ensures (subst (λ (q : ProcData). is_process c.args.tables.now.rows q.pid ≡ false) (sym c.forked.ensures) c.requires.fresh) c.requires.acting)
