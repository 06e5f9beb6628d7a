-- Notifying, trace stops and changes of one LWP keep rows sound.
use Rattle.trace_rows.proofs.CommonNames.{arith, nat_tests, ◌≡◌, ℕ, true, ◌==◌, ◌&&◌, List, None, rules, AllByRecursion, list_any, SIGCHLD, is_live, Rows, InOwnBlock, notified, IsLiveOf, FitProcess, IsSound}
use Rattle.trace_rows.proofs.CommonNames.{MayTell}
use Rattle.trace_rows.proofs.Every.{any_holds, and_left, and_right, both, All-imply, All-both, any_more}
use Rattle.trace_rows.proofs.Numbers.{one_row}
use Rattle.trace_rows.proofs.SoundAfterEdit.{sound_holds}
use Rattle.trace_rows.proofs.SoundAfterSettle.{LiveFit, post_chosen}

-- Telling live processes

pub live_told : (rows : Rows) (u n : ℕ) → IsLiveOf rows u n → MayTell rows n
live_told rows u n is ne = search (rules, any_more, both, and_left, and_right)

pub notified_sound : (rows : Rows) (pids : List ℕ) → IsSound rows → AllByRecursion (MayTell rows) pids → IsSound (notified pids rows)
notified_sound rows pids s tell = sound_holds _ (post_chosen rows (λ p. list_any (λ n. n == p.pid) pids) SIGCHLD None (record {
  stands = s.stands;
  processes = All-imply (λ p. FitProcess p × (InOwnBlock p × (list_any (λ q. (q.pid == p.pid) && is_live q) rows.processes ≡ true → is_live p ≡ true))) (LiveFit (λ p. list_any (λ n. n == p.pid) pids)) (λ p h. (h.0, λ is. any_holds (λ n. n == p.pid) (MayTell rows) (is_live p ≡ true) (λ n may e. grind (arith, nat_tests, may, e, h.1)) pids tell is)) rows.processes
      (All-both FitProcess _ rows.processes s.processes (All-both InOwnBlock _ rows.processes s.stands.in_own_blocks (one_row is_live rows.processes s.stands.rising)));
  lwps = s.lwps;
}))
