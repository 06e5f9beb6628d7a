use Rattle.requests.proofs.CommonNames.{◌≡◌, true, false, ◌==◌, Some, None, sym, ap, ◌∙◌, arith, nat_tests, process_of, process_of-pid, is_live_at, subst, post}
use Rattle.trace_rows.proofs.Found.{own_row}
use Rattle.signals.specs.Table.{SIGKILL, opposed}
use Rattle.trace_rows.specs.Post.{posted_set}
use Rattle.requests.proofs.SoundAfterCall.{live_found}
use Rattle.requests.proofs.KillReaches.{passes_signal, live_posts, dead_posts}
use Rattle.requests.proofs.NothingPosted.{nothing_posted}
use Rattle.requests.proofs.kill.post_if_live.Goals.{else-is_live-via-then-is_live+else-not-posts_nothing, else-is_live-via-else-is_live}
use Rattle.requests.proofs.kill.post_if_live.Goals as goal

pub post_process-requires-clause-live : goal.post_process-requires-clause-live
post_process-requires-clause-live c =
    let rows = c.args.tables.now.rows in
    let at : process_of c.args.pid rows.processes ≡ Some c.in-Some-process.process = sym c.process.ensures.row ∙ c.in-Some-process.is in
    let live = live_found c.args.pid rows.processes c.in-Some-process.process c.requires.sound.stands.rising at ∙ (sym c.is_live.ensures ∙ c.if-is_live.true) in
    subst (λ n. is_live_at n rows ≡ true) (sym (process_of-pid c.args.pid c.in-Some-process.process rows.processes at)) live

pub post_process-requires-clause-at : goal.post_process-requires-clause-at
post_process-requires-clause-at c = own_row c.args.pid c.in-Some-process.process c.args.tables.now.rows.processes (sym c.process.ensures.row ∙ c.in-Some-process.is)

pub returns-then-not-posts_nothing-clause-rows : goal.returns-then-not-posts_nothing-clause-rows
returns-then-not-posts_nothing-clause-rows c =
    let rows = c.args.tables.now.rows in
    let at : process_of c.args.pid rows.processes ≡ Some c.in-Some-process.process = sym c.process.ensures.row ∙ c.in-Some-process.is in
    let live = live_found c.args.pid rows.processes c.in-Some-process.process c.requires.sound.stands.rising at ∙ (sym c.is_live.ensures ∙ c.if-is_live.true) in
    let its = passes_signal c.args.pass c.in-Some.signal (sym c.signal.ensures ∙ c.in-Some.is) in
    c.post_process.ensures.rows ∙ ap (λ n. post c.args.settings c.in-Some.signal None n rows) (process_of-pid c.args.pid c.in-Some-process.process rows.processes at)
    ∙ (ap (λ s. post c.args.settings s None c.args.pid rows) its.1 ∙ sym (live_posts c.args.settings c.args.pass c.args.pid rows c.requires.sound.stands.rising live its.0))

pub returns-else-is_live-clause-rows : goal.returns-else-is_live-clause-rows
returns-else-is_live-clause-rows c =
    let rows = c.args.tables.now.rows in
    let s = c.in-Some.signal in
    let p = c.in-Some-process.process in
    let at : process_of c.args.pid rows.processes ≡ Some p = sym c.process.ensures.row ∙ c.in-Some-process.is in
    let lives = live_found c.args.pid rows.processes p c.requires.sound.stands.rising at in
    let its = passes_signal c.args.pass s (sym c.signal.ensures ∙ c.in-Some.is) in
    elim c.else-is_live.branch [
      | else-is_live-via-then-is_live+else-not-posts_nothing w ↦
          let tests = sym w.posts_nothing.ensures ∙ w.if-not-posts_nothing.false in
          let other : (s == SIGKILL) ≡ false = grind (arith, nat_tests, tests) in
          let free : opposed s ≡ 0 = grind (arith, nat_tests, tests) in
          let same : posted_set s true p p.pending ≡ p.pending = grind (arith, nat_tests, tests) in
          sym (live_posts c.args.settings c.args.pass c.args.pid rows c.requires.sound.stands.rising (lives ∙ (sym c.is_live.ensures ∙ w.if-is_live.true)) its.0
          ∙ (sym (ap (λ n. post c.args.settings n None c.args.pid rows) its.1) ∙ nothing_posted s c.args.pid p rows c.requires.sound at free same c.args.settings other))
      | else-is_live-via-else-is_live w ↦ sym (dead_posts c.args.settings c.args.pass c.args.pid rows c.requires.sound.stands.rising (lives ∙ (sym c.is_live.ensures ∙ w.if-is_live.false)))
    ]
