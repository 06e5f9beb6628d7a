use Rattle.requests.proofs.CommonNames.{◌≡◌, IfSome, true, drop, list_all, is_live_at}
use Rattle.requests.proofs.handlers.HandlerList.all_live.Given as goal

abbrev pub invariant-loop-installed : goal.invariant-loop-installed
invariant-loop-installed g l = record {
  rest : list_all (λ i. is_live_at i.debugger l.tables.rows) (drop l.installed-index l.self) ≡ list_all (λ i. is_live_at i.debugger l.tables.rows) l.self;
  seen : IfSome l.seen (λ d. is_live_at d l.tables.rows ≡ true);
}
