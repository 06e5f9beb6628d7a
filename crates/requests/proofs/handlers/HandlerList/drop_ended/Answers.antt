use Rattle.requests.proofs.CommonNames.{rules, filter, sym, ap, ◌∙◌, is_live_at, All-from_list_all}
use Rattle.std.proofs.lemmas.Fn.{filter_same}
use Rattle.trace_stop.proofs.LwpEdits.{filter_all}
use Rattle.requests.proofs.handlers.HandlerList.drop_ended.Goals as goal

pub returns-then-not-all_live : goal.returns-then-not-all_live
returns-then-not-all_live g c =
    filter_same _ (λ i. is_live_at i.debugger c.args.tables.now.rows) _ (λ x b f' k. search rules) _ _ c.retain.ensures.filtered
    ∙ ap (filter (λ i. is_live_at i.debugger c.args.tables.now.rows)) c.self.view_is

pub returns-else-not-all_live : goal.returns-else-not-all_live
returns-else-not-all_live g c =
    sym (filter_all (λ i. is_live_at i.debugger c.args.tables.now.rows) c.args.self.now
    (All-from_list_all (λ i. is_live_at i.debugger c.args.tables.now.rows) c.args.self.now (sym c.all_live.ensures ∙ c.if-not-all_live.false)))
