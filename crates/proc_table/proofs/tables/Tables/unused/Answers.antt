use Rattle.proc_table.proofs.CommonNames.{◌∙◌, ◌+◌, ap, sym, is_some, false}
use Rattle.std.specs.Option.{option_map_or}
use Rattle.proc_table.specs.Processes.{process_of, has_news}
use Rattle.proc_table.proofs.KeepsLwps.{keeps_none}
use Rattle.proc_table.proofs.tables.Tables.unused.Goals as goal

pub invariant_of-result : goal.invariant_of-result
invariant_of-result c = record {
  kept = rw (c.empty.ensures, c.empty-2.ensures, c.cursors.ensures, c.cursors-2.ensures) keeps_none;
  numbers = λ n. c.new.ensures n ∙ sym (ap (λ ps. is_some (process_of (n + 1000) ps)) c.empty.ensures);
  news = λ n. c.new-2.ensures n ∙ sym (ap (λ ps. option_map_or has_news (process_of (n + 1000) ps) false) c.empty.ensures);
  begun = λ n is. absurd (cc (sym is ∙ ap (λ ps. is_some (process_of (n + 1000) ps)) c.empty.ensures));
}
