-- The rows with two sets of numbers: of all processes, and of those with news.
use Rattle.std.specs.Prelude.{◌≡◌, ◌+◌, ◌/◌, true}
use Rattle.proc_table.specs.CommonNames.{ℕ, List, is_some, option_map_or, false, member}
use Rattle.proc_table.specs.Members.{IsBegun}
use Rattle.proc_table.specs.Processes.{process_of, has_news}
use Rattle.proc_table.specs.Rows.{Rows}
use Rattle.proc_table.specs.Kept.{TableInvariant}

-- what the tables maintain of their rows and of the sets of process numbers, counted from 1000
pub record IsIndexed (pids news_pids : List (List ℕ)) (rows : Rows) : Type 0 where
  pub kept : TableInvariant rows
  pub numbers : (n : ℕ) → member pids n ≡ is_some (process_of (n + 1000) rows.processes)
  pub news : (n : ℕ) → member news_pids n ≡ option_map_or has_news (process_of (n + 1000) rows.processes) false
  pub begun : (n : ℕ) → is_some (process_of (n + 1000) rows.processes) ≡ true → IsBegun news_pids (n / 64)
