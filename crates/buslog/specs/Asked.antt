-- What the parts of a replay ask of their callers.
-- Assumes nothing.
use Rattle.std.specs.Prelude.{◌≡◌, List, ℕ, ◌+◌, ◌*◌, ◌≤◌, ◌<◌, length, Ok}
use Rattle.sheet.specs.declared.Chips.{Chips}
use Rattle.sheet.specs.Parts.{pcf8532}
use Rattle.sheet.specs.Protocol.{chips_in}
use Rattle.sheet.specs.Checks.{check_chips}
use Rattle.sheet.specs.Long.{State}
use Rattle.log_sheet.specs.Logs.{seen_bytes, log_records, column_lines, shown_at, log_start, log_lines}
use Rattle.sheet.specs.Agree.{Valid}

-- a group's columns can be listed: no call refuses the state, and there is room
pub record Listable (n : Chips) (s : State) (g columns at : ℕ) (out : List ℕ) : Type 0 where
  pub group : g < 2
  pub size : columns ≡ 160 * chips_in g n
  pub valid : Valid pcf8532 n s
  pub room : at + length (column_lines g 0 (shown_at n s g)) ≤ length out

-- a log can be played: it passed its checks, the RAM is as at power-on, and there is room
pub record Playable (log : List ℕ) (n : Chips) (ram out : List ℕ) : Type 0 where
  pub chips : check_chips pcf8532 n ≡ Ok tt
  pub whole : (log_records log).tear ≡ Ok tt
  pub blank : ram ≡ (log_start n).ram
  pub room : length (log_lines (seen_bytes log) n (log_records log).bodies) ≤ length out
