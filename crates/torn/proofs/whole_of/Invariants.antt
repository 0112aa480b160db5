use mathlib.Core.Path.{◌≡◌}
use mathlib.Core.List.{List}
use Prim.Native.Nat.{ℕ, ◌+◌, ◌-◌, ◌≤◌}
use lib.ListN.{length}
use Rattle.log_sheet.specs.Records.{size_of}
use Rattle.log_sheet.specs.Logs.{seen_bytes, log_records}
use Rattle.log_sheet.specs.Rescue.{kept_of}
use Rattle.records.specs.Found.{records_at}
use Rattle.torn.proofs.whole_of.Given as goal

-- the records from a place on, of which so many stand before it
pub record Walked (log : List ℕ) (count at : ℕ) : Type 0 where
  pub records : count + length (records_at (seen_bytes log) log at).bodies ≡ length (log_records log).bodies
  pub bytes : at + size_of (records_at (seen_bytes log) log at).bodies ≡ kept_of log
  pub few : count ≤ at

abbrev pub invariant-loop-start : goal.invariant-loop-start
invariant-loop-start l = Walked l.log l.count l.cursor.at × (l.cursor.seen ≡ seen_bytes l.log)

abbrev pub decreases-loop-start : goal.decreases-loop-start
decreases-loop-start l = length l.log - l.cursor.at
