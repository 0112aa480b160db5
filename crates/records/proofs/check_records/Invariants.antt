use mathlib.Core.Path.{◌≡◌}
use mathlib.Core.List.{List}
use Prim.Native.Nat.{ℕ, ◌-◌}
use lib.ListN.{length}
use Rattle.log_sheet.specs.Logs.{seen_bytes, log_records}
use Rattle.records.specs.Found.{records_at, AllCounted}
use Rattle.records.proofs.check_records.Given as goal

-- the log's records from a place on
pub record Walked (log : List ℕ) (at : ℕ) : Type 0 where
  pub tear : (records_at (seen_bytes log) log at).tear ≡ (log_records log).tear
  pub counted : AllCounted (records_at (seen_bytes log) log at).bodies → AllCounted (log_records log).bodies

abbrev pub invariant-loop-start : goal.invariant-loop-start
invariant-loop-start l = Walked l.log l.at

abbrev pub decreases-loop-start : goal.decreases-loop-start
decreases-loop-start l = length l.log - l.at
