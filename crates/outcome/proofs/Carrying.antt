-- What holds while a log's transfers are carried out: what is left gives the state at the end.
-- Assumes nothing.
use mathlib.Core.Path.{◌≡◌}
use mathlib.Core.List.{List}
use Prim.Native.Nat.{ℕ, ◌+◌, ◌-◌}
use native.Mathlib.Omega.{arith}
use lib.ListN.{length, take, drop}
use Rattle.sheet.specs.declared.Chips.{Chips}
use Rattle.sheet.specs.Parts.{pcf8532}
use Rattle.sheet.specs.Protocol.{whole}
use Rattle.sheet.specs.Long.{State, After, state_of, transfer_call, state_after_all}
use Rattle.log_sheet.specs.Logs.{seen_bytes, transfers_in, log_transfers}
use Rattle.records.specs.Found.{records_at}
use Rattle.records.proofs.Found.{Next, transfer-in}

-- the records from a place on, carried out from here, end as the whole log does
pub record Carrying (log : List ℕ) (n : Chips) (s₀ s : State) (place : ℕ) : Type 0 where
  pub state : state_after_all pcf8532 n s (transfers_in (seen_bytes log) (records_at (seen_bytes log) log place).bodies) ≡ state_after_all pcf8532 n s₀ (log_transfers log)
  pub long : length s.ram ≡ length s₀.ram

pub next-record : {log : List ℕ} {n : Chips} {s₀ s : State} {place start size count : ℕ} {t : After} → Carrying log n s₀ s place → Next (seen_bytes log) log place start size count
    → t ≡ transfer_call pcf8532 n s.registers s.ram (whole (take (start + size - (start + seen_bytes log)) (drop (start + seen_bytes log) log)))
    → length t.ram ≡ length s.ram → Carrying log n s₀ (state_of t.result.registers t.ram) (start + size)
unfolding state_after_all
next-record {log} {n} {s₀} {s} {place} {start} {size} p f told same =
    record { state = rw (told, transfer-in (seen_bytes log) start size log f.enough) (rw f.walk at p.state); long = omega (arith, same, p.long) }
