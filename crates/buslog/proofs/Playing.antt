-- What holds while a log's transfers are carried out: what is left gives the whole text and the state at the end.
-- Assumes nothing.
use mathlib.Core.Path.{◌≡◌}
use mathlib.Core.List.{List, ◌++◌}
use Prim.Native.Nat.{ℕ, ◌+◌, ◌-◌, ◌≤◌}
use native.Mathlib.Numerals.{add-one}
use native.Mathlib.Omega.{arith}
use lib.ListN.{length, take, drop}
use Rattle.sheet.specs.declared.Chips.{Chips}
use Rattle.std.specs.Prelude.{Ok}
use Rattle.sheet.specs.Parts.{pcf8532}
use Rattle.sheet.specs.Protocol.{whole}
use Rattle.sheet.specs.Long.{State, After, state_of, transfer_call, state_after_all}
use Rattle.log_sheet.specs.Logs.{seen_bytes, log_records, transfers_in, log_transfers, record_lines, transfer_lines}
use Rattle.text.specs.Texts.{Puts}
use Rattle.text.proofs.Writing.{Writing, rest-is, turn}
use Rattle.records.specs.Found.{records_at}
use Rattle.records.proofs.Found.{Next, transfer-in}

-- the record at a place is the next, the text has come to at, and i records are done
pub record Playing (log : List ℕ) (n : Chips) (s₀ : State) (out₀ : List ℕ) (s : State) (out : List ℕ) (i at place : ℕ) : Type 0 where
  pub writing : Writing 0 (transfer_lines (seen_bytes log) n 0 s₀ (log_records log).bodies) out₀ at (transfer_lines (seen_bytes log) n i s (records_at (seen_bytes log) log place).bodies) out
  pub state : state_after_all pcf8532 n s (transfers_in (seen_bytes log) (records_at (seen_bytes log) log place).bodies) ≡ state_after_all pcf8532 n s₀ (log_transfers log)
  pub whole : (records_at (seen_bytes log) log place).tear ≡ Ok tt
  pub few : i ≤ place
  pub long : length s.ram ≡ length s₀.ram

-- a turn: the record there is whole, and its transfer is carried out
module _ {log : List ℕ} {n : Chips} {s₀ : State} {out₀ : List ℕ} {s : State} {out : List ℕ} {i at place start size count : ℕ} {t : After}
    (p : Playing log n s₀ out₀ s out i at place) (f : Next (seen_bytes log) log place start size count)
    (told : t ≡ transfer_call pcf8532 n s.registers s.ram (whole (take (start + size - (start + seen_bytes log)) (drop (start + seen_bytes log) log)))) where
  -- the record's lines, and those after it
  pub one_more : Writing 0 (transfer_lines (seen_bytes log) n 0 s₀ (log_records log).bodies) out₀ at
      (record_lines (seen_bytes log) i count t.result.answer ++ transfer_lines (seen_bytes log) n (i + 1) (state_of t.result.registers t.ram) (records_at (seen_bytes log) log (start + size)).bodies) out
  unfolding transfer_lines
  one_more = rest-is p.writing (rw (f.walk, add-one i, told, transfer-in (seen_bytes log) start size log f.enough, f.says))

  -- and what holds at the next record
  pub next-record : {end : ℕ} {out' : List ℕ} → length t.ram ≡ length s.ram → Puts at (record_lines (seen_bytes log) i count t.result.answer) out out' end
      → Playing log n s₀ out₀ (state_of t.result.registers t.ram) out' (i + 1) end (start + size)
  unfolding state_after_all
  next-record same q = record {
    writing = turn one_more q;
    state = rw (told, transfer-in (seen_bytes log) start size log f.enough) (rw f.walk at p.state);
    whole = rw f.walk at p.whole;
    few = omega (arith, f.begins, p.few);
    long = omega arith;
  }
