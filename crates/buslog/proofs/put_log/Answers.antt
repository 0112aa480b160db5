-- `buslog::put_log` meets its contract: the RAM of the log's chips is a part of an array of zeros.
-- Assumes nothing.
use mathlib.Core.Path.{◌≡◌, refl, sym, ap}
use mathlib.Core.List.{List, ◌∷◌}
use Prim.Native.Nat.{ℕ, zero, suc, ◌+◌, ◌*◌, ◌≤◌}
use native.Mathlib.Nat.{le_of_suc-le-suc}
use native.Mathlib.Omega.{arith}
use lib.ListN.{length, take, replicate, length-replicate}
use lib.Seq.{length-take-le}
use Rattle.std.specs.Prelude.{Ok}
use Rattle.sheet.specs.Parts.{pcf8532}
use Rattle.sheet.specs.Checks.{check_chips}
use Rattle.sheet.specs.declared.Chips.{Chips}
use Rattle.log_sheet.specs.Logs.{log_chips, check_log, seen_bytes, log_records, log_lines, text_of}
use Rattle.laws.proofs.Fits.{few-chips}
use Rattle.buslog.proofs.Checked.{checked, text-passed}
use Rattle.buslog.proofs.put_log.Goals as goal

-- a part of a list of zeros
zeros : (k n : ℕ) → k ≤ n → take {A = ℕ} k (replicate n 0) ≡ replicate k 0
zeros zero n h = refl
zeros (suc k) zero h = absurd (omega arith)
zeros (suc k) (suc n) h = ap (λ (l : List ℕ). 0 ∷ l) (zeros k n (le_of_suc-le-suc h))

-- the chips passed their check
chips : (log : List ℕ) (n : Chips) → n ≡ log_chips log → check_log log ≡ Ok tt → check_chips pcf8532 n ≡ Ok tt
chips log n e passed = rw e (checked log passed).chips

-- so their columns are at most those of the array
few : (n : Chips) → check_chips pcf8532 n ≡ Ok tt → 160 * (n.zero + n.one) ≤ 1280
few n passed = let h = few-chips pcf8532 n passed in omega arith

small : (log : List ℕ) (n : Chips) (ram : List ℕ) → n ≡ log_chips log → check_log log ≡ Ok tt → ram ≡ replicate 1280 0 → 160 * (n.zero + n.one) ≤ length ram
small log n ram e passed blank = omega (arith, few n (chips log n e passed), ap length blank, length-replicate {A = ℕ} 1280 0)

-- the text
lines : (log : List ℕ) (n : Chips) → n ≡ log_chips log → check_log log ≡ Ok tt → text_of log ≡ log_lines (seen_bytes log) n (log_records log).bodies
lines log n e passed = rw e (text-passed log passed)

pub play-requires : goal.play-requires
play-requires c = let log = c.args.log.now in
    let n = c.chips_of-chips.result in
    let passed = chips log n c.chips_of-chips.ensures c.requires.log_value in
    record {
      chips = passed;
      whole = (checked log c.requires.log_value).whole;
      blank = rw c.blank_ram-ram.ensures (zeros (160 * (n.zero + n.one)) 1280 (few n passed));
      room = rw (lines log n c.chips_of-chips.ensures c.requires.log_value) at c.requires.log_in_bounds;
    }

pub returns : goal.returns
returns c = rw (lines c.args.log.now c.chips_of-chips.result c.chips_of-chips.ensures c.requires.log_value) c.play.ensures

pub slice_bounds-ram-end : goal.slice_bounds-ram-end
slice_bounds-ram-end c = small c.args.log.now c.chips_of-chips.result c.blank_ram-ram.result c.chips_of-chips.ensures c.requires.log_value c.blank_ram-ram.ensures

pub slice_bounds-play-end : goal.slice_bounds-play-end
slice_bounds-play-end c = sym (length-take-le _ _ (small c.args.log.now c.chips_of-chips.result c.blank_ram-ram.result c.chips_of-chips.ensures c.requires.log_value c.blank_ram-ram.ensures))
