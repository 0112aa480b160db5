-- No call refuses a state that a replay comes to, so every picture of it is shown.
-- Assumes nothing.
use mathlib.Core.Path.{◌≡◌, ◌∙◌}
use mathlib.Core.List.{List, ◌++◌}
use Prim.Native.Nat.{ℕ, zero, suc, ◌+◌, ◌*◌, ◌≤◌}
use native.Mathlib.Omega.{arith}
use lib.ListN.{length, take, drop, replicate, length-replicate, length-append}
use lib.Seq.{length-take-le, take_at}
use Rattle.sheet.specs.declared.Chips.{Chips}
use Rattle.std.specs.Prelude.{Ok}
use Rattle.sheet.specs.Parts.{pcf8532}
use Rattle.sheet.specs.Checks.{check_chips}
use Rattle.sheet.specs.Long.{State}
use Rattle.log_sheet.specs.Logs.{shown_at, log_start}
use Rattle.sheet.specs.Agree.{Valid}
use Rattle.laws.proofs.Nibbles.{Nibbles}
use Rattle.laws.proofs.Fits.{check-fits, few-chips, power_on_in}

-- zeros are below 16
blank-nibbles : (k : ℕ) → Nibbles (replicate k 0)
blank-nibbles zero i = omega arith
blank-nibbles (suc k) zero = omega arith
blank-nibbles (suc k) (suc i) = blank-nibbles k i

-- power-on, with RAM all 0
pub start-valid : (n : Chips) → check_chips pcf8532 n ≡ Ok tt → Valid pcf8532 n (log_start n)
start-valid n e =
    let few = few-chips pcf8532 n e in
    check-fits pcf8532 n (log_start n).registers (log_start n).ram
    (record {
      zero-few = few.0;
      one-few = few.1;
      zero_in = power_on_in pcf8532 (omega arith);
      one_in = power_on_in pcf8532 (omega arith);
      columns = length-replicate (160 * (n.zero + n.one)) 0;
      nibbles = blank-nibbles (160 * (n.zero + n.one));
    })

-- a group's picture in the first columns of an array
pub record Held (n : Chips) (s : State) (g columns : ℕ) (array : List ℕ) : Type 0 where
  pub held : take columns array ≡ shown_at n s g
  pub enough : columns ≤ length array

-- is what a call leaves that was lent those columns
pub pictured : (n : Chips) (s : State) (g columns : ℕ) (blank out : List ℕ) → columns ≤ length blank → length out ≡ length (take columns blank) → out ≡ shown_at n s g → Held n s g columns (out ++ drop columns blank)
pictured n s g columns blank out small kept e =
    let long = length-take-le columns blank small in
    record {
      held = take_at out _ _ (kept ∙ long) ∙ e;
      enough = omega (arith, length-append out (drop columns blank), kept, long);
    }
