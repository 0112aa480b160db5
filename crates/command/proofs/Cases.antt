-- What the cases of a command tell.
-- Assumes nothing.
use mathlib.Core.Path.{◌≡◌, refl}
use mathlib.Core.Bool.{true}
use Prim.Native.Nat.{ℕ, ◌<◌}
use native.Mathlib.Omega.{arith}
use lib.Dec.{eqb}
use borrow.Author.Tests.{eqb-true}
use Rattle.lemmas.proofs.Tests.{both_true}
use Rattle.sheet.specs.declared.Marks.{Marks}
use Rattle.sheet.specs.declared.Command.{Command}
use Rattle.sheet.specs.declared.Command.TheVariants.{PointerHigh, PointerLow, Pointer, ModeSet, DeviceSelect, FrequencyCtrl, BlinkSelect, BankSelect, Undefined}
use Rattle.sheet.specs.Parts.{part_of, pcf8532_ranges, pca85133_ranges}
use Rattle.sheet.specs.Registers.{known}
use Rattle.sheet.specs.Commands.{restored}
use Rattle.laws.proofs.Ranges.{by-range}
use Rattle.laws.proofs.Named.{of-both}
use Rattle.command.specs.Nibbles.{nibble_of}

-- a pointer high or low carries a nibble
pub pointer_nibble : (part x : ℕ) → nibble_of ((part_of part).command x) < 16
pointer_nibble part x =
    of-both (λ K. nibble_of (K.command x) < 16) part
    (by-range (λ c. nibble_of c < 16) x pcf8532_ranges
    ((λ l m. omega arith), ((λ l m. omega arith), ((λ l m. omega arith), ((λ l m. omega arith), ((λ l m. omega arith), ((λ l m. omega arith), ((λ l m. omega arith), tt)))))))
    (omega arith))
    (by-range (λ c. nibble_of c < 16) x pca85133_ranges
    ((λ l m. omega arith), ((λ l m. omega arith), ((λ l m. omega arith), ((λ l m. omega arith), ((λ l m. omega arith), tt)))))
    (omega arith))

-- marks that are all known are left by every command
pub known-stays : (c : Command) (u : Marks) → known u ≡ true → u ≡ restored c u
known-stays c u h = go c
  where
    high : u.high ≡ 0
    high = eqb-true u.high 0 (both_true (eqb u.high 0) _ h).0

    low : u.low ≡ 0
    low = eqb-true u.low 0 (both_true (eqb u.low 0) _ (both_true (eqb u.high 0) _ h).1).0

    device : u.device ≡ 0
    device = eqb-true u.device 0 (both_true (eqb u.low 0) _ (both_true (eqb u.high 0) _ h).1).1

    go : (c : Command) → u ≡ restored c u
    go (PointerHigh n) = λ j. record { high = high j; low = u.low; device = u.device }
    go (PointerLow n) = λ j. record { high = u.high; low = low j; device = u.device }
    go (Pointer p) = λ j. record { high = high j; low = low j; device = u.device }
    go (ModeSet s) = refl
    go (DeviceSelect n) = λ j. record { high = u.high; low = u.low; device = device j }
    go FrequencyCtrl = refl
    go (BlinkSelect ab bf) = refl
    go (BankSelect i o) = refl
    go Undefined = refl
