-- What is shown of a group whose mode and bank are in range: rows of a column, or nothing, and nothing is a picture of no rows.
-- Assumes nothing.
use mathlib.Core.Path.{◌≡◌}
use mathlib.Core.Bool.{Bool, true, false, cond, ◌&&◌, ◌||◌}
use mathlib.Core.List.{List, map}
use Prim.Native.Nat.{ℕ, ◌+◌, ◌-◌, ◌/◌, ◌<◌}
use native.Mathlib.Nat.{mod-one}
use native.Mathlib.Omega.{arith}
use lib.Dec.{eqb, ltb}
use Rattle.sheet.specs.declared.Registers.{Registers}
use Rattle.std.specs.Prelude.{None, Some}
use Rattle.sheet.specs.Registers.{backplanes, bank_row}
use Rattle.sheet.specs.Pictures.{blinked, shown, lit, picture_of}
use Rattle.laws.proofs.Ranges.{rows_fit}

-- the bank shown is one of the two
bank-in : (other : Bool) (o : ℕ) → o < 2 → cond other (1 - o) o < 2
bank-in true o h = omega arith
bank-in false o h = h

-- the rows shown are rows of a column
pub rows_in : (r : Registers) (phase first : ℕ) → r.m < 4 → r.o < 2 → shown r phase ≡ Some first → first + backplanes r < 5
unfolding shown
rows_in r phase first hm ho e = go (eqb r.e 0 || blinked r phase && (eqb r.ab 0 || ltb 2 (backplanes r))) e
  where
    bank : ℕ
    bank = cond (blinked r phase) (1 - r.o) r.o

    go : (dark : Bool) → cond dark None (Some (bank_row (backplanes r) bank)) ≡ Some first → first + backplanes r < 5
    go true e = let z : ◌≡◌ {A = ℕ} 0 1 = cc in omega arith
    go false e =
        let same : bank_row (backplanes r) bank ≡ first = cc in
        omega (arith, (rows_fit r bank hm (bank-in (blinked r phase) r.o ho)).1)

-- a dark picture is one of no rows
pub dark_picture : (r : Registers) (phase : ℕ) (columns : List ℕ) → shown r phase ≡ None → map (lit 0 (Some 0)) columns ≡ picture_of r phase columns
unfolding picture_of
dark_picture r phase columns e = rw e (λ i. map (λ q. mod-one (q / 1) i) columns)
