-- `arithmetic::with_row` meets its contract: at each of the four rows nothing overflows, and it is the definition.
-- Assumes nothing.
use mathlib.Core.Path.{◌≡◌, refl}
use Prim.Native.Nat.{ℕ, zero, suc, ◌+◌, ◌*◌, ◌/◌, ◌%◌, ◌^◌, ◌<◌}
use native.Mathlib.Omega.{arith}
use Rattle.sheet.specs.Data.{with_row}
use Rattle.arithmetic.proofs.with_row.Goals as goal

-- what the code makes of a row that is worth low
record Made (row bit q low : ℕ) : Type 0 where
  some : 0 < low
  room : 2 * low < 256
  small : q / (2 * low) * (2 * low) + bit * low + q % low < 256
  same : q / (2 * low) * (2 * low) + bit * low + q % low ≡ with_row row bit q

-- row by row
made : (row bit q : ℕ) → row < 4 → bit < 2 → q < 256 → Made row bit q (1 * 2 ^ row % 256)
unfolding with_row
made zero bit q h t l = record { some = omega arith; room = omega arith; small = omega arith; same = refl }
made (suc zero) bit q h t l = record { some = omega arith; room = omega arith; small = omega arith; same = refl }
made (suc (suc zero)) bit q h t l = record { some = omega arith; room = omega arith; small = omega arith; same = refl }
made (suc (suc (suc zero))) bit q h t l = record { some = omega arith; room = omega arith; small = omega arith; same = refl }
made (suc (suc (suc (suc row)))) bit q h t l = omega arith

-- of this call
made-here : (c : goal.Start) → Made c.args.row c.args.bit c.args.column (1 * 2 ^ c.args.row % 256)
made-here c = made _ _ _ c.requires.0 c.requires.1 c.ranges.column.fits

pub overflow_mul-high : goal.overflow_mul-high
overflow_mul-high c = omega (arith, (made-here c).room)

pub nonzero_div-result : goal.nonzero_div-result
nonzero_div-result c = omega (arith, (made-here c).some)

pub overflow_mul-result : goal.overflow_mul-result
overflow_mul-result c = omega (arith, (made-here c).small)

pub overflow_mul-result-2 : goal.overflow_mul-result-2
overflow_mul-result-2 c = omega (arith, (made-here c).small)

pub overflow_add-result : goal.overflow_add-result
overflow_add-result c = omega (arith, (made-here c).small)

pub nonzero_rem-result : goal.nonzero_rem-result
nonzero_rem-result c = (made-here c).some

pub overflow_add-result-2 : goal.overflow_add-result-2
overflow_add-result-2 c = omega (arith, (made-here c).small)

pub returns : goal.returns
returns c = (made-here c).same
