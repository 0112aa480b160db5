-- `glyphs::byte_of` meets its contract, symbol by symbol.
-- Assumes nothing.
use mathlib.Core.Path.{refl, ap₂}
use lib.Bits.{bit_or}
use Rattle.glyphs.specs.Tables.{byte_by}
use Rattle.glyphs.proofs.byte_of.Goals as goal

pub returns-in-Digit : goal.returns-in-Digit
unfolding byte_by
returns-in-Digit c = rw c.in-Digit.is c.byte_in.ensures

pub returns-in-Pointed : goal.returns-in-Pointed
unfolding byte_by
returns-in-Pointed c = rw c.in-Pointed.is (ap₂ bit_or c.byte_in-in-Pointed.ensures c.byte_in-in-Pointed-2.ensures)

pub returns-in-Space : goal.returns-in-Space
unfolding byte_by
returns-in-Space c = rw c.in-Space.is refl

pub returns-in-Minus : goal.returns-in-Minus
unfolding byte_by
returns-in-Minus c = rw c.in-Minus.is c.byte_in-in-Minus.ensures

pub returns-in-LongMinus : goal.returns-in-LongMinus
unfolding byte_by
returns-in-LongMinus c = rw c.in-LongMinus.is c.byte_in-in-LongMinus.ensures
