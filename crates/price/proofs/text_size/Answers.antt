-- `price::text_size` meets its contract, symbol by symbol.
-- Assumes nothing.
use mathlib.Core.Path.{refl}
use native.Mathlib.Omega.{arith}
use Rattle.price.proofs.text_size.Goals as goal

pub returns-in-Digit : goal.returns-in-Digit
returns-in-Digit c = (rw c.in-Digit.is refl, omega arith)

pub returns-in-Pointed : goal.returns-in-Pointed
returns-in-Pointed c = (rw c.in-Pointed.is refl, omega arith)

pub returns-in-Space : goal.returns-in-Space
returns-in-Space c = (rw c.in-Space.is refl, omega arith)

pub returns-in-Minus : goal.returns-in-Minus
returns-in-Minus c = (rw c.in-Minus.is refl, omega arith)

pub returns-in-LongMinus : goal.returns-in-LongMinus
returns-in-LongMinus c = (rw c.in-LongMinus.is refl, omega arith)
