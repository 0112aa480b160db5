-- A call's test of the lent buffers' sizes: past it both have theirs.
-- Assumes nothing.
use mathlib.Core.Path.{◌≡◌}
use mathlib.Core.Bool.{Bool, true, ◌&&◌}
use Prim.Native.Nat.{ℕ}
use lib.Dec.{eqb}
use borrow.Author.Tests.{eqb-true}
use Rattle.lemmas.proofs.Tests.{both_true}

pub first-sized : {a m : ℕ} (other : Bool) → (eqb a m && other) ≡ true → a ≡ m
first-sized {a} {m} other e = eqb-true a m (both_true (eqb a m) other e).0

pub second-sized : {a m : ℕ} (other : Bool) → (other && eqb a m) ≡ true → a ≡ m
second-sized {a} {m} other e = eqb-true a m (both_true other (eqb a m) e).1
