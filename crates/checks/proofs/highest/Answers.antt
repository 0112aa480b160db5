-- `checks::highest` meets its contract: the higher of what is found and what is left is the highest of all.
-- Assumes nothing.
use mathlib.Core.Path.{◌≡◌}
use mathlib.Core.List.{List}
use Prim.Native.Nat.{ℕ, ◌+◌, ◌<◌, ◌≤◌, max}
use native.Mathlib.Omega.{arith}
use lib.ListN.{length, get_or, drop, drop_of_length-le}
use Rattle.lemmas.proofs.Lists.{next}
use Rattle.checks.specs.Highest.{highest_of}
use Rattle.checks.proofs.highest.Goals as goal

turn : (l : List ℕ) (i : ℕ) → i < length l → highest_of (drop i l) ≡ max (get_or l i 0) (highest_of (drop (i + 1) l))
unfolding highest_of
turn l i h = rw (next l i h)

done : (l : List ℕ) (i : ℕ) → length l ≤ i → highest_of (drop i l) ≡ 0
unfolding highest_of
done l i h = rw (drop_of_length-le l h)

pub loop-column-init : goal.loop-column-init
loop-column-init c = omega arith

pub loop-column-preserved : goal.loop-column-preserved
loop-column-preserved c = let l = c.args.columns.now in
    omega (arith, turn l c.loop-column.column-index c.loop-column-test.true, c.max-found.ensures, c.loop-column.invariant)

pub returns : goal.returns
returns c = let l = c.args.columns.now in
    omega (arith, done l c.loop-column.column-index c.loop-column-test.false, c.loop-column.invariant)
