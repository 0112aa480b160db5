-- The lit elements of a picture in two parts, and how many a part can have.
-- Assumes nothing.
use mathlib.Core.Path.{◌≡◌, sym}
use mathlib.Core.List.{List, [], ◌∷◌, ◌++◌, map}
use Prim.Native.Nat.{ℕ, ◌+◌, ◌*◌, ◌/◌, ◌%◌, ◌^◌, ◌≤◌}
use native.Mathlib.Nat.{zero-add, add_assoc, mod-lt}
use native.Mathlib.Omega.{arith}
use lib.Count.{ones, ones-le}
use lib.ListN.{length}
use lib.Pow.{pow_pos}
use Rattle.std.specs.Prelude.{Some}
use Rattle.sheet.specs.Pictures.{lit, lit_in}

pub lit_join : (a b : List ℕ) → lit_in (a ++ b) ≡ lit_in a + lit_in b
unfolding lit_in
lit_join [] b = sym (zero-add (lit_in b))
lit_join (q ∷ qs) b = rw (lit_join qs b) (sym (add_assoc (ones q) (lit_in qs) (lit_in b)))

-- a column shows no more than its rows
pub rows-lit : (m b q : ℕ) → ones (lit m (Some b) q) ≤ m
rows-lit m b q = ones-le m (q / 2 ^ b % 2 ^ m) (mod-lt (q / 2 ^ b) (pow_pos m))

pub few-lit : (m b : ℕ) (columns : List ℕ) → lit_in (map (lit m (Some b)) columns) ≤ m * length columns
unfolding lit_in
few-lit m b [] = omega arith
few-lit m b (q ∷ qs) = omega (arith, rows-lit m b q, few-lit m b qs)
