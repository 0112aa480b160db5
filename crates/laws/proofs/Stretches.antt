-- A byte within a stretch that no range of a table cuts is told as the stretch's first byte is, with its own bits.
-- Assumes nothing.
use mathlib.Core.Path.{◌≡◌, refl, sym, ◌∙◌}
use mathlib.Core.Bool.{Bool, true, false, cond, ◌&&◌, ◌||◌, and-false, false≢true}
use mathlib.Core.List.{List, [], ◌∷◌}
use Prim.Native.Nat.{ℕ, ◌≤◌, ◌<◌}
use native.Mathlib.Omega.{arith}
use lib.Dec.{leb, ltb}
use borrow.Author.Tests.{le-leb, lt-leb, leb-true, ltb-true}
use Rattle.lemmas.proofs.Tests.{both_true}
use Rattle.sheet.specs.declared.Command.{Command}
use Rattle.sheet.specs.declared.Command.TheVariants.{Undefined}
use Rattle.sheet.specs.Parts.{within, Range, command_in}

-- the stretch from a to b is below lo, above hi, or within both
abbrev pub uncut : ℕ → ℕ → ℕ → ℕ → Bool
uncut lo hi a b = ltb b lo || (ltb hi a || leb lo a && leb b hi)

below : (lo hi n : ℕ) → n < lo → within lo hi n ≡ false
unfolding within
below lo hi n h = rw (lt-leb lo n h)

above : (lo hi n : ℕ) → hi < n → within lo hi n ≡ false
unfolding within
above lo hi n h = rw (lt-leb n hi h) (and-false (leb lo n))

inside : (lo hi n : ℕ) → lo ≤ n → n ≤ hi → within lo hi n ≡ true
unfolding within
inside lo hi n l h = rw (le-leb lo n l, le-leb n hi h)

-- a test gives the same all over a stretch that it does not cut
same : (lo hi a b n : ℕ) → a ≤ n → n ≤ b → uncut lo hi a b ≡ true → within lo hi n ≡ within lo hi a
same lo hi a b n l h t = go (ltb b lo) (ltb hi a) (leb lo a) (leb b hi) refl refl refl refl t
  where
    go : (p q r s : Bool) → ltb b lo ≡ p → ltb hi a ≡ q → leb lo a ≡ r → leb b hi ≡ s → (p || (q || r && s)) ≡ true → within lo hi n ≡ within lo hi a
    go true q r s ep eq er es t = let k = ltb-true b lo ep in below lo hi n (omega arith) ∙ sym (below lo hi a (omega arith))
    go false true r s ep eq er es t = let k = ltb-true hi a eq in above lo hi n (omega arith) ∙ sym (above lo hi a (omega arith))
    go false false true true ep eq er es t =
        let i = leb-true lo a er in
        let j = leb-true b hi es in
        inside lo hi n (omega arith) (omega arith) ∙ sym (inside lo hi a (omega arith) (omega arith))
    go false false true false ep eq er es t = absurd (false≢true t)
    go false false false s ep eq er es t = absurd (false≢true t)

-- no range of a table cuts the stretch
abbrev pub whole : List Range → ℕ → ℕ → Bool
whole [] a b = true
whole (t ∷ ts) a b = uncut t.first t.last a b && whole ts a b

-- the command that the ranges tell of a, with the bits of n
abbrev pub told : List Range → ℕ → ℕ → Command
told [] a n = Undefined
told (t ∷ ts) a n = cond (within t.first t.last a) (t.is n) (told ts a n)

as_first : (ts : List Range) (a b n : ℕ) → a ≤ n → n ≤ b → whole ts a b ≡ true → command_in ts n ≡ told ts a n
unfolding command_in
as_first [] a b n l h w = refl
as_first (t ∷ ts) a b n l h w =
    let v = both_true (uncut t.first t.last a b) (whole ts a b) w in
    rw (same t.first t.last a b n l h v.0, as_first ts a b n l h v.1)

-- from a to b
pub stretch : (ts : List Range) (a b n : ℕ) → a ≤ n → n ≤ b → whole ts a b ≡ true → told ts a n ≡ command_in ts n
stretch ts a b n l h w = sym (as_first ts a b n l h w)
