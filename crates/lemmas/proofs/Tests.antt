-- Tests that compute: the parts of a conjunction that is true and of a disjunction that is false, and a statement about every number below a bound by one computed test.
-- Assumes nothing.
use mathlib.Core.Bool.{Bool, true, false, ◌&&◌, ◌||◌, true≢false}
use mathlib.Core.Logic.{⊎_elim}
use mathlib.Core.Path.{◌≡◌, refl, subst, sym}
use Prim.Native.Nat.{ℕ, zero, suc, ◌<◌}
use native.Mathlib.Nat.{le_of_suc-le-suc, not-suc-le-zero, eq-or-lt_of_le}
use lib.Dec.{T}

pub and_left : (a b : Bool) → T (a && b) → T a
and_left true b t = tt
and_left false b t = t

pub and_right : (a b : Bool) → T (a && b) → T b
and_right true b t = t
and_right false b t = absurd t

-- a conjunction that is true has true parts
pub both_true : (a b : Bool) → (a && b) ≡ true → (a ≡ true) × (b ≡ true)
both_true true b e = (refl, e)
both_true false true e = (e, refl)
both_true false false e = (e, e)

-- a disjunction that is false has false parts
pub either_false : (a b : Bool) → (a || b) ≡ false → (a ≡ false) × (b ≡ false)
either_false true b e = (e, absurd (true≢false e))
either_false false b e = (refl, e)

-- the test f passes at every number below n
abbrev pub all : ℕ → (ℕ → Bool) → Bool
all zero f = true
all (suc n) f = f n && all n f

pub all-at : (n : ℕ) (f : ℕ → Bool) → T (all n f) → (k : ℕ) → k < n → T (f k)
all-at zero f t k h = absurd (not-suc-le-zero h)
all-at (suc n) f t k h =
    ⊎_elim (λ e. subst (λ (i : ℕ). T (f i)) (sym e) (and_left (f n) (all n f) t))
    (λ l. all-at n f (and_right (f n) (all n f) t) k l)
    (eq-or-lt_of_le (le_of_suc-le-suc h))
