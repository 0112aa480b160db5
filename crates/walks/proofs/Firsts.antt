-- The lists of a loop that replaces each element by what f makes of it: in the turn at i the first i are replaced.
-- Assumes nothing.
use mathlib.Core.Path.{◌≡◌, refl, ap}
use mathlib.Core.List.{List, [], ◌∷◌, map}
use Prim.Native.Nat.{ℕ, zero, suc, ◌<◌}
use native.Mathlib.Nat.{not-suc-le-zero, le_of_suc-le-suc}
use lib.ListN.{length, get_or, set}

module _ {X : Type 0} (f : X → X) where
  abbrev pub first_of : ℕ → List X → List X
  first_of zero xs = xs
  first_of (suc i) [] = []
  first_of (suc i) (x ∷ xs) = f x ∷ first_of i xs

  pub first-length : (i : ℕ) (xs : List X) → length (first_of i xs) ≡ length xs
  first-length zero xs = refl
  first-length (suc i) [] = refl
  first-length (suc i) (x ∷ xs) = ap suc (first-length i xs)

  pub first-at : (i : ℕ) (xs : List X) (d : X) → get_or (first_of i xs) i d ≡ get_or xs i d
  first-at zero xs d = refl
  first-at (suc i) [] d = refl
  first-at (suc i) (x ∷ xs) d = first-at i xs d

  pub first_more : (i : ℕ) (xs : List X) (d : X) → i < length xs → set (first_of i xs) i (f (get_or xs i d)) ≡ first_of (suc i) xs
  first_more zero [] d l = absurd (not-suc-le-zero l)
  first_more zero (x ∷ xs) d l = refl
  first_more (suc i) [] d l = refl
  first_more (suc i) (x ∷ xs) d l = ap (λ (r : List X). f x ∷ r) (first_more i xs d (le_of_suc-le-suc l))

  pub first-all : (xs : List X) → first_of (length xs) xs ≡ map f xs
  first-all [] = refl
  first-all (x ∷ xs) = ap (λ (r : List X). f x ∷ r) (first-all xs)
