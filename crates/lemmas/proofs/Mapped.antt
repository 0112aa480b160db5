-- A list written element by element from another: the first i elements are f of those of the other.
-- Assumes nothing.
use mathlib.Core.Path.{◌≡◌, refl, sym, ◌∙◌, ap}
use mathlib.Core.List.{List, [], ◌∷◌, map, map-append}
use Prim.Native.Nat.{ℕ, ◌+◌, ◌≤◌, ◌<◌}
use native.Mathlib.Numerals.{add-one}
use native.Mathlib.Omega.{arith}
use lib.ListN.{length, get_or, set, take, length-set}
use lib.Seq.{take_all, take-suc, take-suc-set}

pub record Mapped (f : ℕ → ℕ) (from to : List ℕ) (i : ℕ) : Type 0 where
  pub size : length to ≡ length from
  pub so_far : take i to ≡ map f (take i from)

-- an element more
pub mapped-one : (f : ℕ → ℕ) (from to : List ℕ) (i q : ℕ) → i < length from → q ≡ f (get_or from i 0) → Mapped f from to i
    → Mapped f from (set to i q) (i + 1)
mapped-one f from to i q h e s =
    record {
      size = length-set to i q ∙ s.size;
      so_far = rw (add-one i, take-suc-set to i q (omega (arith, s.size)), take-suc from i 0 h, map-append f (take i from) (get_or from i 0 ∷ []), s.so_far, e);
    }

-- all elements
pub mapped-all : (f : ℕ → ℕ) (from to : List ℕ) (i : ℕ) → length from ≤ i → Mapped f from to i → to ≡ map f from
mapped-all f from to i h s = sym (take_all i to (omega (arith, s.size))) ∙ s.so_far ∙ ap (map f) (take_all i from h)

-- a copy
pub copied : (from : List ℕ) → map (λ q. q) from ≡ from
copied [] = refl
copied (x ∷ xs) = ap (λ (l : List ℕ). x ∷ l) (copied xs)
