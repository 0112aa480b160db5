-- Parts of a list as the code takes them: the elements from i on, one of them, and all that are left.
-- Assumes nothing.
use mathlib.Core.Path.{◌≡◌, refl, sym, ap, ◌∙◌}
use mathlib.Core.List.{List, [], ◌∷◌, ◌++◌, append-nil}
use Prim.Native.Nat.{ℕ, zero, suc, ◌+◌, ◌-◌, ◌≤◌, ◌<◌}
use native.Mathlib.Nat.{zero-add, add-sub_cancel_left, le_refl}
use native.Mathlib.Numerals.{add-one}
use native.Mathlib.Omega.{arith}
use lib.ListN.{length, get_or, take, drop, length-drop, drop_of_length-le, replicate, length-replicate}
use lib.Seq.{drop-cons, drop-drop, take_all, take_at, sets, sets-eq}

-- those from i on are element i and those from i + 1 on
pub next : (l : List ℕ) (i : ℕ) → i < length l → drop i l ≡ get_or l i 0 ∷ drop (i + 1) l
next l i h = rw (add-one i) (drop-cons l i 0 h)

-- the part from i to i + 1
pub part-one : (l : List ℕ) (i : ℕ) → i < length l → take (i + 1 - i) (drop i l) ≡ get_or l i 0 ∷ []
part-one l i h = rw (add-sub_cancel_left i 1, next l i h)

-- the part from i to the end
pub part-rest : (l : List ℕ) (i : ℕ) → take (length l - i) (drop i l) ≡ drop i l
part-rest l i = take_all (length l - i) (drop i l) (rw (length-drop i l) (le_refl (length l - i)))

-- a list set whole from its start is what it was set to
pub filled : (vs l : List ℕ) → length l ≡ length vs → sets l 0 vs ≡ vs
filled vs l e =
    sets-eq vs l 0 (rw (zero-add (length vs), e) (le_refl (length vs)))
    ∙ ap (λ (r : List ℕ). vs ++ r) (drop_of_length-le l {i = 0 + length vs} (rw (zero-add (length vs), e) (le_refl (length vs))))
    ∙ append-nil vs

-- how long an array of zeros is, for any length, since a long one is better not counted
pub zeros : (n : ℕ) → n ≡ length (replicate {A = ℕ} n 0)
zeros n = sym (length-replicate n 0)

take_none : (n : ℕ) → take {A = ℕ} n [] ≡ []
take_none zero = refl
take_none (suc n) = refl

-- a part of a list without its first bytes
pub drop-take : (k n : ℕ) (l : List ℕ) → k ≤ n → drop k (take n l) ≡ take (n - k) (drop k l)
drop-take zero n l h = let all : n - 0 ≡ n = omega arith in rw all
drop-take (suc k) zero l h = absurd (omega arith)
drop-take (suc k) (suc n) [] h = sym (take_none (suc n - suc k))
drop-take (suc k) (suc n) (x ∷ l) h = let less : suc n - suc k ≡ n - k = omega arith in rw less (drop-take k n l (omega arith))

-- those from n on are replaced by b
pub end-replaced : (l b : List ℕ) (n : ℕ) → take n l ++ (b ++ drop (length l - n) (drop n l)) ≡ take n l ++ b
end-replaced l b n = ap (λ (r : List ℕ). take n l ++ (b ++ r)) (drop-drop (length l - n) n l ∙ drop_of_length-le l {i = n + (length l - n)} (omega arith)) ∙ ap (λ (r : List ℕ). take n l ++ r) (append-nil b)

-- after the first n, which are a, come those of b
pub after_first : (a d b : List ℕ) (n : ℕ) → length a ≡ n → take n (a ++ d) ++ (b ++ drop (length (a ++ d) - n) (drop n (a ++ d))) ≡ a ++ b
after_first a d b n e = end-replaced (a ++ d) b n ∙ ap (λ (r : List ℕ). r ++ b) (take_at a d n e)
