-- Digits and their values.
-- Assumes nothing.
use mathlib.Core.Path.{◌≡◌, refl, ap}
use mathlib.Core.Bool.{Bool, true, false, cond}
use mathlib.Core.List.{List, [], ◌∷◌}
use Prim.Native.Nat.{ℕ, zero, suc, ◌+◌, ◌*◌, ◌-◌, ◌≤◌, ◌<◌}
use native.Mathlib.Omega.{arith}
use lib.Dec.{leb, ltb}
use lib.ListN.{length, get_or, drop, drop_of_length-le}
use borrow.Author.Tests.{ltb-true, leb-true}
use Rattle.std.specs.Prelude.{nat_lt, ◌&&◌}
use Rattle.std.specs.List.{list_all}
use Rattle.lemmas.proofs.Tests.{both_true}
use Rattle.lemmas.proofs.Lists.{next}
use Rattle.sheet.specs.Parts.{within}
use Rattle.image_sheet.specs.Images.{value_of, pair_of, are_digits, bytes_of}

by_tests : (s t : Bool) (c : ℕ) → within 48 57 c ≡ s → within 65 70 c ≡ t → cond s (c - 48) (cond t (c - 55) 16) ≤ 16
unfolding within
by_tests true t c e f = let l = leb-true c 57 (both_true (leb 48 c) (leb c 57) e).1 in omega arith
by_tests false true c e f = let l = leb-true c 70 (both_true (leb 65 c) (leb c 70) f).1 in omega arith
by_tests false false c e f = omega arith

-- no value is over 16
pub value-most : (c : ℕ) → value_of c ≤ 16
unfolding value_of
value-most c = by_tests (within 48 57 c) (within 65 70 c) c refl refl

-- each digit of digits
pub digit_at : (l : List ℕ) (i : ℕ) → are_digits l ≡ true → i < length l → value_of (get_or l i 0) < 16
unfolding are_digits
digit_at [] i e h = absurd (omega arith)
digit_at (c ∷ cs) zero e h = ltb-true (value_of c) 16 (both_true (ltb (value_of c) 16) (are_digits cs) e).0
digit_at (c ∷ cs) (suc i) e h = digit_at cs i (both_true (ltb (value_of c) 16) (are_digits cs) e).1 (omega arith)

-- one more pair
pub one_pair : (text : List ℕ) (i : ℕ) → 2 * i + 1 < length text → bytes_of (drop (2 * i) text) ≡ pair_of (get_or text (2 * i) 0) (get_or text (2 * i + 1) 0) ∷ bytes_of (drop (2 * (i + 1)) text)
unfolding bytes_of
one_pair text i h =
    rw (next text (2 * i) (omega arith), next text (2 * i + 1) h)
    (ap (λ (k : ℕ). pair_of (get_or text (2 * i) 0) (get_or text (2 * i + 1) 0) ∷ bytes_of (drop k text)) {x = 2 * i + 1 + 1} {y = 2 * (i + 1)} (omega arith))

-- and none
pub no_pair : (text : List ℕ) (i : ℕ) → length text ≤ 2 * i → bytes_of (drop (2 * i) text) ≡ []
unfolding bytes_of
no_pair text i h = rw (drop_of_length-le text {i = 2 * i} h)

-- each character passes the same test
pub all-digits : (l : List ℕ) → list_all (λ (c : ℕ). nat_lt (value_of c) 16) l ≡ are_digits l
unfolding are_digits
all-digits [] = refl
all-digits (c ∷ cs) = ap (λ (b : Bool). ltb (value_of c) 16 && b) (all-digits cs)
