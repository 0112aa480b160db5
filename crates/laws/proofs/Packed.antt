-- Packed columns (paper 02, request 6): packing what was unpacked, parts of a packed RAM, and one column of the unpacked list changed as one nibble of the packed one.
-- Assumes nothing.
use mathlib.Core.Path.{◌≡◌, refl, sym, ap, ap₂, ◌∙◌}
use mathlib.Core.Bool.{Bool, true, false, cond}
use mathlib.Core.List.{List, [], ◌∷◌, ◌++◌}
use mathlib.Core.Logic.{◌≢◌, ⊎_elim}
use Prim.Native.Nat.{ℕ, zero, suc, ◌+◌, ◌-◌, ◌*◌, ◌/◌, ◌%◌, ◌≤◌, ◌<◌}
use native.Mathlib.Nat.{suc-add, mul_comm, mul_assoc, mod-lt, div-add-mod', mul-div_cancel}
use native.Mathlib.Omega.{arith}
use lib.Arith.{digits_div, digits_mod}
use lib.Dec.{eqb}
use lib.ListN.{length, get_or, take, drop}
use lib.Pow.{shr_lt}
use borrow.Author.Tests.{eq-eqb, ne_eqb}
use Rattle.lemmas.proofs.Order.{equal_or_not}
use Rattle.sheet.specs.declared.Chips.{Chips}
use Rattle.std.specs.Prelude.{Ok}
use Rattle.sheet.specs.Parts.{Part}
use Rattle.sheet.specs.Protocol.{chips_in}
use Rattle.sheet.specs.Checks.{over_in}
use Rattle.sheet.specs.Data.{changed}
use Rattle.sheet.specs.Long.{start_of, end_of, columns_of, with_columns}
use Rattle.packed_sheet.specs.Packed.{unpacked, packed, columns_in, Bytes}
use Rattle.laws.proofs.Nibbles.{Nibbles, check-nibbles}

-- ---- there and back

twice_suc : (n : ℕ) → 2 * suc n ≡ suc (suc (2 * n))
twice_suc n = omega arith

pub length-unpacked : (xs : List ℕ) → length (unpacked xs) ≡ 2 * length xs
unfolding unpacked
length-unpacked [] = refl
length-unpacked (x ∷ xs) = rw (twice_suc (length xs)) (ap (λ (n : ℕ). suc (suc n)) (length-unpacked xs))

-- packing what was unpacked is the identity
pub packed-unpacked : (xs : List ℕ) → packed (unpacked xs) ≡ xs
unfolding unpacked packed
packed-unpacked [] = refl
packed-unpacked (x ∷ xs) = ap₂ (λ (y : ℕ) (ys : List ℕ). y ∷ ys) (omega (arith, div-add-mod' x 16)) (packed-unpacked xs)

-- of either form
pub columns-held : (is_packed : Bool) (ram : List ℕ) → length (columns_in is_packed ram) ≡ cond is_packed (2 * length ram) (length ram)
columns-held true ram = length-unpacked ram
columns-held false ram = refl

pub bytes-few : (is_packed : Bool) (ram : List ℕ) → length ram ≤ length (columns_in is_packed ram)
bytes-few true ram = omega (arith, length-unpacked ram)
bytes-few false ram = omega arith

pub bytes-alike : (is_packed : Bool) (xs ys : List ℕ) → length (columns_in is_packed xs) ≡ length (columns_in is_packed ys) → length xs ≡ length ys
bytes-alike true xs ys e = omega (arith, length-unpacked xs, length-unpacked ys, e)
bytes-alike false xs ys e = e

halves : (even odd : ℕ) → even < 16 → ((even + 16 * odd) % 16 ≡ even) × ((even + 16 * odd) / 16 ≡ odd)
halves even odd l =
    let e : even + 16 * odd ≡ odd * 16 + even = omega arith in
    (ap (λ (x : ℕ). x % 16) e ∙ digits_mod odd l, ap (λ (x : ℕ). x / 16) e ∙ digits_div odd l)

-- and what was packed unpacks again, where the columns are columns and each has a neighbour
pub unpacked-packed : (n : ℕ) (qs : List ℕ) → length qs ≡ 2 * n → Nibbles qs → unpacked (packed qs) ≡ qs
unfolding unpacked packed
unpacked-packed n [] e w = refl
unpacked-packed n (q ∷ []) e w = absurd (omega (arith, e))
unpacked-packed zero (p ∷ q ∷ qs) e w = absurd (omega (arith, e))
unpacked-packed (suc n) (p ∷ q ∷ qs) e w =
    let h = halves p q (w 0) in
    λ j. h.0 j ∷ h.1 j ∷ unpacked-packed n qs (omega (arith, e)) (λ i. w (suc (suc i))) j

-- ---- parts

pub unpacked-take : (n : ℕ) (xs : List ℕ) → unpacked (take n xs) ≡ take (2 * n) (unpacked xs)
unfolding unpacked
unpacked-take zero xs = refl
unpacked-take (suc n) [] = rw (twice_suc n)
unpacked-take (suc n) (x ∷ xs) = rw (twice_suc n) (ap (λ (l : List ℕ). x % 16 ∷ x / 16 ∷ l) (unpacked-take n xs))

pub unpacked-drop : (n : ℕ) (xs : List ℕ) → unpacked (drop n xs) ≡ drop (2 * n) (unpacked xs)
unfolding unpacked
unpacked-drop zero xs = refl
unpacked-drop (suc n) [] = rw (twice_suc n)
unpacked-drop (suc n) (x ∷ xs) = rw (twice_suc n) (unpacked-drop n xs)

pub unpacked_join : (xs ys : List ℕ) → unpacked (xs ++ ys) ≡ unpacked xs ++ unpacked ys
unfolding unpacked
unpacked_join [] ys = refl
unpacked_join (x ∷ xs) ys = ap (λ (l : List ℕ). x % 16 ∷ x / 16 ∷ l) (unpacked_join xs ys)

pub unpacked-part : (start end : ℕ) (xs : List ℕ) → unpacked (take (end - start) (drop start xs)) ≡ take (2 * end - 2 * start) (drop (2 * start) (unpacked xs))
unpacked-part start end xs =
    let e : 2 * (end - start) ≡ 2 * end - 2 * start = omega arith in
    unpacked-take (end - start) (drop start xs) ∙ ap₂ (λ (n : ℕ) (l : List ℕ). take n l) e (unpacked-drop start xs)

-- ---- one column

pub even-column : (i : ℕ) (xs : List ℕ) → get_or (unpacked xs) (2 * i) 0 ≡ get_or xs i 0 % 16
unfolding unpacked
even-column i [] = refl
even-column zero (x ∷ xs) = refl
even-column (suc i) (x ∷ xs) = rw (twice_suc i) (even-column i xs)

pub odd-column : (i : ℕ) (xs : List ℕ) → get_or (unpacked xs) (2 * i + 1) 0 ≡ get_or xs i 0 / 16
unfolding unpacked
odd-column i [] = refl
odd-column zero (x ∷ xs) = refl
odd-column (suc i) (x ∷ xs) = rw (twice_suc i, suc-add (suc (2 * i)) 1, suc-add (2 * i) 1) (odd-column i xs)

-- a byte's two columns changed: with the identity for the other, one column of the unpacked list is one nibble of the packed one
pub columns-changed : (f g : ℕ → ℕ) → ((q : ℕ) → q < 16 → f q < 16) → (i : ℕ) (xs : List ℕ)
    → unpacked (changed (λ x. f (x % 16) + 16 * g (x / 16)) i xs) ≡ changed g (2 * i + 1) (changed f (2 * i) (unpacked xs))
unfolding unpacked changed
columns-changed f g h i [] = refl
columns-changed f g h zero (x ∷ xs) =
    let e = halves (f (x % 16)) (g (x / 16)) (h (x % 16) (mod-lt x {m = 16} (omega arith))) in
    λ j. e.0 j ∷ e.1 j ∷ unpacked xs
columns-changed f g h (suc i) (x ∷ xs) =
    rw (twice_suc i, suc-add (suc (2 * i)) 1, suc-add (2 * i) 1) (ap (λ (l : List ℕ). x % 16 ∷ x / 16 ∷ l) (columns-changed f g h i xs))

-- ---- refusal 5 can't occur

pub unpacked-nibbles : (xs : List ℕ) → Bytes xs → Nibbles (unpacked xs)
unfolding unpacked
unpacked-nibbles [] w i = omega arith
unpacked-nibbles (x ∷ xs) w zero = mod-lt x {m = 16} (omega arith)
unpacked-nibbles (x ∷ xs) w (suc zero) = shr_lt 4 4 (w 0)
unpacked-nibbles (x ∷ xs) w (suc (suc i)) = unpacked-nibbles xs (λ j. w (suc j)) i

pub never-over : (xs : List ℕ) → Bytes xs → over_in 0 (unpacked xs) ≡ Ok tt
never-over xs w = check-nibbles 0 (unpacked xs) (unpacked-nibbles xs w)

-- ---- and 4 means half the columns, of which a part has an even number

pub half_length : (size half : ℕ) (xs : List ℕ) → size ≡ 2 * half → eqb (length (unpacked xs)) size ≡ eqb (length xs) half
half_length size half xs e =
    let l = length-unpacked xs in
    ⊎_elim
    (λ (same : length xs ≡ half). eq-eqb (length (unpacked xs)) size (omega (arith, l, e, same)) ∙ sym (eq-eqb (length xs) half same))
    (λ (other : length xs ≢ half). ne_eqb (length (unpacked xs)) size (λ s. other (omega (arith, l, e, s))) ∙ sym (ne_eqb (length xs) half other))
    (equal_or_not (length xs) half)

-- ---- a group's part of a packed RAM, for any part with an even number of columns

even-of : (x k : ℕ) → x ≡ 2 * k → x ≡ 2 * (x / 2)
even-of x k e = e ∙ ap (λ (n : ℕ). 2 * n) (sym (ap (λ (n : ℕ). n / 2) (e ∙ mul_comm 2 k) ∙ mul-div_cancel k {n = 2} (omega arith)))

module _ (K : Part) (half : ℕ) (even : K.columns ≡ 2 * half) where
  pub even-columns : (c : ℕ) → K.columns * c ≡ 2 * (K.columns * c / 2)
  even-columns c = even-of (K.columns * c) (half * c) (ap (λ (k : ℕ). k * c) even ∙ mul_assoc 2 half c)

  module _ (n : Chips) (g : ℕ) where
    even-start : start_of K n g ≡ 2 * (start_of K n g / 2)
    even-start = go (eqb g 0)
      where
        go : (t : Bool) → cond t 0 (K.columns * n.zero) ≡ 2 * (cond t 0 (K.columns * n.zero) / 2)
        go true = refl
        go false = even-columns n.zero

    even-end : end_of K n g ≡ 2 * (end_of K n g / 2)
    even-end = even-of (end_of K n g) (start_of K n g / 2 + K.columns * chips_in g n / 2) (omega (arith, even-start, even-columns (chips_in g n)))

    width : 2 * (end_of K n g / 2) - 2 * (start_of K n g / 2) ≡ K.columns * chips_in g n
    width = omega (arith, even-start, even-end)

    pub ordered : start_of K n g / 2 + (end_of K n g / 2 - start_of K n g / 2) ≡ end_of K n g / 2
    ordered = omega (arith, even-start, even-end)

    pub end-in-bytes : (ram : List ℕ) → end_of K n g ≤ length (unpacked ram) → end_of K n g / 2 ≤ length ram
    end-in-bytes ram l = omega (arith, even-end, length-unpacked ram, l)

    -- as it is taken
    pub part-unpacked : (ram : List ℕ) → unpacked (take (end_of K n g / 2 - start_of K n g / 2) (drop (start_of K n g / 2) ram)) ≡ columns_of K n g (unpacked ram)
    part-unpacked ram =
        unpacked-part (start_of K n g / 2) (end_of K n g / 2) ram ∙ ap₂ (λ (a b : ℕ). take a (drop b (unpacked ram))) width (sym even-start)

    -- and put back
    pub back-unpacked : (ram after : List ℕ)
        → unpacked (take (start_of K n g / 2) ram ++ (after ++ drop (end_of K n g / 2) ram)) ≡ with_columns K n g (unpacked after) (unpacked ram)
    back-unpacked ram after =
        unpacked_join (take (start_of K n g / 2) ram) (after ++ drop (end_of K n g / 2) ram)
        ∙ ap₂ (λ (a b : List ℕ). a ++ b)
        (unpacked-take (start_of K n g / 2) ram ∙ ap (λ (k : ℕ). take k (unpacked ram)) (sym even-start))
        (unpacked_join after (drop (end_of K n g / 2) ram)
        ∙ ap (λ (l : List ℕ). unpacked after ++ l) (unpacked-drop (end_of K n g / 2) ram ∙ ap (λ (k : ℕ). drop k (unpacked ram)) (sym even-end)))
