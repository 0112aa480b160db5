-- Columns of four rows stay columns of four rows: every column below 16, as facts and as the check 5.
-- Assumes nothing.
use mathlib.Core.Path.{◌≡◌, refl, sym, ap, ◌∙◌, subst}
use mathlib.Core.Bool.{Bool, true, false, cond}
use mathlib.Core.List.{List, [], ◌∷◌, ◌++◌}
use Prim.Native.Nat.{ℕ, zero, suc, ◌+◌, ◌-◌, ◌*◌, ◌/◌, ◌%◌, ◌^◌, ◌≤◌, ◌<◌, suc-le-suc}
use native.Mathlib.Nat.{mod-lt, pow-suc}
use native.Mathlib.Omega.{arith}
use lib.Dec.{T, ltb}
use lib.ListN.{get_or, take, drop}
use lib.Seq.{get_or-drop}
use lib.Arith.{digits_lt}
use lib.Pow.{shr_lt, pow_pos, pow-add}
use borrow.Author.Tests.{le-ltb, ltb-false}
use Rattle.std.specs.Prelude.{Err, Ok}
use Rattle.sheet.specs.Results.{Check}
use Rattle.sheet.specs.declared.Refusal.{Refusal}
use Rattle.sheet.specs.Checks.{over_in, passed}
use Rattle.sheet.specs.Data.{bit_of, with_row, changed, put_bits, width_of}
use Rattle.sheet.specs.Runs.{put_run}
use Rattle.laws.proofs.Rows.{bit_lt}

-- every column is below 16
abbrev pub Nibbles : List ℕ → Type 0
Nibbles ram = (i : ℕ) → get_or ram i 0 < 16

-- ---- the check

pub check-nibbles : (i : ℕ) (ram : List ℕ) → Nibbles ram → over_in i ram ≡ Ok tt
unfolding over_in
check-nibbles i [] w = refl
check-nibbles i (q ∷ qs) w = rw (le-ltb 15 q (omega (arith, w 0))) (check-nibbles (suc i) qs (λ j. w (suc j)))

-- the first column and the others of a RAM that passes
first_passes : (t : Bool) (r : Refusal) (k : Check) → cond t (Err r) k ≡ Ok tt → (t ≡ false) × (k ≡ Ok tt)
first_passes true r k e = absurd (subst (λ (c : Check). T (passed c)) (sym e) tt)
first_passes false r k e = (refl, e)

pub nibbles-of : (i : ℕ) (ram : List ℕ) → over_in i ram ≡ Ok tt → Nibbles ram
unfolding over_in
nibbles-of i [] e j = omega arith
nibbles-of i (q ∷ qs) e zero = suc-le-suc (ltb-false 15 q (first_passes (ltb 15 q) _ _ e).0)
nibbles-of i (q ∷ qs) e (suc j) = nibbles-of (suc i) qs (first_passes (ltb 15 q) _ _ e).1 j

-- ---- parts

pub take-nibbles : (n : ℕ) (ram : List ℕ) → Nibbles ram → Nibbles (take n ram)
take-nibbles zero ram w i = omega arith
take-nibbles (suc n) [] w i = omega arith
take-nibbles (suc n) (q ∷ qs) w zero = w 0
take-nibbles (suc n) (q ∷ qs) w (suc i) = take-nibbles n qs (λ j. w (suc j)) i

pub drop-nibbles : (n : ℕ) (ram : List ℕ) → Nibbles ram → Nibbles (drop n ram)
drop-nibbles n ram w i = rw (get_or-drop n ram i 0) (w (n + i))

pub join_nibbles : (a b : List ℕ) → Nibbles a → Nibbles b → Nibbles (a ++ b)
join_nibbles [] b wa wb i = wb i
join_nibbles (q ∷ qs) b wa wb zero = wa 0
join_nibbles (q ∷ qs) b wa wb (suc i) = join_nibbles qs b (λ j. wa (suc j)) wb i

-- ---- bytes and runs

-- a column of h rows with one of them changed
row_lt : (h r t q : ℕ) → q < 2 ^ h → r < h → t < 2 → with_row r t q < 2 ^ h
unfolding with_row
row_lt h r t q l below p =
    let e : h - suc r + suc r ≡ h = omega arith in
    let d : q / 2 ^ suc r < 2 ^ (h - suc r) = shr_lt (h - suc r) (suc r) (rw e l) in
    let u : t * 2 ^ r + q % 2 ^ r < 2 ^ suc r = rw (pow-suc 2 r) (omega (arith, digits_lt p (mod-lt q (pow_pos r)))) in
    subst (λ (n : ℕ). with_row r t q < n)
    (sym (pow-add 2 (h - suc r) (suc r)) ∙ ap (λ (n : ℕ). 2 ^ n) e)
    (omega (arith, digits_lt d u))

changed-nibbles : (f : ℕ → ℕ) → ((q : ℕ) → q < 16 → f q < 16) → (c : ℕ) (ram : List ℕ) → Nibbles ram → Nibbles (changed f c ram)
unfolding changed
changed-nibbles f h c [] w i = w i
changed-nibbles f h zero (q ∷ qs) w zero = h q (w 0)
changed-nibbles f h zero (q ∷ qs) w (suc i) = w (suc i)
changed-nibbles f h (suc c) (q ∷ qs) w zero = w 0
changed-nibbles f h (suc c) (q ∷ qs) w (suc i) = changed-nibbles f h c qs (λ j. w (suc j)) i

pub bits-nibbles : (n m b v x : ℕ) (ram : List ℕ) → 0 < m → b + m ≤ 4 → Nibbles ram → Nibbles (put_bits n m b v x ram)
unfolding put_bits
bits-nibbles zero m b v x ram pm h w = w
bits-nibbles (suc k) m b v x ram pm h w =
    changed-nibbles (with_row (b + k % m) (bit_of x k))
    (λ q l. row_lt 4 (b + k % m) (bit_of x k) q l (omega (arith, mod-lt k pm)) (bit_lt x k))
    (v + k / m) (put_bits k m b v x ram) (bits-nibbles k m b v x ram pm h w)

pub run-nibbles : (m b v : ℕ) (xs ram : List ℕ) → 0 < m → b + m ≤ 4 → Nibbles ram → Nibbles (put_run m b v xs ram)
unfolding put_run
run-nibbles m b v [] ram pm h w = w
run-nibbles m b v (x ∷ xs) ram pm h w = run-nibbles m b (v + width_of m) xs (put_bits 8 m b v x ram) pm h (bits-nibbles 8 m b v x ram pm h w)
