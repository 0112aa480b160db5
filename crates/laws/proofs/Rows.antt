-- Where each bit of a run lands, and that every other row of every column stays.
-- Assumes nothing.
use mathlib.Core.Path.{◌≡◌, refl, sym, ap, ◌∙◌, subst}
use mathlib.Core.Logic.{◌≢◌, ⊎_elim}
use mathlib.Core.List.{List, [], ◌∷◌}
use Prim.Native.Nat.{ℕ, zero, suc, ◌+◌, ◌-◌, ◌*◌, ◌/◌, ◌%◌, ◌^◌, ◌<◌, suc-le-suc}
use native.Mathlib.Nat.{add_left_cancel, mod-lt, pow-suc, not-suc-le-zero, le_of_suc-le-suc, le_trans, lt_irrefl, div-add-mod, div-mul-le_self, le-div_iff_mul-le}
use native.Mathlib.Omega.{arith}
use lib.ListN.{length, get_or}
use lib.Seq.{get_or-set_same, get_or-set_other}
use lib.Arith.{digits_div, digits_mod, digits_lt}
use lib.Pow.{pow_pos, shr-shr, field, mod-mod-pow}
use Rattle.lemmas.proofs.Order.{compared, equal_or_not}
use Rattle.sheet.specs.Data.{bit_of, row_of, with_row, changed, put_bits, width_of}
use Rattle.sheet.specs.Runs.{put_run}
use Rattle.laws.proofs.Runs.{length-bits}

-- ---- one row of a column

-- it is what it was made
pub row_same : (r t q : ℕ) → t < 2 → row_of (with_row r t q) r ≡ t
unfolding with_row
row_same r t q p =
    let e : with_row r t q ≡ (q / 2 ^ suc r * 2 + t) * 2 ^ r + q % 2 ^ r = omega (arith, ap (λ (n : ℕ). q / 2 ^ suc r * n) (pow-suc 2 r)) in
    rw (e, digits_div (q / 2 ^ suc r * 2 + t) (mod-lt q (pow_pos r))) (digits_mod (q / 2 ^ suc r) p)

-- the rows above it stay
row-above : (r t q d : ℕ) → t < 2 → row_of (with_row r t q) (suc r + d) ≡ row_of q (suc r + d)
unfolding with_row
row-above r t q d p =
    let l : t * 2 ^ r + q % 2 ^ r < 2 ^ suc r = rw (pow-suc 2 r) (omega (arith, digits_lt p (mod-lt q (pow_pos r)))) in
    let e : with_row r t q ≡ q / 2 ^ suc r * 2 ^ suc r + (t * 2 ^ r + q % 2 ^ r) = omega arith in
    ap (λ (n : ℕ). n % 2)
    (sym (shr-shr (with_row r t q) (suc r) d) ∙ ap (λ (n : ℕ). n / 2 ^ d) (ap (λ (n : ℕ). n / 2 ^ suc r) e ∙ digits_div (q / 2 ^ suc r) l) ∙ shr-shr q (suc r) d)

-- row s, from the rows below s + 1 + d alone
pub row-of-low : (q s d : ℕ) → row_of q s ≡ q % 2 ^ (d + 1 + s) / 2 ^ s % 2
row-of-low q s d = sym (ap (λ (k : ℕ). k % 2) (field q (d + 1) s) ∙ mod-mod-pow (q / 2 ^ s) d 1)

-- the rows below it stay
row_below : (s d t q : ℕ) → row_of (with_row (d + 1 + s) t q) s ≡ row_of q s
unfolding with_row
row_below s d t q =
    let r : ℕ = d + 1 + s in
    let e : with_row r t q ≡ (q / 2 ^ suc r * 2 + t) * 2 ^ r + q % 2 ^ r = omega (arith, ap (λ (n : ℕ). q / 2 ^ suc r * n) (pow-suc 2 r)) in
    let m : with_row r t q % 2 ^ r ≡ q % 2 ^ r = ap (λ (n : ℕ). n % 2 ^ r) e ∙ digits_mod (q / 2 ^ suc r * 2 + t) (mod-lt q (pow_pos r)) in
    row-of-low (with_row r t q) s d ∙ ap (λ (n : ℕ). n / 2 ^ s % 2) m ∙ sym (row-of-low q s d)

pub row_other : (r s t q : ℕ) → t < 2 → s ≢ r → row_of (with_row r t q) s ≡ row_of q s
row_other r s t q p ne =
    ⊎_elim
    (λ (l : s < r). subst (λ (n : ℕ). row_of (with_row n t q) s ≡ row_of q s) {x = r - suc s + 1 + s} (omega arith) (row_below s (r - suc s) t q))
    (λ o. ⊎_elim
    (λ (e : s ≡ r). absurd (ne e))
    (λ (l : r < s). subst (λ (n : ℕ). row_of (with_row r t q) n ≡ row_of q n) {x = suc r + (s - suc r)} (omega arith) (row-above r t q (s - suc r) p))
    o)
    (compared s r)

-- ---- one bit of a RAM

pub bit_lt : (x k : ℕ) → bit_of x k < 2
bit_lt x k = mod-lt (x / 2 ^ (7 - k)) {m = 2} (omega arith)

-- a column changed, where it is
pub changed-at : (f : ℕ → ℕ) (c : ℕ) (ram : List ℕ) → c < length ram → get_or (changed f c ram) c 0 ≡ f (get_or ram c 0)
unfolding changed
changed-at f c ram l = get_or-set_same ram c (f (get_or ram c 0)) 0 l

-- and the others
pub changed-other : (f : ℕ → ℕ) (c i : ℕ) (ram : List ℕ) → i ≢ c → get_or (changed f c ram) i 0 ≡ get_or ram i 0
unfolding changed
changed-other f c i ram ne = get_or-set_other ram c i (f (get_or ram c 0)) 0 ne

-- a row that f keeps stays in every column
pub row_kept : (f : ℕ → ℕ) (r : ℕ) → ((q : ℕ) → row_of (f q) r ≡ row_of q r) → (c i : ℕ) (ram : List ℕ) → row_of (get_or (changed f c ram) i 0) r ≡ row_of (get_or ram i 0) r
unfolding changed
row_kept f r h c i [] = refl
row_kept f r h zero zero (q ∷ qs) = h q
row_kept f r h zero (suc i) (q ∷ qs) = refl
row_kept f r h (suc c) zero (q ∷ qs) = refl
row_kept f r h (suc c) (suc i) (q ∷ qs) = row_kept f r h c i qs

-- one row of one column changed: every other row of every column stays
pub row_stays : (r t c : ℕ) (ram : List ℕ) (i s : ℕ) → t < 2 → (i ≡ c → s ≡ r → ⊥) → row_of (get_or (changed (with_row r t) c ram) i 0) s ≡ row_of (get_or ram i 0) s
row_stays r t c ram i s p apart =
    ⊎_elim
    (λ (e : i ≡ c). row_kept (with_row r t) s (λ q. row_other r s t q p (apart e)) c i ram)
    (λ (ne : i ≢ c). ap (λ (q : ℕ). row_of q s) (changed-other (with_row r t) c i ram ne))
    (equal_or_not i c)

-- ---- the bits of a byte

pub bits_stay : (n m b v x c r : ℕ) (ram : List ℕ) → ((k : ℕ) → k < n → c ≡ v + k / m → r ≡ b + k % m → ⊥)
    → row_of (get_or (put_bits n m b v x ram) c 0) r ≡ row_of (get_or ram c 0) r
unfolding put_bits
bits_stay zero m b v x c r ram apart = refl
bits_stay (suc n) m b v x c r ram apart =
    row_stays (b + n % m) (bit_of x n) (v + n / m) (put_bits n m b v x ram) c r (bit_lt x n) (apart n (omega arith))
    ∙ bits_stay n m b v x c r ram (λ k l. apart k (omega arith))

pub bits_land : (n m b v x k : ℕ) (ram : List ℕ) → k < n → v + k / m < length ram → row_of (get_or (put_bits n m b v x ram) (v + k / m) 0) (b + k % m) ≡ bit_of x k
unfolding put_bits
bits_land zero m b v x k ram lk lv = absurd (not-suc-le-zero lk)
bits_land (suc n) m b v x k ram lk lv =
    ⊎_elim
    (λ (e : k ≡ n).
    rw e
    (ap (λ (q : ℕ). row_of q (b + n % m)) (changed-at (with_row (b + n % m) (bit_of x n)) (v + n / m) (put_bits n m b v x ram) (rw (length-bits n m b v x ram, ← e) lv))
    ∙ row_same (b + n % m) (bit_of x n) (get_or (put_bits n m b v x ram) (v + n / m) 0) (bit_lt x n)))
    (λ (ne : k ≢ n).
    row_stays (b + n % m) (bit_of x n) (v + n / m) (put_bits n m b v x ram) (v + k / m) (b + k % m) (bit_lt x n)
    (λ e f. ne (sym (div-add-mod k m) ∙ same (k / m) (n / m) (k % m) (n % m) e f ∙ div-add-mod n m))
    ∙ bits_land n m b v x k ram (omega arith) lv)
    (equal_or_not k n)
  where
    same : (i j r s : ℕ) → v + i ≡ v + j → b + r ≡ b + s → m * i + r ≡ m * j + s
    same i j r s e f = ap (λ (n : ℕ). m * n + r) (add_left_cancel v e) ∙ ap (λ (n : ℕ). m * j + n) (add_left_cancel b f)

-- ---- a run

-- bit k of byte j lands in row b + k mod m of column v + w * j + k div m
abbrev pub LandsAt : ℕ → ℕ → ℕ → List ℕ → List ℕ → ℕ → ℕ → Type 0
LandsAt m b v xs ram j k =
    j < length xs → k < 8 → v + width_of m * j + k / m < length ram
    → row_of (get_or (put_run m b v xs ram) (v + width_of m * j + k / m) 0) (b + k % m) ≡ bit_of (get_or xs j 0) k

-- row r of column c, in which no bit lands, stays
abbrev pub StaysAt : ℕ → ℕ → ℕ → List ℕ → List ℕ → ℕ → ℕ → Type 0
StaysAt m b v xs ram c r =
    ((j k : ℕ) → j < length xs → k < 8 → c ≡ v + width_of m * j + k / m → r ≡ b + k % m → ⊥)
    → row_of (get_or (put_run m b v xs ram) c 0) r ≡ row_of (get_or ram c 0) r

pub record Lands (m b v : ℕ) (xs ram : List ℕ) : Type 0 where
  pub lands : (j k : ℕ) → LandsAt m b v xs ram j k
  pub stays : (c r : ℕ) → StaysAt m b v xs ram c r

-- a byte's bits lie within its columns
pub within-width : (m k : ℕ) → 0 < m → k < 8 → k / m < width_of m
within-width m k pm l = omega (arith, (le-div_iff_mul-le {k = m} {x = k / m} {y = 7} pm).1 (le_trans (div-mul-le_self k m) (le_of_suc-le-suc l)))

first : (v w i : ℕ) → v + w * 0 + i ≡ v + i
first v w i = omega arith

later : (v w j i : ℕ) → v + w * suc j + i ≡ v + w + w * j + i
later v w j i = omega arith

each-stays : (m b v : ℕ) (xs ram : List ℕ) (c r : ℕ) → StaysAt m b v xs ram c r
unfolding put_run
each-stays m b v [] ram c r apart = refl
each-stays m b v (x ∷ xs) ram c r apart =
    each-stays m b (v + width_of m) xs (put_bits 8 m b v x ram) c r
    (λ j k lj lk e. apart (suc j) k (suc-le-suc lj) lk (e ∙ sym (later v (width_of m) j (k / m))))
    ∙ bits_stay 8 m b v x c r ram (λ k lk e. apart 0 k (omega arith) lk (e ∙ sym (first v (width_of m) (k / m))))

each-lands : (m b v : ℕ) (xs ram : List ℕ) → 0 < m → (j k : ℕ) → LandsAt m b v xs ram j k
unfolding put_run
each-lands m b v [] ram pm j k lj lk lv = absurd (not-suc-le-zero lj)
each-lands m b v (x ∷ xs) ram pm zero k lj lk lv =
    rw (first v (width_of m) (k / m))
    (each-stays m b (v + width_of m) xs (put_bits 8 m b v x ram) (v + k / m) (b + k % m)
    (λ i h li lh e f. lt_irrefl (k / m) (omega (arith, e, within-width m k pm lk)))
    ∙ bits_land 8 m b v x k ram lk (rw (← first v (width_of m) (k / m)) lv))
each-lands m b v (x ∷ xs) ram pm (suc j) k lj lk lv =
    rw (later v (width_of m) j (k / m))
    (each-lands m b (v + width_of m) xs (put_bits 8 m b v x ram) pm j k (le_of_suc-le-suc lj) lk
    (rw (length-bits 8 m b v x ram, ← later v (width_of m) j (k / m)) lv))

pub run-lands : (m b v : ℕ) (xs ram : List ℕ) → 0 < m → Lands m b v xs ram
run-lands m b v xs ram pm = record {
  lands = each-lands m b v xs ram pm;
  stays = each-stays m b v xs ram;
}

-- 1:3: a byte's last column gets rows 0 and 1 only, its row 2 stays
pub third_row_stays : (v j : ℕ) (xs ram : List ℕ) → row_of (get_or (put_run 3 0 v xs ram) (v + 3 * j + 2) 0) 2 ≡ row_of (get_or ram (v + 3 * j + 2) 0) 2
third_row_stays v j xs ram = each-stays 3 0 v xs ram (v + 3 * j + 2) 2 (λ i k li lk e f. lt_irrefl k (omega (arith, e, f, lk)))
