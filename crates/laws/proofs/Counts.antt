-- What a run counts, in one step from the columns left: whole bytes are acknowledged and stored, and of the first cut byte the columns left.
-- Assumes nothing.
use mathlib.Core.Path.{◌≡◌, ap, ◌∙◌}
use mathlib.Core.Logic.{⊎_elim}
use Prim.Native.Nat.{ℕ, zero, suc, ◌+◌, ◌-◌, ◌*◌, ◌/◌, ◌%◌, ◌≤◌, ◌<◌, min}
use native.Mathlib.Nat.{div-lt_iff_lt-mul, le-div_iff_mul-le, div-mul-le_self, div-add-mod', mod-lt, mul-zero, mul-le-mul_left, div-eq_of_lt, mod-eq_of_lt}
use native.Mathlib.Omega.{arith}
use lib.Arith.{digits_div, digits_mod}
use mathlib.Core.Bool.{Bool, cond}
use lib.Dec.{ltb}
use borrow.Author.Tests.{lt-ltb, le-ltb}
use Rattle.lemmas.proofs.Order.{lt_or_le}
use Rattle.sheet.specs.declared.Counts.{Counts}
use Rattle.sheet.specs.Data.{width_of, present, stored_bits, counted}
use Rattle.sheet.specs.Runs.{counted_run}

-- the bits of a byte with left columns: all of those columns' rows
pub stored_closed : (n m v size : ℕ) → 0 < m → stored_bits n m v size ≡ min n (m * (size - v))
unfolding stored_bits
stored_closed zero m v size p = omega arith
stored_closed (suc n) m v size p =
    ⊎_elim
    (λ (l : n < m * (size - v)).
    let d : n / m < size - v = (div-lt_iff_lt-mul p).1 (omega arith) in
    rw (lt-ltb (v + n / m) size (omega arith)) (omega (arith, stored_closed n m v size p)))
    (λ (l : m * (size - v) ≤ n).
    let d : size - v ≤ n / m = (le-div_iff_mul-le p).1 (omega arith) in
    rw (le-ltb (v + n / m) size (omega arith)) (omega (arith, stored_closed n m v size p)))
    (lt_or_le n (m * (size - v)))

-- a byte fills its columns and no more: m * (w - 1) < 8 ≤ m * w
pub width_full : (m : ℕ) → 0 < m → 8 ≤ m * width_of m
width_full m p = omega (arith, div-add-mod' 7 m, mod-lt 7 p)

pub width-less : (m left : ℕ) → 0 < m → left < width_of m → m * left < 8
width-less m left p l = omega (arith, div-mul-le_self 7 m, le)
  where
    le : m * left ≤ m * (7 / m)
    le = mul-le-mul_left m (omega arith)

-- the bits stored of n bytes
abbrev pub stored_of : ℕ → ℕ → ℕ → ℕ
stored_of n m left = min (8 * n) (8 * (left / width_of m) + m * (left % width_of m))

abbrev pub tallied : ℕ → ℕ → ℕ → Counts → Counts
tallied n m left t = record {
  acknowledged = t.acknowledged + min n (left / width_of m);
  stored = t.stored + stored_of n m left;
  discarded = t.discarded + (8 * n - stored_of n m left);
}

-- the columns left after a byte, as whole bytes and a rest
after-byte : (w left : ℕ) → 0 < w → w ≤ left → (left / w ≡ suc ((left - w) / w)) × (left % w ≡ (left - w) % w)
after-byte w left p l =
    let q = (left - w) / w in
    let r = (left - w) % w in
    let e : left ≡ suc q * w + r = omega (arith, div-add-mod' (left - w) w) in
    let h : r < w = mod-lt (left - w) p in
    (ap (λ (k : ℕ). k / w) e ∙ digits_div (suc q) h, ap (λ (k : ℕ). k % w) e ∙ digits_mod (suc q) h)

pub counts-alike : (t u : Counts) → t.acknowledged ≡ u.acknowledged → t.stored ≡ u.stored → t.discarded ≡ u.discarded → t ≡ u
counts-alike t u a s d i = record { acknowledged = a i; stored = s i; discarded = d i }

pub counted-at-once : (n m v size : ℕ) (t : Counts) → 0 < m → counted_run n m v size t ≡ tallied n m (size - v) t
unfolding counted_run counted
counted-at-once zero m v size t p = counts-alike t (tallied 0 m (size - v) t) (omega arith) (omega arith) (omega arith)
counted-at-once (suc n) m v size t p =
    counted-at-once n m (v + width_of m) size (counted m v size t) p
    ∙ ⊎_elim
    (λ (l : size - v < width_of m).
    let none : size - (v + width_of m) ≡ 0 = omega arith in
    let q : (size - v) / width_of m ≡ 0 = div-eq_of_lt l in
    let r : m * ((size - v) % width_of m) ≡ m * (size - v) = ap (λ (k : ℕ). m * k) (mod-eq_of_lt l) in
    let q' : (size - (v + width_of m)) / width_of m ≡ 0 = rw none (div-eq_of_lt (omega arith)) in
    let r' : m * ((size - (v + width_of m)) % width_of m) ≡ 0 = rw none (ap (λ (k : ℕ). m * k) (mod-eq_of_lt {n = 0} {m = width_of m} (omega arith)) ∙ mul-zero m) in
    let few : m * (size - v) < 8 = width-less m (size - v) p l in
    let bits : stored_bits 8 m v size ≡ m * (size - v) = omega (arith, stored_closed 8 m v size p, few) in
    let last : present size (v + 7 / m) ≡ 0 = rw (le-ltb (v + 7 / m) size (omega arith)) in
    counts-alike _ _ (omega (arith, q, q', last)) (omega (arith, q, r, q', r', bits, few)) (omega (arith, q, r, q', r', bits, few)))
    (λ (l : width_of m ≤ size - v).
    let less : size - (v + width_of m) ≡ size - v - width_of m = omega arith in
    let after = after-byte (width_of m) (size - v) (omega arith) l in
    let q : (size - v) / width_of m ≡ suc ((size - (v + width_of m)) / width_of m) = rw less after.0 in
    let r : m * ((size - v) % width_of m) ≡ m * ((size - (v + width_of m)) % width_of m) = rw less (ap (λ (k : ℕ). m * k) after.1) in
    let bits : stored_bits 8 m v size ≡ 8 = omega (arith, stored_closed 8 m v size p, width_full m p, mul-le-mul_left m l) in
    let last : present size (v + 7 / m) ≡ 1 = rw (lt-ltb (v + 7 / m) size (omega arith)) in
    counts-alike _ _ (omega (arith, q, last)) (omega (arith, q, r, bits)) (omega (arith, q, r, bits)))
    (lt_or_le (size - v) (width_of m))

pub present-le : (size c : ℕ) → present size c ≤ 1
present-le size c = go (ltb c size)
  where
    go : (t : Bool) → cond t 1 0 ≤ 1
    go Bool.true = omega arith
    go Bool.false = omega arith
