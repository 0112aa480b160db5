-- Static and 1:2: a row of four columns as a word, and such words side by side in a byte, the first column highest.
-- Assumes nothing.
use mathlib.Core.Path.{◌≡◌, refl, sym, ap, ap₂, ◌∙◌}
use mathlib.Core.Bool.{Bool}
use mathlib.Core.List.{List}
use Prim.Native.Nat.{ℕ, ◌+◌, ◌-◌, ◌*◌, ◌/◌, ◌%◌, ◌^◌, ◌<◌}
use native.Mathlib.Nat.{add-zero, add_assoc, div-one, mod-one}
use native.Mathlib.Omega.{arith}
use lib.Arith.{digits_div, digits_mod}
use lib.Bits.{bit_and, and_mask, and_high}
use lib.Dec.{eqb, eqb→eq, ltb, ltb→lt}
use lib.ListN.{get_or}
use Rattle.lemmas.proofs.Tests.{all-at}
use Rattle.sheet.specs.Data.{row_of}
use Rattle.writer_sheet.specs.Writer.{bit_from, bits_from}
use Rattle.laws.proofs.Wanted.{bit_lt}
use Rattle.words.specs.Fields.{joined}
use Rattle.gather.specs.Gathered.{side}
use Rattle.words.proofs.Bytewise.{joined-alike, and-joined, scaled, shifted}

-- row e of each column
pub row_word : (e : ℕ) (q : ℕ → ℕ) → e < 4 → ((j : ℕ) → q j < 256) → bit_and (joined 4 q / 2 ^ e) 0x01010101 ≡ joined 4 (λ j. row_of (q j) e)
unfolding joined
row_word e q l h = shifted 4 1 e q (ltb→lt (1 * 2 ^ e) 256 (all-at 4 (λ k. ltb (1 * 2 ^ k) 256) tt e l)) h ∙ joined-alike 4 _ (λ j. row_of (q j) e) (λ j. and_mask (q j / 2 ^ e) 1)

-- a row kept in its place: the rows of bank 0 in a word, multiplied for bank 1
abbrev keeps : ℕ → Bool
keeps bank = eqb (0x01010101 * (1 + 3 * bank)) (side (2 ^ (1 + 2 * bank) - 2 ^ (2 * bank)) (2 ^ (1 + 2 * bank) - 2 ^ (2 * bank)) (2 ^ (1 + 2 * bank) - 2 ^ (2 * bank)) (2 ^ (1 + 2 * bank) - 2 ^ (2 * bank)))

pub row_kept : (bank : ℕ) (q : ℕ → ℕ) → bank < 2 → ((j : ℕ) → q j < 256) → bit_and (joined 4 q) (0x01010101 * (1 + 3 * bank)) ≡ joined 4 (λ j. row_of (q j) (2 * bank)) * 2 ^ (2 * bank)
unfolding joined
row_kept bank q l h =
    let mask = 2 ^ (1 + 2 * bank) - 2 ^ (2 * bank) in
    ap (bit_and (joined 4 q)) (eqb→eq (0x01010101 * (1 + 3 * bank)) (joined 4 (λ j. mask)) (all-at 2 keeps tt bank l))
    ∙ and-joined 4 q (λ j. mask) h (λ j. ltb→lt mask 256 (all-at 2 (λ k. ltb (2 ^ (1 + 2 * k) - 2 ^ (2 * k)) 256) tt bank l))
    ∙ joined-alike 4 _ (λ j. row_of (q j) (2 * bank) * 2 ^ (2 * bank)) (λ j. and_high (q j) 1 (2 * bank)) ∙ sym (scaled 4 (λ j. row_of (q j) (2 * bank)) (2 ^ (2 * bank)))

-- ---- a word's columns together in its lowest byte

-- without the first column, and without the first two
pub past_one : (s a b c d : ℕ) → s ≡ side a b c d → a < 256 → s / 256 ≡ (d * 256 + c) * 256 + b
past_one s a b c d e l = ap (λ (n : ℕ). n / 256) e ∙ digits_div (((0 * 256 + d) * 256 + c) * 256 + b) l ∙ omega arith

pub past_two : (p a b c d : ℕ) → p ≡ side a b c d → a < 256 → b < 256 → p / 65536 ≡ d * 256 + c
past_two p a b c d e la lb =
    let parts : p ≡ (d * 256 + c) * 65536 + (b * 256 + a) = omega (arith, e) in
    ap (λ (n : ℕ). n / 65536) parts ∙ digits_div (d * 256 + c) (omega (arith, la, lb))

-- what is over, where each column comes above the next one, and each two above the next two: columns of one bit twice, and of two bits
over-two : (p a b c d : ℕ) → p ≡ side (2 * a + b) (2 * b + c) (2 * c + d) (2 * d)
    → p * 4 + (2 * d * 256 + (2 * c + d)) ≡ (4 * (2 * b + c) + 1024 * (2 * c + d) + 524288 * d + 2 * d) * 256 + (2 * (2 * (2 * a + b) + c) + d)
over-two p a b c d e = omega arith

over-four : (p a b c d : ℕ) → p ≡ side (4 * a + b) (4 * b + c) (4 * c + d) (4 * d)
    → p * 16 + (4 * d * 256 + (4 * c + d)) ≡ (16 * (4 * b + c) + 4096 * (4 * c + d) + 4194304 * d + 4 * d) * 256 + (4 * (4 * (4 * a + b) + c) + d)
over-four p a b c d e = omega arith

by_two : (s a b c d : ℕ) → s ≡ side a b c d → a < 18 → b < 18 → c < 18 → d < 18 → let p = s * 2 + s / 256 in (p * 4 + p / 65536) % 256 ≡ 2 * (2 * (2 * a + b) + c) + d
by_two s a b c d e la lb lc ld =
    let p : s * 2 + s / 256 ≡ side (2 * a + b) (2 * b + c) (2 * c + d) (2 * d) = omega (arith, e, past_one s a b c d e (omega (arith, la))) in
    ap (λ (n : ℕ). n % 256) (ap (λ (n : ℕ). (s * 2 + s / 256) * 4 + n) (past_two _ _ _ _ _ p (omega (arith, la, lb)) (omega (arith, lb, lc))) ∙ over-two (s * 2 + s / 256) a b c d p)
    ∙ digits_mod (4 * (2 * b + c) + 1024 * (2 * c + d) + 524288 * d + 2 * d) (omega (arith, la, lb, lc, ld))

by-four : (s a b c d : ℕ) → s ≡ side a b c d → a < 4 → b < 4 → c < 4 → d < 4 → let p = s * 4 + s / 256 in (p * 16 + p / 65536) % 256 ≡ 4 * (4 * (4 * a + b) + c) + d
by-four s a b c d e la lb lc ld =
    let p : s * 4 + s / 256 ≡ side (4 * a + b) (4 * b + c) (4 * c + d) (4 * d) = omega (arith, e, past_one s a b c d e (omega (arith, la))) in
    ap (λ (n : ℕ). n % 256) (ap (λ (n : ℕ). (s * 4 + s / 256) * 16 + n) (past_two _ _ _ _ _ p (omega (arith, la, lb)) (omega (arith, lb, lc))) ∙ over-four (s * 4 + s / 256) a b c d p)
    ∙ digits_mod (16 * (4 * b + c) + 4096 * (4 * c + d) + 4194304 * d + 4 * d) (omega (arith, la, lb, lc, ld))

-- static
pub static_bits : (b v : ℕ) (columns : List ℕ)
    → let s = 16 * joined 4 (λ j. row_of (get_or columns (v + j) 0) b) + joined 4 (λ j. row_of (get_or columns (v + 4 + j) 0) b) in
    let p = s * 2 + s / 256 in (p * 4 + p / 65536) % 256 ≡ bits_from 8 1 b v columns
unfolding bits_from joined
static_bits b v columns =
    let t : ℕ → ℕ = bit_from 1 b v columns in
    let l : (k : ℕ) → t k < 2 = bit_lt 1 b v columns in
    ap₂ (λ (x y : ℕ). let s = 16 * x + y in let p = s * 2 + s / 256 in (p * 4 + p / 65536) % 256)
    (joined-alike 4 (λ j. row_of (get_or columns (v + j) 0) b) t (λ j. rw (div-one j, mod-one j, add-zero b) refl))
    (joined-alike 4 (λ j. row_of (get_or columns (v + 4 + j) 0) b) (λ j. t (4 + j)) (λ j. rw (div-one (4 + j), mod-one (4 + j), add-zero b, add_assoc v 4 j) refl))
    ∙ by_two (16 * joined 4 t + joined 4 (λ j. t (4 + j))) (16 * t 0 + t 4) (16 * t 1 + t 5) (16 * t 2 + t 6) (16 * t 3 + t 7) (omega arith) (omega (arith, l 0, l 4)) (omega (arith, l 1, l 5)) (omega (arith, l 2, l 6)) (omega (arith, l 3, l 7))
    ∙ omega arith

-- 1:2
pub two-bits : (b v : ℕ) (columns : List ℕ)
    → let s = joined 4 (λ j. row_of (get_or columns (v + j) 0) b) * 2 + joined 4 (λ j. row_of (get_or columns (v + j) 0) (b + 1)) in
    let p = s * 4 + s / 256 in (p * 16 + p / 65536) % 256 ≡ bits_from 8 2 b v columns
unfolding bits_from joined
two-bits b v columns =
    let t : ℕ → ℕ = bit_from 2 b v columns in
    let l : (k : ℕ) → t k < 2 = bit_lt 2 b v columns in
    let even : (j : ℕ) → (2 * j / 2 ≡ j) × (2 * j % 2 ≡ 0) = λ j. (omega arith, omega arith) in
    let odd : (j : ℕ) → ((2 * j + 1) / 2 ≡ j) × ((2 * j + 1) % 2 ≡ 1) = λ j. (omega arith, omega arith) in
    ap₂ (λ (x y : ℕ). let s = x * 2 + y in let p = s * 4 + s / 256 in (p * 16 + p / 65536) % 256)
    (joined-alike 4 (λ j. row_of (get_or columns (v + j) 0) b) (λ j. t (2 * j)) (λ j. rw ((even j).0, (even j).1, add-zero b) refl))
    (joined-alike 4 (λ j. row_of (get_or columns (v + j) 0) (b + 1)) (λ j. t (2 * j + 1)) (λ j. rw ((odd j).0, (odd j).1) refl))
    ∙ by-four (joined 4 (λ j. t (2 * j)) * 2 + joined 4 (λ j. t (2 * j + 1))) (2 * t 0 + t 1) (2 * t 2 + t 3) (2 * t 4 + t 5) (2 * t 6 + t 7) (omega arith) (omega (arith, l 0, l 1)) (omega (arith, l 2, l 3)) (omega (arith, l 4, l 5)) (omega (arith, l 6, l 7))
    ∙ omega arith
