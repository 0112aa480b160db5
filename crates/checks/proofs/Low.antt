-- The rows of words brought together: where none is at or above row 4, no column of a word is over 15.
-- Assumes nothing.
use mathlib.Core.Path.{◌≡◌, refl, sym, ap, ap₂, ◌∙◌}
use Prim.Native.Nat.{ℕ, zero, suc, ◌+◌, ◌*◌, ◌/◌, ◌%◌, ◌^◌, ◌<◌, min}
use native.Mathlib.Nat.{pow-suc, mod-eq_of_lt}
use native.Mathlib.Omega.{arith}
use lib.Arith.{lt-one}
use lib.Bits.{bit_and, bit_or, and_zero_l, or_zero_l, and_step, or_step, and_high}
use lib.Pow.{shr_lt}
use Rattle.words.specs.Fields.{joined}
use Rattle.words.proofs.Bytewise.{and-joined}

-- the mask of a word
abbrev pub over : ℕ
over = 0xF0F0F0F0F0F0F0F0

-- what a mask finds in neither of two numbers together it finds in neither
pub neither : (d a b m : ℕ) → a < 2 ^ d → b < 2 ^ d → bit_and (bit_or a b) m ≡ 0 → (bit_and a m ≡ 0) × (bit_and b m ≡ 0)
neither zero a b m la lb e = (ap (λ (n : ℕ). bit_and n m) (lt-one la) ∙ and_zero_l m, ap (λ (n : ℕ). bit_and n m) (lt-one lb) ∙ and_zero_l m)
neither (suc d) a b m la lb e =
    let both = or_step a b in
    let half : bit_or a b / 2 ≡ bit_or (a / 2) (b / 2) = omega (arith, both) in
    let found = and_step (bit_or a b) m ∙ ap (λ (n : ℕ). bit_and n (m / 2) * 2 + min (bit_or a b % 2) (m % 2)) half in
    let rest = neither d (a / 2) (b / 2) (m / 2) (omega (arith, pow-suc 2 d)) (omega (arith, pow-suc 2 d)) (omega (arith, found, e)) in
    (omega (arith, and_step a m, rest.0, found, both), omega (arith, and_step b m, rest.1, found, both))

-- and what it finds in neither of them it does not find in both together
pub together : (d a b m : ℕ) → a < 2 ^ d → b < 2 ^ d → bit_and a m ≡ 0 → bit_and b m ≡ 0 → bit_and (bit_or a b) m ≡ 0
together zero a b m la lb ea eb = ap (λ (n : ℕ). bit_and n m) (ap₂ bit_or (lt-one la) (lt-one lb) ∙ or_zero_l 0) ∙ and_zero_l m
together (suc d) a b m la lb ea eb =
    let both = or_step a b in
    let half : bit_or a b / 2 ≡ bit_or (a / 2) (b / 2) = omega (arith, both) in
    let found = and_step (bit_or a b) m ∙ ap (λ (n : ℕ). bit_and n (m / 2) * 2 + min (bit_or a b % 2) (m % 2)) half in
    let rest = together d (a / 2) (b / 2) (m / 2) (omega (arith, pow-suc 2 d)) (omega (arith, pow-suc 2 d)) (omega (arith, and_step a m, ea)) (omega (arith, and_step b m, eb)) in
    omega (arith, found, rest, both, and_step a m, ea, and_step b m, eb)

-- a word that is 0 has no column but 0
zero-columns : (n : ℕ) (f : ℕ → ℕ) → joined n f ≡ 0 → (j : ℕ) → j < n → f j ≡ 0
unfolding joined
zero-columns zero f e j h = absurd (omega (arith, h))
zero-columns (suc n) f e zero h = omega (arith, e)
zero-columns (suc n) f e (suc j) h = zero-columns n (λ i. f (suc i)) (omega (arith, e)) j (omega (arith, h))

columns-zero : (n : ℕ) (f : ℕ → ℕ) → ((j : ℕ) → j < n → f j ≡ 0) → joined n f ≡ 0
unfolding joined
columns-zero zero f none = refl
columns-zero (suc n) f none = omega (arith, none 0 (omega arith), columns-zero n (λ i. f (suc i)) (λ j h. none (suc j) (omega (arith, h))))

equal_columns : joined 8 (λ j. 0xF0) ≡ over
unfolding joined
equal_columns = refl

-- a word of columns
pub word_fits : (q : ℕ → ℕ) → ((j : ℕ) → q j < 256) → joined 8 q < 2 ^ 64
unfolding joined
word_fits q bytes = omega (arith, bytes 0, bytes 1, bytes 2, bytes 3, bytes 4, bytes 5, bytes 6, bytes 7)

pub word_low : (q : ℕ → ℕ) → ((j : ℕ) → q j < 256) → bit_and (joined 8 q) over ≡ 0 → (j : ℕ) → j < 8 → q j < 16
word_low q bytes e j h =
    let none = zero-columns 8 (λ i. bit_and (q i) 0xF0) (sym (and-joined 8 q (λ i. 0xF0) bytes (λ i. omega arith)) ∙ ap (bit_and (joined 8 q)) equal_columns ∙ e) j h in
    omega (arith, and_high (q j) 4 4, none, mod-eq_of_lt (shr_lt 4 4 (bytes j)))

pub low_word : (q : ℕ → ℕ) → ((j : ℕ) → q j < 256) → ((j : ℕ) → j < 8 → q j < 16) → bit_and (joined 8 q) over ≡ 0
low_word q bytes low =
    ap (bit_and (joined 8 q)) (sym equal_columns) ∙ and-joined 8 q (λ i. 0xF0) bytes (λ i. omega arith)
    ∙ columns-zero 8 (λ i. bit_and (q i) 0xF0) (λ j h. omega (arith, and_high (q j) 4 4, low j h, mod-eq_of_lt (shr_lt 4 4 (bytes j))))
