-- A group's registers as words: a word under a mask is 0 where each byte is 0 under its own, and a byte is below a power of two where its higher bits are 0.
-- Assumes nothing.
use mathlib.Core.Path.{◌≡◌, refl, sym, ap, ◌∙◌}
use mathlib.Core.Bool.{Bool, true, false, ◌&&◌, and-true, and-false, and_assoc}
use mathlib.Core.List.{List, [], ◌∷◌}
use mathlib.Core.Logic.{⊎_elim}
use Prim.Native.Nat.{ℕ, zero, suc, ◌+◌, ◌*◌, ◌≤◌, ◌<◌}
use native.Mathlib.Nat.{mod-eq_of_lt}
use native.Mathlib.Omega.{arith}
use lib.Bits.{bit_and, and_zero_r, and_high}
use lib.Dec.{T, eqb, ltb, ltb→lt}
use lib.ListN.{length, get_or, get_or-eq_default}
use lib.Pow.{shr_lt}
use borrow.Author.Tests.{lt-ltb, le-ltb, eq-eqb, ne_eqb}
use Rattle.lemmas.proofs.Order.{lt_or_le}
use Rattle.lemmas.proofs.Tests.{all, all-at}
use Rattle.words.specs.Fields.{joined}
use Rattle.words.proofs.Bytewise.{and-joined}

-- a number is 0 where its lowest byte and the others are
zero-parts : (a b : ℕ) → eqb (a * 256 + b) 0 ≡ (eqb b 0 && eqb a 0)
zero-parts zero zero = refl
zero-parts zero (suc b) = ne_eqb (0 * 256 + suc b) 0 (λ e. omega (arith, e)) ∙ sym (ap (λ (t : Bool). t && eqb 0 0) (ne_eqb (suc b) 0 (λ e. omega (arith, e))))
zero-parts (suc a) b = ne_eqb (suc a * 256 + b) 0 (λ e. omega (arith, e)) ∙ sym (and-false (eqb b 0)) ∙ sym (ap (λ (t : Bool). eqb b 0 && t) (ne_eqb (suc a) 0 (λ e. omega (arith, e))))

-- no byte of n is set under its mask
abbrev none : ℕ → (ℕ → ℕ) → (ℕ → ℕ) → Bool
none zero q m = true
none (suc n) q m = eqb (bit_and (q 0) (m 0)) 0 && none n (λ j. q (suc j)) (λ j. m (suc j))

each : (n : ℕ) (q m : ℕ → ℕ) → eqb (joined n (λ j. bit_and (q j) (m j))) 0 ≡ none n q m
unfolding joined
each zero q m = refl
each (suc n) q m =
    zero-parts (joined n (λ j. bit_and (q (suc j)) (m (suc j)))) (bit_and (q 0) (m 0))
    ∙ ap (λ (t : Bool). eqb (bit_and (q 0) (m 0)) 0 && t) (each n (λ j. q (suc j)) (λ j. m (suc j)))

masked : (n : ℕ) (q m : ℕ → ℕ) → ((j : ℕ) → q j < 256) → ((j : ℕ) → m j < 256) → eqb (bit_and (joined n q) (joined n m)) 0 ≡ none n q m
masked n q m bytes masks = ap (λ (w : ℕ). eqb w 0) (and-joined n q m bytes masks) ∙ each n q m

by_cases : (x q b : ℕ) → (q < b → x ≡ 0) → (b ≤ q → x ≡ 0 → ⊥) → eqb x 0 ≡ ltb q b
by_cases x q b low high =
    ⊎_elim (λ (l : q < b). eq-eqb x 0 (low l) ∙ sym (lt-ltb q b l)) (λ (l : b ≤ q). ne_eqb x 0 (high l) ∙ sym (le-ltb q b l)) (lt_or_le q b)

below_two : (q : ℕ) → q < 256 → eqb (bit_and q 0xFE) 0 ≡ ltb q 2
below_two q h = let rest = and_high q 7 1 ∙ ap (λ (n : ℕ). n * 2) (mod-eq_of_lt (shr_lt 7 1 h)) in by_cases (bit_and q 0xFE) q 2 (λ l. omega (arith, rest, l)) (λ l e. omega (arith, rest, l, e))

below-four : (q : ℕ) → q < 256 → eqb (bit_and q 0xFC) 0 ≡ ltb q 4
below-four q h = let rest = and_high q 6 2 ∙ ap (λ (n : ℕ). n * 4) (mod-eq_of_lt (shr_lt 6 2 h)) in by_cases (bit_and q 0xFC) q 4 (λ l. omega (arith, rest, l)) (λ l e. omega (arith, rest, l, e))

-- ---- the words

-- the bits that must be 0 of E B M, not of P A, and of I O AB; then of BF and the marks
abbrev low_masks : List ℕ
low_masks = 0xFE ∷ 0xFE ∷ 0xFC ∷ 0 ∷ 0 ∷ 0xFE ∷ 0xFE ∷ 0xFE ∷ []

abbrev high_masks : List ℕ
high_masks = 0xFC ∷ 0xFE ∷ 0xFE ∷ 0xFE ∷ []

small : (masks : List ℕ) → T (all 8 (λ j. ltb (get_or masks j 0) 256)) → length masks ≤ 8 → (j : ℕ) → get_or masks j 0 < 256
small masks ok long j =
    ⊎_elim (λ (l : j < 8). ltb→lt (get_or masks j 0) 256 (all-at 8 (λ i. ltb (get_or masks i 0) 256) ok j l)) (λ (l : 8 ≤ j). rw (get_or-eq_default masks 0 {n = j} (omega (arith, l, long))) (omega arith)) (lt_or_le j 8)

module _ (q : ℕ → ℕ) (bytes : (j : ℕ) → q j < 256) where
  pub low_word : eqb (bit_and (joined 8 q) 0xFEFEFE0000FCFEFE) 0 ≡ (ltb (q 0) 2 && (ltb (q 1) 2 && (ltb (q 2) 4 && (ltb (q 5) 2 && (ltb (q 6) 2 && ltb (q 7) 2)))))
  unfolding joined
  low_word =
      masked 8 q (λ j. get_or low_masks j 0) bytes (small low_masks tt (omega arith))
      ∙ rw (below_two (q 0) (bytes 0), below_two (q 1) (bytes 1), below-four (q 2) (bytes 2), and_zero_r (q 3), and_zero_r (q 4), below_two (q 5) (bytes 5), below_two (q 6) (bytes 6), below_two (q 7) (bytes 7), and-true (ltb (q 7) 2))

  pub high_word : eqb (bit_and (joined 4 q) 0xFEFEFEFC) 0 ≡ (ltb (q 0) 4 && (ltb (q 1) 2 && (ltb (q 2) 2 && ltb (q 3) 2)))
  unfolding joined
  high_word =
      masked 4 q (λ j. get_or high_masks j 0) bytes (small high_masks tt (omega arith))
      ∙ rw (below-four (q 0) (bytes 0), below_two (q 1) (bytes 1), below_two (q 2) (bytes 2), below_two (q 3) (bytes 3), and-true (ltb (q 3) 2))

-- ---- P and A among them

after : (z p a : Bool) → (z && p && a) ≡ (p && (a && z))
after z true true = and-true (z && true) ∙ and-true z
after z true false = and-false (z && true)
after z false a = ap (λ (t : Bool). t && a) (and-false z)

pub regrouped : (e b m p a i o ab bf marks : Bool) → (e && (b && (m && (i && (o && ab)))) && (bf && marks) && p && a) ≡ (e && (b && (m && (p && (a && (i && (o && (ab && (bf && marks)))))))))
regrouped false b m p a i o ab bf marks = refl
regrouped true false m p a i o ab bf marks = refl
regrouped true true false p a i o ab bf marks = refl
regrouped true true true p a i o ab bf marks =
    after (i && (o && ab) && (bf && marks)) p a ∙ ap (λ (t : Bool). p && (a && t)) (and_assoc i (o && ab) (bf && marks) ∙ ap (λ (t : Bool). i && t) (and_assoc o ab (bf && marks)))
