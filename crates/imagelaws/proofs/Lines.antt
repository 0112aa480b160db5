-- A line that was written, as it is read: it is a line, its bytes are the record's, and what follows it is the rest.
-- Assumes nothing.
use mathlib.Core.Path.{◌≡◌, refl, ap, ap₂, ◌∙◌}
use mathlib.Core.Bool.{Bool, true, false}
use mathlib.Core.List.{List, [], ◌∷◌, ◌++◌, append_assoc}
use Prim.Native.Nat.{ℕ, ◌+◌, ◌-◌, ◌*◌, ◌/◌, ◌%◌, ◌<◌}
use native.Mathlib.Omega.{arith}
use lib.Dec.{eqb}
use lib.ListN.{length, get_or, take, drop, length-append}
use lib.Seq.{take_at, drop_at, get_or_at}
use borrow.Author.Tests.{eqb-true, lt-ltb}
use lib.Dec.{T}
use Rattle.lemmas.proofs.Tests.{all-at}
use Rattle.sheet.specs.Parts.{within}
use Rattle.image_sheet.specs.Hex.{digit_of, text_of, sum_of, checksum_of, line_of}
use Rattle.image_sheet.specs.Images.{value_of, pair_of, are_digits, bytes_of, count_in, digits_in, line_end, end_in, is_line, size_in}
use Rattle.laws.proofs.Hexadecimal.{length-text, sum-append}

-- every number of a list is a byte
abbrev pub Bytes : List ℕ → Type 0
Bytes [] = Unit {0}
Bytes (x ∷ xs) = (x < 256) × Bytes xs

pub bytes-append : (a b : List ℕ) → Bytes a → Bytes b → Bytes (a ++ b)
bytes-append [] b h l = l
bytes-append (x ∷ xs) b h l = (h.0, bytes-append xs b h.1 l)

-- ---- digits

right : ℕ → Bool
right n = eqb (value_of (digit_of n)) n

-- a digit's character has its value: sixteen of them, computed
value-digit : (n : ℕ) → n < 16 → value_of (digit_of n) ≡ n
unfolding right value_of within
value-digit n h = eqb-true (value_of (digit_of n)) n (is_true (right n) (all-at 16 right tt n h))
  where
    is_true : (b : Bool) → T b → b ≡ true
    is_true true t = refl
    is_true false t = absurd t

digits-text : (bytes : List ℕ) → Bytes bytes → are_digits (text_of bytes) ≡ true
unfolding are_digits text_of
digits-text [] h = refl
digits-text (x ∷ xs) h =
    rw (value-digit (x / 16) (omega (arith, h.0)), value-digit (x % 16) (omega arith), lt-ltb (x / 16) 16 (omega (arith, h.0)), lt-ltb (x % 16) 16 (omega arith)) (digits-text xs h.1)

pair-of : (x : ℕ) → x < 256 → pair_of (digit_of (x / 16)) (digit_of (x % 16)) ≡ x
pair-of x h = ap₂ (λ (a b : ℕ). 16 * a + b) (value-digit (x / 16) (omega arith)) (value-digit (x % 16) (omega arith)) ∙ omega arith

bytes-text : (bytes : List ℕ) → Bytes bytes → bytes_of (text_of bytes) ≡ bytes
unfolding bytes_of text_of
bytes-text [] h = refl
bytes-text (x ∷ xs) h = ap₂ (λ (a : ℕ) (l : List ℕ). a ∷ l) (pair-of x h.0) (bytes-text xs h.1)

-- ---- a line of bytes of which the first says how many there are, before any text

module _ (n : ℕ) (bytes rest : List ℕ) (are : Bytes (n ∷ bytes)) (many : length bytes ≡ 4 + n) where
  abbrev text : List ℕ
  text = line_of (n ∷ bytes) ++ rest

  -- the colon and the digits come first, and then LF
  abbrev front : List ℕ
  front = 58 ∷ text_of (n ∷ bytes)

  split : text ≡ front ++ (10 ∷ rest)
  split = append_assoc front (10 ∷ []) rest

  long : length (text_of (n ∷ bytes)) ≡ 10 + 2 * n
  long = length-text (n ∷ bytes) ∙ omega (arith, many)

  count : count_in text ≡ n
  unfolding text_of
  count = pair-of n are.0

  digits : digits_in text ≡ text_of (n ∷ bytes)
  unfolding digits_in
  digits = ap₂ take {x = 10 + 2 * count_in text} {y = 10 + 2 * n} (omega (arith, count)) (ap (drop 1) split) ∙ take_at (text_of (n ∷ bytes)) (10 ∷ rest) (10 + 2 * n) long

  ends : end_in text ≡ 1
  unfolding end_in line_end
  ends =
      let last : get_or text (11 + 2 * count_in text) 0 ≡ 10 = ap (λ (k : ℕ). get_or text k 0) {x = 11 + 2 * count_in text} {y = 11 + 2 * n} (omega (arith, count)) ∙ ap (λ (l : List ℕ). get_or l (11 + 2 * n) 0) split ∙ get_or_at front 10 rest 0 (11 + 2 * n) (omega (arith, long)) in
      rw last

  pub is-line : is_line text ≡ true
  unfolding is_line
  is-line = rw (ends, digits, digits-text (n ∷ bytes) are)

  pub its-bytes : bytes_of (digits_in text) ≡ n ∷ bytes
  its-bytes = ap bytes_of digits ∙ bytes-text (n ∷ bytes) are

  pub then-rest : drop (size_in text) text ≡ rest
  unfolding size_in
  then-rest = drop_at (line_of (n ∷ bytes)) rest (size_in text) (omega (arith, length-append front (10 ∷ []), long, count, ends))

-- ---- the sum of a record's bytes

pub sum-zero : (bytes : List ℕ) → sum_of (bytes ++ (checksum_of bytes ∷ [])) % 256 ≡ 0
unfolding sum_of
sum-zero bytes = omega (arith, sum-append bytes (checksum_of bytes ∷ []))
