-- Writing, then reading, gives the RAM back.
-- Assumes nothing.
use mathlib.Core.Path.{◌≡◌, refl, ap, ap₂, ◌∙◌}
use mathlib.Core.Bool.{Bool, true, false, cond, ◌||◌}
use mathlib.Core.List.{List, [], ◌∷◌, ◌++◌, append_assoc}
use Prim.Native.Nat.{ℕ, zero, suc, ◌+◌, ◌-◌, ◌*◌, ◌/◌, ◌%◌, ◌≤◌, ◌<◌}
use native.Mathlib.Omega.{arith}
use lib.Dec.{eqb, leb}
use lib.ListN.{length, take, drop, replicate, length-append, length-take, length-drop, length-replicate, take-append-drop}
use lib.Seq.{sets, sets-eq, take_at, take-append_seam, drop-append_seam, drop-append-add}
use borrow.Author.Tests.{eq-eqb, le-leb, le-ltb}
use Rattle.std.specs.Prelude.{Ok}
use Rattle.sheet.specs.Results.{Check}
use Rattle.sheet.specs.declared.Refusal.TheVariants.{RamByte, AddressOutside, AddressTwice}
use Rattle.sheet.specs.Parts.{within}
use Rattle.sheet.specs.Checks.{unless, or_else, passed, over_in}
use Rattle.image_sheet.specs.Hex.{text_of, sum_of, checksum_of, head_of, record_of, line_of, data_lines, file_of}
use Rattle.image_sheet.specs.Images.{value_of, are_digits, bytes_of, digits_in, line_end, end_in, is_line, size_in, count_of, address_of, kind_of, data_of, none_given, head_fault, data_fault, fault_of, fault_in, stored, Image, image, missing_in, ended, or_fault, image_from, image_of, a-record}
use Rattle.laws.proofs.Nibbles.{Nibbles, check-nibbles, take-nibbles, drop-nibbles, join_nibbles}
use Rattle.imagelaws.proofs.Lines.{Bytes, bytes-append, is-line, its-bytes, then-rest, sum-zero}
use Rattle.imagelaws.proofs.Answers.{take-replicate}

-- ---- columns that no record gave yet

none-given : (n : ℕ) → none_given (replicate n 16) ≡ true
unfolding none_given
none-given zero = refl
none-given (suc n) = none-given n

drop-replicate : (n m a : ℕ) → drop n (replicate m a) ≡ replicate (m - n) a
drop-replicate zero m a = let all : m - 0 ≡ m = omega arith in rw all
drop-replicate (suc n) zero a = let none : 0 - suc n ≡ 0 = omega arith in rw none
drop-replicate (suc n) (suc m) a = let less : suc m - suc n ≡ m - n = omega arith in rw less (drop-replicate n m a)

none_missing : (i : ℕ) (given : List ℕ) → Nibbles given → missing_in i given ≡ Ok tt
unfolding missing_in
none_missing i [] w = refl
none_missing i (q ∷ qs) w = rw (le-ltb 15 q (omega (arith, w 0))) (none_missing (suc i) qs (λ j. w (suc j)))

bytes-of : (l : List ℕ) → Nibbles l → Bytes l
bytes-of [] w = tt
bytes-of (q ∷ qs) w = (omega (arith, w 0), bytes-of qs (λ j. w (suc j)))

or_true : (b : Bool) → (b || true) ≡ true
or_true true = refl
or_true false = refl

-- of columns that are not given, so many are none
free_of : (before : List ℕ) (m n : ℕ) → n ≤ m → none_given (take n (drop (length before) (before ++ replicate m 16))) ≡ true
free_of before m n h = ap none_given (ap (take n) (drop-append_seam before (replicate m 16)) ∙ take-replicate n m 16 h) ∙ none-given n

append-cut : (a b c : List ℕ) (at : ℕ) (given : List ℕ) → image_from at given ((a ++ b) ++ c) ≡ image_from at given (a ++ (b ++ c))
append-cut a b c at given = ap (image_from at given) (append_assoc a b c)

-- ---- one data record

module _ (address : ℕ) (columns : List ℕ) (few : length columns < 256) (near : address < 65536) (low : Nibbles columns) where
  abbrev its : List ℕ
  its = record_of 0 address columns

  -- what follows its length byte
  abbrev after-length : List ℕ
  after-length = address / 256 ∷ address % 256 ∷ 0 ∷ (columns ++ (checksum_of (head_of 0 address columns ++ columns) ∷ []))

  are : Bytes (length columns ∷ after-length)
  are = (few, (omega arith, (omega arith, (omega arith, bytes-append columns (checksum_of (head_of 0 address columns ++ columns) ∷ []) (bytes-of columns low) (omega arith, tt)))))

  many : length after-length ≡ 4 + length columns
  many = omega (arith, length-append columns (checksum_of (head_of 0 address columns ++ columns) ∷ []))

  head-passes : (at : ℕ) → head_fault at its ≡ Ok tt
  unfolding head_fault record_of
  head-passes at = rw (eq-eqb (sum_of its % 256) 0 (sum-zero (head_of 0 address columns ++ columns)))

  address_is : address_of its ≡ address
  unfolding record_of
  address_is = omega arith

  data_is : data_of its ≡ columns
  unfolding record_of
  data_is = take_at columns (checksum_of (head_of 0 address columns ++ columns) ∷ []) (length columns) refl

  count-is : count_of its ≡ length columns
  unfolding record_of
  count-is = refl

  kind_is : kind_of its ≡ 0
  unfolding record_of
  kind_is = refl

  -- its line before any text
  module _ (rest : List ℕ) where
    line : is_line (line_of its ++ rest) ≡ true
    unfolding record_of
    line = is-line (length columns) after-length rest are many

    bytes-are : bytes_of (digits_in (line_of its ++ rest)) ≡ its
    unfolding record_of
    bytes-are = its-bytes (length columns) after-length rest are many

    rest-is : drop (size_in (line_of its ++ rest)) (line_of its ++ rest) ≡ rest
    unfolding record_of
    rest-is = then-rest (length columns) after-length rest are many

  module _ (given : List ℕ) (room : address + length columns ≤ length given) (free : none_given (take (length columns) (drop address given)) ≡ true) (at : ℕ) where
    by_parts : (n a : ℕ) (l : List ℕ) → n ≡ length columns → a ≡ address → l ≡ columns
        → or_else (unless (eqb n 0 || leb (a + n) (length given)) (AddressOutside at)) (or_else (unless (none_given (take n (drop a given))) (AddressTwice at)) (unless (passed (over_in 0 l)) (RamByte at))) ≡ Ok tt
    by_parts n a l e f g = rw (e, f, g, le-leb (address + length columns) (length given) room, or_true (eqb (length columns) 0), free, check-nibbles 0 columns low)

    data_passes : data_fault given at its ≡ Ok tt
    unfolding data_fault
    data_passes = by_parts (count_of its) (address_of its) (data_of its) count-is address_is data_is

    passes : fault_of given at its ≡ Ok tt
    passes = rw (head-passes at) data_passes

    -- it is read, and the rest is read with its columns given
    module _ (rest : List ℕ) where
      abbrev text : List ℕ
      text = line_of its ++ rest

      abbrev goes_on : Check → List ℕ → List ℕ → Image
      goes_on f bytes more = or_fault f given (cond (eqb (kind_of bytes) 1) (ended (stored given bytes) more) (image_from (at + size_in text) (stored given bytes) more))

      no-fault : fault_in given at text ≡ Ok tt
      no-fault = rw (line rest) (ap (fault_of given at) (bytes-are rest) ∙ passes)

      pub read_data : image_from at given text ≡ image_from (at + size_in text) (sets given address columns) rest
      read_data =
          a-record at given 58 ((text_of its ++ (10 ∷ [])) ++ rest)
          ∙ (λ i. goes_on (no-fault i) (bytes-are rest i) (rest-is rest i))
          ∙ ap (λ (k : ℕ). cond (eqb k 1) (ended (stored given its) rest) (image_from (at + size_in text) (stored given its) rest)) kind_is
          ∙ (λ i. image_from (at + size_in text) (sets given (address_is i) (data_is i)) rest)

-- ---- the end record

read-end : (at : ℕ) (given : List ℕ) → Nibbles given → image_from at given (line_of (record_of 1 0 [])) ≡ image (Ok tt) given
unfolding text_of record_of sum_of value_of within are_digits bytes_of digits_in line_end end_in is_line size_in head_fault data_fault none_given over_in
read-end at given low = a-record at given 58 (text_of (record_of 1 0 []) ++ (10 ∷ [])) ∙ ap (λ (k : Check). image k given) (none_missing 0 given low)

-- ---- a file: what was given is a RAM's first columns, and its lines are those of the others

-- the address of no line does not matter
other-address : (k a b : ℕ) (columns : List ℕ) → (0 < k → a ≡ b) → data_lines k a columns ≡ data_lines k b columns
unfolding data_lines
other-address zero a b columns e = refl
other-address (suc k) a b columns e = ap (λ (x : ℕ). data_lines (suc k) x columns) (e (omega arith))

-- the next columns are given
given-more : (before columns : List ℕ) (m : ℕ) → length columns ≤ m → sets (before ++ replicate m 16) (length before) columns ≡ (before ++ columns) ++ replicate (m - length columns) 16
given-more before columns m h =
    let blank : List ℕ = replicate m 16 in
    sets-eq columns (before ++ blank) (length before) (omega (arith, length-append before blank, length-replicate {A = ℕ} m 16))
    ∙ ap₂ (λ (x y : List ℕ). (x ++ columns) ++ y) (take-append_seam before blank) (drop-append-add before blank (length columns) ∙ drop-replicate (length columns) m 16)

back : (k at : ℕ) (before columns : List ℕ) → length columns ≤ 16 * k → 16 * k < length columns + 16 → Nibbles before → Nibbles columns → length before + length columns ≤ 65536
    → image_from at (before ++ replicate (length columns) 16) (data_lines k (length before) columns ++ line_of (record_of 1 0 [])) ≡ image (Ok tt) (before ++ columns)
unfolding data_lines
back zero at before [] h l wb wc near = read-end at (before ++ []) (join_nibbles before [] wb wc)
back zero at before (x ∷ xs) h l wb wc near = absurd (omega arith)
back (suc k) at before columns h l wb wc near =
    let sixteen = take 16 columns in
    let others = drop 16 columns in
    let blank : List ℕ = replicate (length columns) 16 in
    let taken = length-take 16 columns in
    let left = length-drop 16 columns in
    let joined = length-append before sixteen in
    let more = data_lines k (length before + 16) others ++ line_of (record_of 1 0 []) in
    let here = line_of (record_of 0 (length before) sixteen) in
    let low = take-nibbles 16 columns wc in
    let next = at + size_in (here ++ more) in
    append-cut here (data_lines k (length before + 16) others) (line_of (record_of 1 0 [])) at (before ++ blank)
    ∙ read_data (length before) sixteen (omega arith) (omega arith) low (before ++ blank) (omega (arith, length-append before blank, length-replicate {A = ℕ} (length columns) 16)) (free_of before (length columns) (length sixteen) (omega arith)) at more
    ∙ ap₂ (λ (x y : List ℕ). image_from next x (y ++ line_of (record_of 1 0 [])))
    (given-more before sixteen (length columns) (omega arith) ∙ ap (λ (n : ℕ). (before ++ sixteen) ++ replicate n 16) {x = length columns - length sixteen} {y = length others} (omega arith))
    (other-address k (length before + 16) (length (before ++ sixteen)) others (λ some. omega arith))
    ∙ back k next (before ++ sixteen) others (omega arith) (omega arith) (join_nibbles before sixteen wb low) (drop-nibbles 16 columns wc) (omega arith)
    ∙ ap (image (Ok tt)) (append_assoc before sixteen others ∙ ap (λ (l : List ℕ). before ++ l) (take-append-drop 16 columns))

-- ---- the laws

-- of any RAM of columns whose addresses fit two bytes
pub file-back : (ram : List ℕ) → Nibbles ram → length ram ≤ 65536 → image_of (length ram) (file_of ram) ≡ image (Ok tt) ram
unfolding image_of file_of
file-back ram low near = back ((length ram + 15) / 16) 0 [] ram (omega arith) (omega arith) (λ i. omega arith) low (omega arith)
