-- RAM images read back (paper 02, request 13): what is at fault in a record, and the columns that a file's records give. What holds of it is stated in `Covered`.
-- A column is given by no record yet where it is 16, which no column can be.
-- Assumes nothing.
use Rattle.std.specs.Prelude.{◌≡◌, refl, ℕ, zero, suc, ◌+◌, ◌-◌, ◌*◌, ◌%◌, ◌≤◌, Bool, true, cond, ◌&&◌, ◌||◌, List, [], ◌∷◌, eqb, ltb, leb, length, get_or, take, drop, replicate, Err, Ok}
use Rattle.std.proofs.Common.{arith, length-drop}
use Rattle.std.proofs.lemmas.List.Edits.{sets}
use Rattle.sheet.specs.Results.{Check}
use Rattle.sheet.specs.declared.Refusal.TheVariants.{RamLength, RamByte, LongLog, RecordForm, Checksum, RecordType, AddressOutside, AddressTwice, AddressMissing, NoEnd}
use Rattle.sheet.specs.Parts.{within, part_of}
use Rattle.sheet.specs.Checks.{unless, or_else, passed, over_in, check_part, check_chips}
use Rattle.sheet.specs.Written.{WrittenAfter, written_by}
use Rattle.image_sheet.specs.Hex.{sum_of, one_group}

-- ---- text as bytes

-- a digit's value; 16 for a character that is none, a small letter too
unfoldable pub value_of : ℕ → ℕ
value_of c = cond (within 48 57 c) (c - 48) (cond (within 65 70 c) (c - 55) 16)

abbrev pub pair_of : ℕ → ℕ → ℕ
pair_of h l = 16 * value_of h + value_of l

unfoldable pub are_digits : List ℕ → Bool
are_digits [] = true
are_digits (c ∷ cs) = ltb (value_of c) 16 && are_digits cs

unfoldable pub bytes_of : List ℕ → List ℕ
bytes_of [] = []
bytes_of (h ∷ []) = []
bytes_of (h ∷ l ∷ rest) = pair_of h l ∷ bytes_of rest

-- ---- a line: a colon, the digits of 5 + LL bytes, and LF or CR LF. What is past a file's end is 0, which is none of these

-- LL, the first byte
abbrev pub count_in : List ℕ → ℕ
count_in text = pair_of (get_or text 1 0) (get_or text 2 0)

unfoldable pub digits_in : List ℕ → List ℕ
digits_in text = take (10 + 2 * count_in text) (drop 1 text)

-- the bytes of a line's end at a place, 0 where none stands
unfoldable pub line_end : ℕ → List ℕ → ℕ
line_end i text = cond (eqb (get_or text i 0) 10) 1 (cond (eqb (get_or text i 0) 13 && eqb (get_or text (i + 1) 0) 10) 2 0)

unfoldable pub end_in : List ℕ → ℕ
end_in text = line_end (11 + 2 * count_in text) text

unfoldable pub is_line : List ℕ → Bool
is_line text = eqb (get_or text 0 0) 58 && (ltb 0 (end_in text) && are_digits (digits_in text))

unfoldable pub size_in : List ℕ → ℕ
size_in text = 11 + 2 * count_in text + end_in text

-- ---- a record of such bytes

abbrev pub count_of : List ℕ → ℕ
count_of bytes = get_or bytes 0 0

abbrev pub address_of : List ℕ → ℕ
address_of bytes = 256 * get_or bytes 1 0 + get_or bytes 2 0

abbrev pub kind_of : List ℕ → ℕ
kind_of bytes = get_or bytes 3 0

abbrev pub data_of : List ℕ → List ℕ
data_of bytes = take (count_of bytes) (drop 4 bytes)

-- an end record has length 0 and address 0
abbrev pub end_form : List ℕ → Bool
end_form bytes = cond (eqb (kind_of bytes) 1) (eqb (count_of bytes) 0 && eqb (address_of bytes) 0) true

-- every data byte has a column
abbrev pub inside : List ℕ → List ℕ → Bool
inside given bytes = eqb (count_of bytes) 0 || leb (address_of bytes + count_of bytes) (length given)

unfoldable pub none_given : List ℕ → Bool
none_given [] = true
none_given (q ∷ qs) = ltb 15 q && none_given qs

-- 21 of an end record, 22, 23
unfoldable pub head_fault : ℕ → List ℕ → Check
head_fault at bytes =
    or_else (unless (end_form bytes) (RecordForm at)) (or_else (unless (eqb (sum_of bytes % 256) 0) (Checksum at)) (unless (leb (kind_of bytes) 1) (RecordType at)))

-- 24, 25 by what was given before it, then 5: each over all its data bytes
unfoldable pub data_fault : List ℕ → ℕ → List ℕ → Check
data_fault given at bytes =
    or_else (unless (inside given bytes) (AddressOutside at))
    (or_else (unless (none_given (take (count_of bytes) (drop (address_of bytes) given))) (AddressTwice at)) (unless (passed (over_in 0 (data_of bytes))) (RamByte at)))

abbrev pub fault_of : List ℕ → ℕ → List ℕ → Check
fault_of given at bytes = or_else (head_fault at bytes) (data_fault given at bytes)

-- what is given after it
abbrev pub stored : List ℕ → List ℕ → List ℕ
stored given bytes = sets given (address_of bytes) (data_of bytes)

-- ---- a file

-- what is at fault, and what was given before it
pub record Image : Type 0 where
  pub check : Check
  pub columns : List ℕ

abbrev pub image : Check → List ℕ → Image
image check columns = record { check = check; columns = columns }

-- 26: the first column that no record gave, counted from i
unfoldable pub missing_in : ℕ → List ℕ → Check
missing_in i [] = Ok tt
missing_in i (q ∷ qs) = cond (ltb 15 q) (Err (AddressMissing i)) (missing_in (suc i) qs)

-- after the end record: 27 if there is anything more, then 26
abbrev pub ended : List ℕ → List ℕ → Image
ended given [] = image (missing_in 0 given) given
ended given (c ∷ cs) = image (Err NoEnd) given

-- 21 to 25 and 5 of the record at the head of a text; else it is stored, and the file ends, or goes on after it
abbrev pub or_fault : Check → List ℕ → Image → Image
or_fault (Ok _) given next = next
or_fault (Err r) given next = image (Err r) given

abbrev pub fault_in : List ℕ → ℕ → List ℕ → Check
fault_in given at text = or_else (unless (is_line text) (RecordForm at)) (fault_of given at (bytes_of (digits_in text)))

-- k bounds how many records there are, for the recursion. 27 where no end record comes
unfoldable pub image_in : ℕ → ℕ → List ℕ → List ℕ → Image
image_in zero at given text = image (Err NoEnd) given
image_in (suc k) at given [] = image (Err NoEnd) given
image_in (suc k) at given (c ∷ cs) =
    let text = c ∷ cs in
    let bytes = bytes_of (digits_in text) in
    let rest = drop (size_in text) text in
    or_fault (fault_in given at text) given
    (cond (eqb (kind_of bytes) 1) (ended (stored given bytes) rest) (image_in k (at + size_in text) (stored given bytes) rest))

-- what the records from a place on make of what was given before, of the bytes from there on: there are no more than bytes
unfoldable pub image_from : ℕ → List ℕ → List ℕ → Image
image_from at given text = image_in (length text) at given text

unfoldable pub image_of : ℕ → List ℕ → Image
image_of size file = image_from 0 (replicate size 16) file

-- ---- its equations

-- the bound does not matter if it is enough
enough : (k j at : ℕ) (given text : List ℕ) → length text ≤ k → length text ≤ j → image_in k at given text ≡ image_in j at given text
unfolding image_in size_in
enough zero zero at given text m n = refl
enough zero (suc j) at given [] m n = refl
enough zero (suc j) at given (c ∷ cs) m n = absurd (omega arith)
enough (suc k) zero at given [] m n = refl
enough (suc k) zero at given (c ∷ cs) m n = absurd (omega arith)
enough (suc k) (suc j) at given [] m n = refl
enough (suc k) (suc j) at given (c ∷ cs) m n =
    let text = c ∷ cs in
    let less = length-drop (size_in text) text in
    rw (enough k j (at + size_in text) (stored given (bytes_of (digits_in text))) (drop (size_in text) text) (omega arith) (omega arith))

pub no-records : (at : ℕ) (given : List ℕ) → image_from at given [] ≡ image (Err NoEnd) given
unfolding image_from image_in
no-records at given = refl

-- one record
pub a-record : (at : ℕ) (given : List ℕ) (c : ℕ) (cs : List ℕ) →
    let text = c ∷ cs in
    let bytes = bytes_of (digits_in text) in
    let rest = drop (size_in text) text in
    image_from at given text ≡ or_fault (fault_in given at text) given (cond (eqb (kind_of bytes) 1) (ended (stored given bytes) rest) (image_from (at + size_in text) (stored given bytes) rest))
unfolding image_from image_in size_in
a-record at given c cs =
    let text = c ∷ cs in
    let less = length-drop (size_in text) text in
    rw (enough (length cs) (length (drop (size_in text) text)) (at + size_in text) (stored given (bytes_of (digits_in text))) (drop (size_in text) text) (omega arith) (omega arith))

-- ---- the call: 16, 3, 14, 4, then the file's own

unfoldable pub check_file : ℕ → ℕ → ℕ → ℕ → Check
check_file part n file out =
    or_else (check_part part) (or_else (check_chips (part_of part) (one_group n)) (or_else (unless (leb file 65536) LongLog) (unless (eqb out ((part_of part).columns * n)) RamLength)))

-- what is read stands in the output, where nothing is refused
unfoldable pub hex_read_part : ℕ → ℕ → List ℕ → List ℕ → WrittenAfter
hex_read_part part n file out =
    let read = image_of ((part_of part).columns * n) file in
    written_by (or_else (check_file part n (length file) (length out)) read.check) read.columns out
