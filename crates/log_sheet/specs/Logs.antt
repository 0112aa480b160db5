-- Bus logs and the program's text (paper 01, "Bus logs"; paper 02, request 10): a log's bytes in, the text's bytes out.
-- Assumes nothing.
use Rattle.std.specs.Prelude.{ℕ, zero, suc, ◌+◌, ◌*◌, ◌/◌, ◌%◌, cond, ◌&&◌, ◌||◌, List, [], ◌∷◌, ◌++◌, map, eqb, ltb, leb, length, get_or, drop, replicate, Err, Ok}
use Rattle.sheet.specs.declared.Chips.{Chips}
use Rattle.sheet.specs.Results.{Check, Answer}
use Rattle.sheet.specs.declared.Refusal.{Refusal}
use Rattle.sheet.specs.declared.Refusal.TheVariants.{LogHead, LongLog}
use Rattle.sheet.specs.Refusals.{number_of, place_of, numbers}
use Rattle.sheet.specs.Parts.{pcf8532}
use Rattle.sheet.specs.Registers.{registers_of}
use Rattle.sheet.specs.Protocol.{Sent, whole}
use Rattle.log_sheet.specs.Records.{Records, length_of, records_from}
use Rattle.sheet.specs.Checks.{unless, or_else, check_chips}
use Rattle.sheet.specs.Pictures.{picture_of, lit_in}
use Rattle.sheet.specs.Long.{State, state_of, both_on, transfer_call, state_after, state_after_all, columns_of}

-- ---- the log

-- the chips in groups 0 and 1
abbrev pub log_chips : List ℕ → Chips
log_chips log = record { zero = get_or log 1 0; one = get_or log 2 0 }

-- the bytes at the start of a record's body that say what the analyser saw: none in version 1, two in version 2
abbrev pub seen_bytes : List ℕ → ℕ
seen_bytes log = cond (eqb (get_or log 0 0) 2) 2 0

-- the records after the head
abbrev pub log_records : List ℕ → Records
log_records log = records_from (seen_bytes log) 3 (drop 3 log)

-- 14, 12, 3
unfoldable pub check_head : List ℕ → Check
check_head log =
    or_else (unless (leb (length log) 65536) LongLog)
    (or_else (unless (leb 3 (length log) && (eqb (get_or log 0 0) 1 || eqb (get_or log 0 0) 2)) LogHead) (check_chips pcf8532 (log_chips log)))

-- then 13 and 20 record by record
unfoldable pub check_log : List ℕ → Check
check_log log = or_else (check_head log) (log_records log).tear

-- the transfer in a body, after what was seen; logs carry whole bytes
abbrev pub transfer_in : ℕ → List ℕ → Sent
transfer_in seen body = whole (drop seen body)

abbrev pub transfers_in : ℕ → List (List ℕ) → List Sent
transfers_in seen bodies = map (transfer_in seen) bodies

abbrev pub log_transfers : List ℕ → List Sent
log_transfers log = transfers_in (seen_bytes log) (log_records log).bodies

-- ---- lines

-- the decimal digits of a number, of which it has k at most
unfoldable pub digits_in : ℕ → ℕ → List ℕ
digits_in zero n = []
digits_in (suc k) n = cond (ltb n 10) ((48 + n) ∷ []) (digits_in k (n / 10) ++ ((48 + n % 10) ∷ []))

-- a number has no more digits than its value and one
unfoldable pub decimal : ℕ → List ℕ
decimal n = digits_in (suc n) n

-- each number after a space
unfoldable pub spaced : List ℕ → List ℕ
spaced [] = []
spaced (n ∷ ns) = 32 ∷ (decimal n ++ spaced ns)

-- a letter, the numbers, and LF
abbrev pub line : ℕ → List ℕ → List ℕ
line letter ns = letter ∷ (spaced ns ++ (10 ∷ []))

-- ---- the text

-- the letter that a transfer's line begins with: T
abbrev pub transfer_letter : ℕ
transfer_letter = 84

-- `T index answer place acknowledged stored discarded last`: who acknowledged the last data byte, 4 for none
abbrev pub transfer_line : ℕ → Answer → List ℕ
transfer_line i answer = line transfer_letter (i ∷ numbers pcf8532 answer)

-- the acknowledged bytes that the model has: none of a refused transfer
abbrev pub modelled : Answer → ℕ
modelled (Ok t) = t.counts.acknowledged
modelled (Err r) = 0

-- and those that the analyser saw
abbrev pub seen_in : List ℕ → ℕ
seen_in body = length_of (get_or body 0 0) (get_or body 1 0)

-- one where the bus and the model differ: A
abbrev pub seen_letter : ℕ
seen_letter = 65

-- `A index seen modelled`, where the two differ
abbrev pub seen_line : ℕ → ℕ → ℕ → List ℕ
seen_line i s m = cond (eqb s m) [] (line seen_letter (i ∷ s ∷ m ∷ []))

-- a record's lines: the transfer's, and in version 2 the one of what was seen
abbrev pub record_lines : ℕ → ℕ → ℕ → Answer → List ℕ
record_lines seen i count answer = transfer_line i answer ++ cond (eqb seen 0) [] (seen_line i count (modelled answer))

unfoldable pub transfer_lines : ℕ → Chips → ℕ → State → List (List ℕ) → List ℕ
transfer_lines seen n i s [] = []
transfer_lines seen n i s (body ∷ bodies) =
    record_lines seen i (seen_in body) (transfer_call pcf8532 n s.registers s.ram (transfer_in seen body)).result.answer ++ transfer_lines seen n (suc i) (state_after pcf8532 n s (transfer_in seen body)) bodies

-- a lit column's: S
abbrev pub column_letter : ℕ
column_letter = 83

-- `S group column value`, if the column is lit
abbrev pub column_line : ℕ → ℕ → ℕ → List ℕ
column_line g c q = cond (eqb q 0) [] (line column_letter (g ∷ c ∷ q ∷ []))

unfoldable pub column_lines : ℕ → ℕ → List ℕ → List ℕ
column_lines g c [] = []
column_lines g c (q ∷ qs) = column_line g c q ++ column_lines g (suc c) qs

-- a group's: G
abbrev pub group_letter : ℕ
group_letter = 71

-- `G group lit`
abbrev pub group_line : ℕ → ℕ → List ℕ
group_line g lit = line group_letter (g ∷ lit ∷ [])

-- group g's picture at phase 0
abbrev pub shown_at : Chips → State → ℕ → List ℕ
shown_at n s g = picture_of (registers_of g s.registers) 0 (columns_of pcf8532 n g s.ram)

abbrev pub end_lines : Chips → State → List ℕ
end_lines n s =
    column_lines 0 0 (shown_at n s 0)
    ++ (column_lines 1 0 (shown_at n s 1)
    ++ (group_line 0 (lit_in (shown_at n s 0)) ++ group_line 1 (lit_in (shown_at n s 1))))

-- power-on, with RAM all 0
abbrev pub log_start : Chips → State
log_start n = state_of both_on (replicate (160 * (n.zero + n.one)) 0)

abbrev pub log_lines : ℕ → Chips → List (List ℕ) → List ℕ
log_lines seen n bodies = transfer_lines seen n 0 (log_start n) bodies ++ end_lines n (state_after_all pcf8532 n (log_start n) (transfers_in seen bodies))

-- a refusal's: X
abbrev pub refusal_letter : ℕ
refusal_letter = 88

-- `X number place`
abbrev pub refusal_line : Refusal → List ℕ
refusal_line r = line refusal_letter (number_of r ∷ place_of r ∷ [])

-- a refused log gives that line only
abbrev pub text_by : Check → ℕ → Chips → List (List ℕ) → List ℕ
text_by (Ok _) seen n bodies = log_lines seen n bodies
text_by (Err r) seen n bodies = refusal_line r

unfoldable pub text_of : List ℕ → List ℕ
text_of log = text_by (check_log log) (seen_bytes log) (log_chips log) (log_records log).bodies
