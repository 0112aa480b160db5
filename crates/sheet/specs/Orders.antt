-- The orders of refusals (paper 01, "Refusal numbers"), computed: each call, given every set of its faults, answers the first of them in the paper's order, and its place.
use Rattle.std.specs.Prelude.{ℕ, zero, suc, ◌+◌, Bool, true, false, cond, ◌&&◌, List, [], ◌∷◌, ◌++◌, T, eqb, take, replicate}
use Rattle.sheet.specs.declared.Both.{Both}
use Rattle.sheet.specs.declared.Chips.{Chips}
use Rattle.sheet.specs.declared.Chip.{Chip}
use Rattle.sheet.specs.Refusals.{numbers, plain_numbers, picture_numbers, check_numbers}
use Rattle.sheet.specs.Registers.{power_on, marked, in_range, backplanes, bank_row}
use Rattle.sheet.specs.Parts.{within, command_in, part_of}
use Rattle.sheet.specs.Protocol.{heard_by, control_of, sent, whole, whole_of, cut_data}
use Rattle.sheet.specs.Checks.{check_part, check_chips, check_registers, over_in, check_ram, check_length, check_bits, check_sent, fault_in, check_state, check_power_on, check_transfer, check_picture}
use Rattle.sheet.specs.Pictures.{shown, picture_of, lit_in}
use Rattle.sheet.specs.Long.{heard, data_byte, power_on_call, transfer_call, picture_call, power_on_part, transfer_part, picture_part}
use Rattle.sheet.specs.Plain.{put_rows, after_column, after_columns, chip_data, acknowledges_data, smallest, plain_heard, chip_fits, chip_power_on, check_chip_picture, chip_picture_call, misfit_in, check_plain, plain_call, chip_power_on_part, chip_picture_part, plain_part}
use Rattle.sheet.specs.Places.{advanced, position, at_position}
use Rattle.sheet.specs.Data.{put_bits, changed, with_row, stored_bits, counted, acknowledger}
use Rattle.sheet.specs.Starred.{same}
use Rattle.std.specs.Int.Count.{ones, ones_in}

-- ---- every set of faults

-- a refusal's number and place
pub record Fault : Type 0 where
  pub number : ℕ
  pub place : ℕ

abbrev pub refusal : ℕ → ℕ → Fault
refusal number place = record { number = number; place = place }

-- the first whose fault is there; 0 where none is
abbrev pub first_of : List Fault → List Bool → List ℕ
first_of [] there = 0 ∷ 0 ∷ []
first_of (f ∷ fs) [] = 0 ∷ 0 ∷ []
first_of (f ∷ fs) (true ∷ there) = f.number ∷ f.place ∷ []
first_of (f ∷ fs) (false ∷ there) = first_of fs there

abbrev pub every_set : List Fault → (List Bool → Bool) → Bool
every_set [] f = f []
every_set (x ∷ xs) f = every_set xs (λ there. f (true ∷ there)) && every_set xs (λ there. f (false ∷ there))

-- an answer's numbers begin with that number and place, whichever faults are there
abbrev pub in_order : List Fault → (List Bool → List ℕ) → Bool
in_order faults call = every_set faults (λ there. same (take 2 (call there)) (first_of faults there))

-- fault i is there
abbrev pub is : List Bool → ℕ → Bool
is [] i = false
is (t ∷ ts) zero = t
is (t ∷ ts) (suc i) = is ts i

-- the PCF8532, or a part that is none
abbrev pub part : Bool → ℕ
part unknown = cond unknown 2 0

-- ---- the long account: two chips, or five

abbrev pub chips : Bool → Chips
chips many = record { zero = cond many 5 1; one = 1 }

-- 160 bytes a chip, or one more; column 2 holds 0, or 16
abbrev ram : Bool → Bool → Bool → List ℕ
ram many long over = replicate 2 0 ++ (cond over 16 0 ∷ replicate (cond many 957 317 + cond long 1 0) 0)

-- group 1's M is 0, or 4
abbrev pub both : Bool → Both
both bad = record { zero = power_on; one = record { e = 0; b = 0; m = cond bad 4 0; p = 0; a = 0; i = 0; o = 0; ab = 0; bf = 0; unknown = marked 0 } }

-- a control byte 80, or 81; a command 00, or 0A, further on
abbrev commands : Bool → Bool → List ℕ
commands stray undefined = 0x70 ∷ cond stray 0x81 0x80 ∷ 0x00 ∷ 0x00 ∷ cond undefined 0x0A 0x00 ∷ []

-- no bytes, or 4,097
abbrev empty : Bool → List ℕ → List ℕ
empty none bytes = cond none [] bytes

abbrev over4096 : Bool → List ℕ → List ℕ
over4096 more bytes = bytes ++ cond more (replicate 4092 0) []

-- 8 bits of the last byte, or 9; then the faults of bytes
abbrev bits : Bool → ℕ
bits bad = cond bad 9 8

abbrev bytes : List Fault
bytes = refusal 19 0 ∷ refusal 17 1 ∷ refusal 7 4 ∷ []

abbrev state : List Fault
state = refusal 16 0 ∷ refusal 3 0 ∷ refusal 6 0 ∷ refusal 4 0 ∷ refusal 5 2 ∷ []

abbrev answered : (Bool → List ℕ → List ℕ) → List Bool → List ℕ
answered length f =
    numbers (part_of (part (is f 0)))
    (transfer_part (part (is f 0)) (chips (is f 1)) (both (is f 2)) (ram (is f 1) (is f 3) (is f 4)) (sent (length (is f 5) (commands (is f 7) (is f 8))) (bits (is f 6)))).result.answer

abbrev shown_to : (Bool → ℕ) → (Bool → ℕ) → List Bool → List ℕ
shown_to group phase f =
    picture_numbers (picture_part (part (is f 0)) (chips (is f 1)) (both (is f 2)) (ram (is f 1) (is f 3) (is f 4)) (group (is f 5)) (phase (is f 5)) (replicate (cond (is f 1) 800 160 + cond (is f 6) 1 0) 0)).result

abbrev pub long : Bool
long =
    in_order (refusal 16 0 ∷ refusal 3 0 ∷ refusal 4 0 ∷ refusal 5 2 ∷ []) (λ f. check_numbers (power_on_part (part (is f 0)) (chips (is f 1)) (ram (is f 1) (is f 2) (is f 3))).check)
    && (in_order (state ++ (refusal 1 0 ∷ bytes)) (answered empty) && (in_order (state ++ (refusal 2 0 ∷ bytes)) (answered over4096)
    && (in_order (state ++ (refusal 8 0 ∷ refusal 9 0 ∷ [])) (shown_to (λ bad. cond bad 2 0) (λ bad. 0))
    && in_order (state ++ (refusal 8 0 ∷ refusal 9 0 ∷ [])) (shown_to (λ bad. 0) (λ bad. cond bad 2 0)))))

-- ---- the plain account: a chip and a second one, whose subaddress is 1, or 4; seven more, or none

abbrev chip : ℕ → Chip
chip i = record { columns = replicate 160 0; sa0 = 0; subaddress = i; registers = power_on }

abbrev list : Bool → Bool → List Chip
list many misfit = chip 0 ∷ chip (cond misfit 4 1) ∷ cond many (replicate 7 (chip 2)) []

abbrev called : (Bool → List ℕ → List ℕ) → List Bool → List ℕ
called length f = plain_numbers (part_of (part (is f 0))) (plain_part (part (is f 0)) (list (is f 1) (is f 2)) (sent (length (is f 3) (commands (is f 5) (is f 6))) (bits (is f 4)))).answer

abbrev pub plain : Bool
plain =
    in_order (refusal 16 0 ∷ refusal 10 0 ∷ refusal 11 1 ∷ refusal 1 0 ∷ bytes) (called empty)
    && (in_order (refusal 16 0 ∷ refusal 10 0 ∷ refusal 11 1 ∷ refusal 2 0 ∷ bytes) (called over4096)
    && (in_order (refusal 16 0 ∷ refusal 11 0 ∷ []) (λ f. check_numbers (chip_power_on_part (part (is f 0)) (chip (cond (is f 1) 4 1))).check)
    && in_order (refusal 16 0 ∷ refusal 11 0 ∷ refusal 8 0 ∷ refusal 9 0 ∷ [])
    (λ f. picture_numbers (chip_picture_part (part (is f 0)) (chip (cond (is f 1) 4 1)) (cond (is f 2) 2 0) (replicate (160 + cond (is f 3) 1 0) 0)).result)))

-- ---- an unknown part: its number, place and none are 16, 0 and 4, the registers are the power-on ones after a power-on and else those that were given, and nothing that is lent changes

abbrev given : Both
given = both true

abbrev pub refused_as : List ℕ → List ℕ → Bool
refused_as answer last = same answer (16 ∷ 0 ∷ 0 ∷ 0 ∷ 0 ∷ last)

abbrev pub unknown : List ℕ → Bool
unknown [] = true
unknown (part ∷ parts) =
    let s = transfer_part part (chips false) given (ram false false true) (whole (commands false false)) in
    let on = chip_power_on_part part (chip 4) in
    let list = plain_part part (chip 4 ∷ []) (whole (commands false false)) in
    refused_as (numbers (part_of part) s.result.answer) (4 ∷ []) && (eqb s.result.registers.one.m 4 && (same s.ram (ram false false true)
    && (refused_as (plain_numbers (part_of part) list.answer) (4 ∷ []) && (refused_as (check_numbers on.check) (0 ∷ []) && (eqb on.chip.registers.p 0
    && (refused_as (check_numbers (power_on_part part (chips true) []).check) (0 ∷ []) && (same (picture_part part (chips true) given [] 2 2 (7 ∷ [])).out (7 ∷ []) && unknown parts)))))))

pub orders : T (long && (plain && unknown (2 ∷ 3 ∷ 255 ∷ [])))
unfolding part_of check_part power_on_part transfer_part picture_part chip_power_on_part chip_picture_part plain_part power_on_call check_power_on picture_call check_picture chip_power_on chip_picture_call check_chip_picture lit_in ones ones_in plain_call check_plain misfit_in chip_fits plain_heard chip_data after_column after_columns put_rows advanced acknowledges_data smallest transfer_call check_transfer check_state check_chips check_registers check_ram check_length check_bits check_sent over_in fault_in whole_of cut_data heard_by heard data_byte control_of command_in within in_range backplanes bank_row position at_position put_bits changed with_row stored_bits counted acknowledger shown picture_of
orders = tt
