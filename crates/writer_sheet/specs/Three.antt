-- Every element of a three-backplane glass (paper 02, request 12; sheet 002, 7.10.3 and table 9): one transfer that sets rows 0 to 2 of every column of a group.
-- A data byte begins at each even column, so each overwrites the spare bits of the one before. That it puts the rows there is stated below and proved in `laws`.
use Rattle.std.specs.Prelude.{ℕ, zero, suc, ◌+◌, ◌-◌, ◌*◌, ◌/◌, ◌%◌, ◌≤◌, ◌<◌, ◌≡◌, ◌≢◌, cond, List, [], ◌∷◌, ◌++◌, eqb, length, get_or, None, Ok}
use Rattle.sheet.specs.declared.Both.{Both}
use Rattle.sheet.specs.declared.Chips.{Chips}
use Rattle.sheet.specs.Results.{Acknowledger, Answer}
use Rattle.sheet.specs.Parts.{Part, part_of}
use Rattle.sheet.specs.Registers.{registers_of}
use Rattle.sheet.specs.Protocol.{address_of, chips_in, whole}
use Rattle.sheet.specs.Checks.{check_state}
use Rattle.sheet.specs.Places.{at_position}
use Rattle.sheet.specs.Data.{row_of}
use Rattle.sheet.specs.Long.{After, replaced, columns_of, transfer_call}
use Rattle.sheet.specs.Written.{WrittenAfter, written_part}
use Rattle.writer_sheet.specs.Writer.{each_after80, mode_set_of, set_to, bits_from, check_wanted}
use Rattle.writer_sheet.specs.Puts.{Settable}

-- rows 0 to 2 of an even column and of the next one, then the two spare bits, which the next byte overwrites: 0
abbrev pub pair_of : List ℕ → ℕ → ℕ
pair_of wanted c = 4 * bits_from 6 3 0 c wanted

-- a data byte at column c of the group: its chip's device-select and its pointer, each after 80, then C0 and the byte
abbrev pub byte_at : Part → ℕ → ℕ → List ℕ
byte_at K c x = each_after80 ((0xE0 + c / K.columns) ∷ K.pointer (c % K.columns)) ++ (0xC0 ∷ x ∷ [])

-- n data bytes, at column c and each second one after it: chips and columns rise
unfoldable pub pairs_from : Part → ℕ → ℕ → List ℕ → List ℕ
pairs_from K zero c wanted = []
pairs_from K (suc n) c wanted = byte_at K c (pair_of wanted c) ++ pairs_from K n (c + 2) wanted

-- the transfer: the address, mode-set 1:3 with E and B as the registers have them, then the bytes. A group with no chip gets none
unfoldable pub three_transfer : Part → Chips → Both → ℕ → List ℕ → List ℕ
three_transfer K n r g wanted =
    cond (eqb (chips_in g n) 0) [] (address_of g ∷ each_after80 (mode_set_of (registers_of g r) 3 ∷ []) ++ pairs_from K (length wanted / 2) 0 wanted)

-- the call, by a part's number: refusals as in request 2, of which a mode of 3 and a bank of 0 are none
unfoldable pub write_three_part : ℕ → Chips → Both → ℕ → List ℕ → List ℕ → WrittenAfter
write_three_part part n r g wanted out =
    let K = part_of part in
    written_part part (check_wanted K n r g 3 0 wanted) (three_transfer K n r g wanted) out

-- ---- the law

-- the transfer for wanted rows of group g, run from registers r and RAM that pass the checks
pub record PutsThree (K : Part) (n : Chips) (r : Both) (ram : List ℕ) (g : ℕ) (wanted transfer : List ℕ) (after : After) : Type 0 where
  -- it is taken: all bytes are acknowledged but the last data byte, which reaches past the last chip and loses its two spare bits
  pub answer : after.result.answer ≡ Ok (record { counts = record { acknowledged = length transfer - 1; stored = 4 * length wanted - 2; discarded = 2 }; last = None })
  -- M is 3, P and A are after the last byte, marks are known; E, B, I, O, AB and BF and the other group's registers stay
  pub registers : after.result.registers ≡ replaced g (at_position K (set_to 3 (registers_of g r).i (registers_of g r)) (length wanted + 1)) r
  -- rows 0 to 2 of every column are the wanted ones, and row 3 stays
  pub wanted_there : (c q : ℕ) → c < length wanted → q < 3 → row_of (get_or (columns_of K n g after.ram) c 0) q ≡ row_of (get_or wanted c 0) q
  pub others_stay : (c q : ℕ) → 3 ≤ q → row_of (get_or (columns_of K n g after.ram) c 0) q ≡ row_of (get_or (columns_of K n g ram) c 0) q
  -- and so does all of the other group
  pub other-group : (h : ℕ) → h < 2 → g ≢ h → columns_of K n h after.ram ≡ columns_of K n h ram
  pub size : length after.ram ≡ length ram

-- of any part with an even number of columns
pub record WritesThree (K : Part) : Type 1 where
  -- 3 + 640 × n bytes with the PCF8532's two pointer commands, 3 + 240 × n with the PCA85133's one
  pub bytes : (n : Chips) (r : Both) (g : ℕ) (wanted : List ℕ) (pointers : ℕ) → 0 < chips_in g n → ((p : ℕ) → p < K.columns → length (K.pointer p) ≡ pointers)
      → length (three_transfer K n r g wanted) ≡ 3 + (4 + 2 * pointers) * (length wanted / 2)
  pub puts : (n : Chips) (r : Both) (ram : List ℕ) (g : ℕ) (wanted : List ℕ) → check_state K n r ram ≡ Ok tt → check_wanted K n r g 3 0 wanted ≡ Ok tt → 0 < chips_in g n
      → length (three_transfer K n r g wanted) ≤ 4096 → PutsThree K n r ram g wanted (three_transfer K n r g wanted) (transfer_call K n r ram (whole (three_transfer K n r g wanted)))

abbrev pub ClaimThree : Type 1
ClaimThree = (K : Part) → Settable K → K.columns % 2 ≡ 0 → WritesThree K
