-- Request 2's law, stated: the transfer that is written for wanted rows puts them there "from any valid registers. Running it under the base rules must yield exactly those bits and
-- change no other; E, B, O and blinking stay". Over any part whose commands are those of both sheets (`Settable`); proved in `laws`.
use Rattle.std.specs.Prelude.{ℕ, ◌+◌, ◌-◌, ◌*◌, ◌/◌, ◌%◌, ◌≤◌, ◌<◌, ◌≡◌, ◌≢◌, Bool, true, false, cond, ◌&&◌, List, eqb, ltb, leb, length, get_or, None, Ok, Some}
use Rattle.sheet.specs.declared.Registers.{Registers}
use Rattle.sheet.specs.declared.Both.{Both}
use Rattle.sheet.specs.declared.Chips.{Chips}
use Rattle.sheet.specs.declared.Counts.{Counts}
use Rattle.sheet.specs.Results.{Acknowledger, Answer}
use Rattle.sheet.specs.declared.Command.TheVariants.{ModeSet, BankSelect, DeviceSelect}
use Rattle.sheet.specs.Parts.{Part}
use Rattle.sheet.specs.Registers.{at_place, with_marks, backplanes, bank_row, registers_of}
use Rattle.sheet.specs.Commands.{obeyed_all, all_defined}
use Rattle.sheet.specs.Protocol.{chips_in, whole}
use Rattle.sheet.specs.Checks.{check_state}
use Rattle.sheet.specs.Places.{at_position}
use Rattle.sheet.specs.Data.{row_of, width_of}
use Rattle.sheet.specs.Long.{After, replaced, columns_of, transfer_call}
use Rattle.writer_sheet.specs.Writer.{set_to, bytes_for, rows_transfer, check_wanted}

-- ---- a part's commands: mode-set, bank-select and device-select as both sheets have them, and a pointer that is restored at each column

pub record Settable (K : Part) : Type 0 where
  pub mode-set : (e b m : ℕ) → e < 2 → b < 2 → m < 4 → K.command (0xC0 + 8 * e + 4 * b + m) ≡ ModeSet (record { e = e; b = b; m = m })
  pub bank-select : (i o : ℕ) → i < 2 → o < 2 → K.command (0xF8 + 2 * i + o) ≡ BankSelect i o
  pub device-select : (n : ℕ) → n < K.limit → K.command (0xE0 + n) ≡ DeviceSelect n
  pub pointer : (p : ℕ) → p < K.columns → (r : Registers) → obeyed_all K (K.pointer p) r ≡ with_marks (at_place r p r.a) (record { high = 0; low = 0; device = r.unknown.device })
  pub defined : (p : ℕ) → p < K.columns → all_defined K (K.pointer p) ≡ true
  pub columns : 0 < K.columns

-- ---- what a plain run from column 0 reaches: row q of column c, if q is one of the m rows from b on and its bit is one of the byte's eight

unfoldable pub reaches : ℕ → ℕ → ℕ → ℕ → Bool
reaches m b c q = leb b q && (ltb q (b + m) && ltb (m * (c % width_of m) + (q - b)) 8)

-- ---- what the transfer's run gives, with so many columns

-- all bytes are acknowledged but a last one that reaches past the last column; of that one the columns there are stored
abbrev pub put_counts : ℕ → ℕ → ℕ → Counts
put_counts m size sent =
    let stored = 8 * (size / width_of m) + m * (size % width_of m) in
    record { acknowledged = sent - cond (eqb (size % width_of m) 0) 0 1; stored = stored; discarded = 8 * bytes_for m size - stored }

-- the last byte is acknowledged by the last chip, if it ends there
abbrev pub put_last : ℕ → ℕ → ℕ → Acknowledger
put_last m size chips = cond (eqb (size % width_of m) 0) (Some (chips - 1)) None

-- ---- the transfer for wanted rows of group g, run from registers r and RAM that pass the checks

pub record Puts (K : Part) (n : Chips) (r : Both) (ram : List ℕ) (g mode bank : ℕ) (wanted : List ℕ) (m b : ℕ) (transfer : List ℕ) (after : After) : Type 0 where
  -- it is taken
  pub answer : after.result.answer ≡ Ok (record { counts = put_counts m (length wanted) (length transfer); last = put_last m (length wanted) (chips_in g n) })
  -- the group's M and I are the wanted ones, P and A are after the data, its marks are known; E, B, O, AB and BF and the other group's registers stay
  pub registers : after.result.registers ≡ replaced g (at_position K (set_to mode bank (registers_of g r)) (width_of m * bytes_for m (length wanted))) r
  -- each row that the run reaches is the wanted one
  pub wanted_there : (c q : ℕ) → c < length wanted → reaches m b c q ≡ true → row_of (get_or (columns_of K n g after.ram) c 0) q ≡ row_of (get_or wanted c 0) q
  -- each other row stays
  pub others_stay : (c q : ℕ) → reaches m b c q ≡ false → row_of (get_or (columns_of K n g after.ram) c 0) q ≡ row_of (get_or (columns_of K n g ram) c 0) q
  -- and so does all of the other group
  pub other-group : (h : ℕ) → h < 2 → g ≢ h → columns_of K n h after.ram ≡ columns_of K n h ram
  pub size : length after.ram ≡ length ram

-- two wanted pictures with the same rows where the run reaches: what they hold elsewhere is ignored
abbrev pub AlikeWhere : ℕ → ℕ → List ℕ → List ℕ → Type 0
AlikeWhere m b one other = (c q : ℕ) → reaches m b c q ≡ true → row_of (get_or one c 0) q ≡ row_of (get_or other c 0) q

-- ---- the claim: any registers and RAM that pass 3, 6, 4 and 5, any wanted rows that pass 3, 6, 8, 4 and 5, and a group with a chip

pub record WritesRows (K : Part) : Type 1 where
  -- 12 bytes with the PCF8532's two pointer commands and 10 with the PCA85133's one, and the data
  pub bytes : (n : Chips) (r : Both) (g mode bank : ℕ) (wanted : List ℕ) → 0 < chips_in g n
      → length (rows_transfer K n r g mode bank wanted) ≡ 8 + 2 * length (K.pointer 0) + bytes_for (backplanes (set_to mode bank (registers_of g r))) (length wanted)
  pub puts : (n : Chips) (r : Both) (ram : List ℕ) (g mode bank : ℕ) (wanted : List ℕ) → check_state K n r ram ≡ Ok tt → check_wanted K n r g mode bank wanted ≡ Ok tt → 0 < chips_in g n
      → let s = set_to mode bank (registers_of g r) in
      let transfer = rows_transfer K n r g mode bank wanted in
      length transfer ≤ 4096 → Puts K n r ram g mode bank wanted (backplanes s) (bank_row (backplanes s) bank) transfer (transfer_call K n r ram (whole transfer))
  pub ignored : (n : Chips) (r : Both) (g mode bank : ℕ) (one other : List ℕ) → let s = set_to mode bank (registers_of g r) in
      length one ≡ length other → AlikeWhere (backplanes s) (bank_row (backplanes s) bank) one other → rows_transfer K n r g mode bank one ≡ rows_transfer K n r g mode bank other

abbrev pub ClaimRows : Type 1
ClaimRows = (K : Part) → Settable K → WritesRows K
