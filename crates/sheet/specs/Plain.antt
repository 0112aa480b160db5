-- The plain account (paper 01, "Chips on the bus" and "Where a data byte goes"): each chip follows every byte by itself, over its own registers and columns.
-- It shares with the long account only what the paper says once: bits and rows, commands, control bytes, backplanes and banks.
use Rattle.std.specs.Prelude.{ℕ, zero, suc, ◌+◌, ◌*◌, ◌/◌, min, Bool, cond, ◌&&◌, ◌||◌, List, [], ◌∷◌, map, eqb, ltb, leb, length, take, drop, Err, None, Ok, Some}
use Rattle.sheet.specs.declared.Marks.{Marks}
use Rattle.sheet.specs.declared.Registers.{Registers}
use Rattle.sheet.specs.declared.Chip.{Chip}
use Rattle.sheet.specs.Results.{Acknowledger, Check, PlainAnswer}
use Rattle.sheet.specs.declared.Expect.{Expect}
use Rattle.sheet.specs.declared.Kind.{Kind}
use Rattle.sheet.specs.declared.Expect.TheVariants.{Control, One, All}
use Rattle.sheet.specs.declared.Refusal.TheVariants.{ManyChips, ChipField, GroupOrPhase, OutputLength}
use Rattle.sheet.specs.declared.ChipPowerOn.{ChipPowerOn}
use Rattle.sheet.specs.Parts.{Part, part_of}
use Rattle.sheet.specs.Registers.{power_on, lost_by, in_range, backplanes, bank_row}
use Rattle.sheet.specs.Commands.{obeyed}
use Rattle.sheet.specs.Protocol.{address_of, next, Sent, whole_of, address_byte, cut_data}
use Rattle.sheet.specs.Checks.{unless, or_else, passed, over_in, check_part, check_sent, fault_of_sent}
use Rattle.sheet.specs.Pictures.{picture_of, Seen, seen_by, seen}
use Rattle.sheet.specs.Places.{advanced}
use Rattle.sheet.specs.Data.{bit_of, with_row, changed, width_of}

-- ---- one chip

abbrev pub with_registers : Registers → Chip → Chip
with_registers r c = record { columns = c.columns; sa0 = c.sa0; subaddress = c.subaddress; registers = r }

-- the first n rows of a column from row b on, made the bits of byte x from bit k on; a byte has no bit past 7
unfoldable pub put_rows : ℕ → ℕ → ℕ → ℕ → ℕ → ℕ
put_rows zero b k x q = q
put_rows (suc n) b k x q = cond (ltb (k + n) 8) (with_row (b + n) (bit_of x (k + n)) (put_rows n b k x q)) (put_rows n b k x q)

-- column j of a byte: stored if A is the chip's subaddress at that moment; then P and A move
unfoldable pub after_column : Part → ℕ → ℕ → Chip → Chip
after_column K x j c =
    let r = c.registers in
    let m = backplanes r in
    record {
      columns = cond (eqb r.a c.subaddress) (changed (put_rows m (bank_row m r.i) (m * j) x) r.p c.columns) c.columns;
      sa0 = c.sa0;
      subaddress = c.subaddress;
      registers = advanced K r;
    }

-- the first n columns of a byte, one after the other
unfoldable pub after_columns : Part → ℕ → ℕ → Chip → Chip
after_columns K x zero c = c
after_columns K x (suc n) c = after_column K x n (after_columns K x n c)

-- a data byte: all its columns
unfoldable pub chip_data : Part → ℕ → Chip → Chip
chip_data K x c = after_columns K x (width_of (backplanes c.registers)) c

-- it is acknowledged if its last column belongs to the chip: A is the subaddress at that moment
unfoldable pub acknowledges_data : Part → ℕ → Chip → Bool
acknowledges_data K x c = eqb (after_columns K x (7 / backplanes c.registers) c).registers.a c.subaddress

-- a byte, by what it is. All chips that hear obey every command
abbrev pub chip_byte_of : Part → Kind → ℕ → Chip → Chip
chip_byte_of K Kind.Command x c = with_registers (obeyed c.registers (K.command x)) c
chip_byte_of K Kind.Data x c = chip_data K x c

abbrev pub chip_byte : Part → Expect → ℕ → Chip → Chip
chip_byte K Control x c = c
chip_byte K (One k) x c = chip_byte_of K k x c
chip_byte K (All k) x c = chip_byte_of K k x c

-- address, control and command bytes are acknowledged by every chip that hears
abbrev pub acknowledges_of : Part → Kind → ℕ → Chip → Bool
acknowledges_of K Kind.Command x c = Bool.true
acknowledges_of K Kind.Data x c = acknowledges_data K x c

abbrev pub acknowledges_byte : Part → Expect → ℕ → Chip → Bool
acknowledges_byte K Control x c = Bool.true
acknowledges_byte K (One k) x c = acknowledges_of K k x c
acknowledges_byte K (All k) x c = acknowledges_of K k x c

-- of any chip: one with a register out of range, to which no transfer is taken, stays as it is and acknowledges nothing
abbrev pub chip_stepped : Part → Expect → ℕ → Chip → Chip
chip_stepped K e x c = cond (in_range K c.registers) (chip_byte K e x c) c

abbrev pub chip_answers : Part → Expect → ℕ → Chip → Bool
chip_answers K e x c = in_range K c.registers && acknowledges_byte K e x c

-- ---- a list of chips

abbrev pub hears : ℕ → Chip → Bool
hears address c = eqb address (address_of c.sa0)

abbrev pub any : (Chip → Bool) → List Chip → Bool
any f [] = Bool.false
any f (c ∷ cs) = f c || any f cs

-- each chip that hears takes the byte, the others stay
abbrev pub takes : Part → ℕ → Expect → ℕ → Chip → Chip
takes K address e x c = cond (hears address c) (chip_byte K e x c) c

-- a subaddress and the smallest of the others
abbrev pub lower : ℕ → Acknowledger → Acknowledger
lower a None = Some a
lower a (Some b) = Some (min a b)

-- the smallest subaddress among the chips of which f holds (paper 02, request 4)
unfoldable pub smallest : (Chip → Bool) → List Chip → Acknowledger
smallest f [] = None
smallest f (c ∷ cs) = cond (f c) (lower c.subaddress (smallest f cs)) (smallest f cs)

-- who acknowledges a byte
abbrev pub acknowledged_by : Part → ℕ → Expect → ℕ → List Chip → Acknowledger
acknowledged_by K address e x cs = smallest (λ c. hears address c && acknowledges_byte K e x c) cs

-- a byte counts once however many chips acknowledge it
abbrev pub once : Acknowledger → ℕ
once (Some a) = 1
once None = 0

-- who acknowledged the last data byte, after one more byte: it changes where that is data
abbrev pub last_of : Kind → Acknowledger → Acknowledger → Acknowledger
last_of Kind.Command who last = last
last_of Kind.Data who last = who

abbrev pub last_after : Expect → Acknowledger → Acknowledger → Acknowledger
last_after Control who last = last
last_after (One k) who last = last_of k who last
last_after (All k) who last = last_of k who last

pub record Plain : Type 0 where
  pub acknowledged : ℕ
  pub last : Acknowledger
  pub chips : List Chip

-- the bytes of a transfer that are left
unfoldable pub plain_heard : Part → ℕ → Expect → List ℕ → Plain → Plain
plain_heard K address e [] s = s
plain_heard K address e (x ∷ xs) s =
    let who = acknowledged_by K address e x s.chips in
    plain_heard K address (next e x) xs
    (record { acknowledged = s.acknowledged + once who; last = last_after e who s.last; chips = map (takes K address e x) s.chips })

-- the byte that is cut, after them: each chip that hears it, selected or not
abbrev pub chip_lost : Bool → Chip → Chip
chip_lost is_data c = with_registers (lost_by is_data c.registers) c

abbrev pub chip_ended : ℕ → Bool → Chip → Chip
chip_ended address is_data c = cond (hears address c) (chip_lost is_data c) c

abbrev pub plain_ended : ℕ → Sent → Plain → Plain
plain_ended address t s = record { acknowledged = s.acknowledged; last = s.last; chips = map (chip_ended address (cut_data t)) s.chips }

-- all of a transfer after its address
abbrev pub plain_whole : Part → ℕ → Sent → Plain → Plain
plain_whole K address t s = plain_ended address t (plain_heard K address Control (drop 1 (whole_of t)) s)

-- a mark is unknown if it is at some chip that hears: all of them obey the same commands
abbrev pub unknown_in : ℕ → (Marks → ℕ) → List Chip → ℕ
unknown_in address mark cs = cond (any (λ c. hears address c && eqb (mark c.registers.unknown) 1) cs) 1 0

abbrev pub marks_in : ℕ → List Chip → Marks
marks_in address cs = record {
  high = unknown_in address (λ u. u.high) cs;
  low = unknown_in address (λ u. u.low) cs;
  device = unknown_in address (λ u. u.device) cs;
}

-- ---- which chips fit

-- the columns of the part: what stands behind them in the array is nobody's
abbrev pub own_columns : Part → Chip → List ℕ
own_columns K c = take K.columns c.columns

-- a chip with every field and column in range
unfoldable pub chip_fits : Part → Chip → Bool
chip_fits K c = ltb c.sa0 2 && (ltb c.subaddress K.limit && (in_range K c.registers && passed (over_in 0 (own_columns K c))))

-- ---- one chip's calls

-- power-on: 11, place 0, only for SA0, subaddress or a column. Taken or refused, the registers become the power-on ones and the rest stays
unfoldable pub chip_power_on : Part → Chip → ChipPowerOn
chip_power_on K c = record {
  check = unless (ltb c.sa0 2 && (ltb c.subaddress K.limit && passed (over_in 0 (own_columns K c)))) (ChipField 0);
  chip = with_registers power_on c;
}

-- picture into a buffer of the given size: 11, place 0, then 8, 9
unfoldable pub check_chip_picture : Part → Chip → ℕ → ℕ → Check
check_chip_picture K c phase size =
    or_else (unless (chip_fits K c) (ChipField 0)) (or_else (unless (ltb phase 2) GroupOrPhase) (unless (eqb size K.columns) OutputLength))

-- the chip is shown alone, over its own registers and columns
unfoldable pub chip_picture_call : Part → Chip → ℕ → List ℕ → Seen
chip_picture_call K c phase out = seen (check_chip_picture K c phase (length out)) (picture_of c.registers phase (own_columns K c)) out

-- ---- the call of the list

-- the first chip that does not fit, counted from i
unfoldable pub misfit_in : Part → ℕ → List Chip → Check
misfit_in K i [] = Ok tt
misfit_in K i (c ∷ cs) = cond (chip_fits K c) (misfit_in K (suc i) cs) (Err (ChipField i))

-- 10, 11, 1, 2, 19, then 7, 17 and 18. At most two groups of the limit
unfoldable pub check_plain : Part → List Chip → Sent → Check
check_plain K cs t =
    or_else (unless (leb (length cs) (2 * K.limit)) ManyChips)
    (or_else (misfit_in K 0 cs)
    (or_else (check_sent t)
    (cond (any (hears (address_byte t)) cs) (fault_of_sent K (marks_in (address_byte t) cs) t) (Ok tt))))

pub record PlainAfter : Type 0 where
  pub answer : PlainAnswer
  pub chips : List Chip

abbrev pub plain_said : Plain → PlainAfter
plain_said s = record { answer = Ok (record { bytes = s.acknowledged; last = s.last }); chips = s.chips }

-- so many bytes are acknowledged, and no data
abbrev pub begun_by : ℕ → List Chip → Plain
begun_by n cs = record { acknowledged = n; last = None; chips = cs }

-- byte 0 that no chip hears: nothing changes, 0. Else it is acknowledged, and the chips that hear follow the rest
abbrev pub plain_taken : Part → List Chip → Sent → Plain
plain_taken K cs t = cond (any (hears (address_byte t)) cs) (plain_whole K (address_byte t) t (begun_by 1 cs)) (begun_by 0 cs)

abbrev pub plain_answered : Check → List Chip → PlainAfter → PlainAfter
plain_answered (Ok _) cs s = s
plain_answered (Err r) cs s = record { answer = Err r; chips = cs }

unfoldable pub plain_call : Part → List Chip → Sent → PlainAfter
plain_call K cs t = plain_answered (check_plain K cs t) cs (plain_said (plain_taken K cs t))

-- ---- the calls by a part's number: 16 first (paper 02, request 5)

unfoldable pub chip_power_on_part : ℕ → Chip → ChipPowerOn
chip_power_on_part part c = record { check = or_else (check_part part) (chip_power_on (part_of part) c).check; chip = with_registers power_on c }

unfoldable pub chip_picture_part : ℕ → Chip → ℕ → List ℕ → Seen
chip_picture_part part c phase out = seen_by (check_part part) (chip_picture_call (part_of part) c phase out) out

unfoldable pub plain_part : ℕ → List Chip → Sent → PlainAfter
plain_part part cs t = plain_answered (check_part part) cs (plain_call (part_of part) cs t)
