-- Which calls are refused, and in which order (paper 01, "Refusal numbers"). 16 comes before them, in the calls by a part's number.
use Rattle.std.specs.Prelude.{ℕ, suc, ◌+◌, ◌*◌, ◌%◌, Bool, cond, ◌&&◌, List, [], ◌∷◌, eqb, ltb, leb, length, drop, Err, None, Ok, Some}
use Rattle.sheet.specs.declared.Marks.{Marks}
use Rattle.sheet.specs.declared.Both.{Both}
use Rattle.sheet.specs.declared.Chips.{Chips}
use Rattle.sheet.specs.Results.{Addressed, Check}
use Rattle.sheet.specs.declared.Kind.{Kind}
use Rattle.sheet.specs.declared.Expect.{Expect}
use Rattle.sheet.specs.declared.Expect.TheVariants.{Control, One, All}
use Rattle.sheet.specs.declared.Refusal.{Refusal}
use Rattle.sheet.specs.declared.Refusal.TheVariants.{EmptyTransfer, LongTransfer, ChipCount, RamLength, RamByte, Register, UndefinedCommand, GroupOrPhase, OutputLength, UnknownPart, StrayBits, UnknownPlace, BitCount}
use Rattle.sheet.specs.Parts.{Part, within}
use Rattle.sheet.specs.Registers.{in_range, known, registers_of}
use Rattle.sheet.specs.Commands.{defined, restored}
use Rattle.sheet.specs.Protocol.{heard_by, chips_in, next, Sent, cut, whole_of, address_byte, is_data}

-- ---- one check

abbrev pub unless : Bool → Refusal → Check
unless b r = cond b (Ok tt) (Err r)

-- a refusal that comes first, or else the next check
abbrev pub or_else : Check → Check → Check
or_else (Ok _) next = next
or_else (Err r) next = Err r

abbrev pub passed : Check → Bool
passed (Ok _) = Bool.true
passed (Err r) = Bool.false

-- 16: the parts are 0 and 1 (paper 02, request 5)
unfoldable pub check_part : ℕ → Check
check_part part = unless (leb part 1) UnknownPart

-- 3
unfoldable pub check_chips : Part → Chips → Check
check_chips K n = unless (leb n.zero K.limit && leb n.one K.limit) ChipCount

-- 6, of either group, also of one with no chip
unfoldable pub check_registers : Part → Both → Check
check_registers K r = unless (in_range K r.zero && in_range K r.one) Register

-- the first column over 15, counted from i
unfoldable pub over_in : ℕ → List ℕ → Check
over_in i [] = Ok tt
over_in i (q ∷ qs) = cond (ltb 15 q) (Err (RamByte i)) (over_in (suc i) qs)

-- 4, 5: so many columns, each at most 15
abbrev pub check_columns : ℕ → List ℕ → Check
check_columns size columns = or_else (unless (eqb (length columns) size) RamLength) (over_in 0 columns)

-- of the RAM
unfoldable pub check_ram : Part → Chips → List ℕ → Check
check_ram K n ram = check_columns (K.columns * (n.zero + n.one)) ram

-- 1, 2
unfoldable pub check_length : ℕ → Check
check_length size = or_else (unless (ltb 0 size) EmptyTransfer) (unless (leb size 4096) LongTransfer)

-- 19: the last byte's bits are 1 to 8 (paper 02, request 8)
unfoldable pub check_bits : ℕ → Check
check_bits bits = unless (within 1 8 bits) BitCount

-- 1, 2, 19
unfoldable pub check_sent : Sent → Check
check_sent t = or_else (check_length (length t.bytes)) (check_bits t.bits)

-- the fault of byte x at place i, by what it is: a command that is none, or data while a mark is unknown
abbrev pub fault_of : Part → Marks → Kind → ℕ → ℕ → Check
fault_of K u Kind.Command i x = unless (defined (K.command x)) (UndefinedCommand i)
fault_of K u Kind.Data i x = unless (known u) (UnknownPlace i)

-- a control byte's bits 5 to 0 are zero (paper 02, request 7)
abbrev pub fault : Part → Marks → Expect → ℕ → ℕ → Check
fault K u Control i x = unless (eqb (x % 64) 0) (StrayBits i)
fault K u (One k) i x = fault_of K u k i x
fault K u (All k) i x = fault_of K u k i x

-- the marks after a byte
abbrev pub marks_of : Part → Marks → Kind → ℕ → Marks
marks_of K u Kind.Command x = restored (K.command x) u
marks_of K u Kind.Data x = u

abbrev pub marks_after : Part → Marks → Expect → ℕ → Marks
marks_after K u Control x = u
marks_after K u (One k) x = marks_of K u k x
marks_after K u (All k) x = marks_of K u k x

-- the fault of a byte that is cut, if there is one: only data can be at fault
abbrev pub last_fault : Bool → Marks → Expect → ℕ → Check
last_fault cut u e i = cond (cut && is_data e) (unless (known u) (UnknownPlace i)) (Ok tt)

-- the first fault of the whole bytes from place i on, and of the one that is cut
unfoldable pub fault_in : Part → Bool → Marks → Expect → ℕ → List ℕ → Check
fault_in K cut u e i [] = last_fault cut u e i
fault_in K cut u e i (x ∷ xs) = or_else (fault K u e i x) (fault_in K cut (marks_after K u e x) (next e x) (suc i) xs)

-- the first fault of a transfer to chips with these marks
abbrev pub fault_of_sent : Part → Marks → Sent → Check
fault_of_sent K u t = fault_in K (cut t) u Control 1 (drop 1 (whole_of t))

-- 7, 17 and 18, whichever byte comes first: only a transfer that a chip hears is looked at
abbrev pub check_bytes : Part → Both → Addressed → Sent → Check
check_bytes K r (Some g) t = fault_of_sent K (registers_of g r).unknown t
check_bytes K r None t = Ok tt

-- ---- the calls of the long account

-- 3, 6, 4, 5
unfoldable pub check_state : Part → Chips → Both → List ℕ → Check
check_state K n r ram = or_else (check_chips K n) (or_else (check_registers K r) (check_ram K n ram))

-- power-on: 3, 4, 5
unfoldable pub check_power_on : Part → Chips → List ℕ → Check
check_power_on K n ram = or_else (check_chips K n) (check_ram K n ram)

-- transfer: 3, 6, 4, 5, 1, 2, 19, then 7, 17 and 18
unfoldable pub check_transfer : Part → Chips → Both → List ℕ → Sent → Check
check_transfer K n r ram t =
    or_else (check_state K n r ram) (or_else (check_sent t) (check_bytes K r (heard_by n (address_byte t)) t))

-- picture into a buffer of the given size: 3, 6, 4, 5, 8, 9
unfoldable pub check_picture : Part → Chips → Both → List ℕ → ℕ → ℕ → ℕ → Check
check_picture K n r ram group phase size =
    or_else (check_state K n r ram)
    (or_else (unless (ltb group 2 && ltb phase 2) GroupOrPhase) (unless (eqb size (K.columns * chips_in group n)) OutputLength))
