-- The long account (paper 01): one register set a group and one long RAM, group 0's columns and then group 1's.
use Rattle.std.specs.Prelude.{ℕ, zero, ◌+◌, ◌*◌, cond, List, [], ◌∷◌, ◌++◌, eqb, length, take, drop, Err, None, Ok, Some}
use Rattle.sheet.specs.declared.Registers.{Registers}
use Rattle.sheet.specs.declared.Both.{Both}
use Rattle.sheet.specs.declared.Chips.{Chips}
use Rattle.sheet.specs.declared.Counts.{Counts}
use Rattle.sheet.specs.Results.{Acknowledger, Addressed, Check, Answer}
use Rattle.sheet.specs.declared.Expect.{Expect}
use Rattle.sheet.specs.declared.Kind.{Kind}
use Rattle.sheet.specs.declared.Expect.TheVariants.{Control, One, All}
use Rattle.sheet.specs.declared.Transferred.{Transferred}
use Rattle.sheet.specs.declared.PowerOn.{PowerOn}
use Rattle.sheet.specs.Parts.{Part, part_of}
use Rattle.sheet.specs.Registers.{backplanes, bank_row, power_on, lost_by, registers_of}
use Rattle.sheet.specs.Commands.{obeyed}
use Rattle.sheet.specs.Protocol.{heard_by, next, chips_in, Sent, whole_of, address_byte, cut_data}
use Rattle.sheet.specs.Checks.{or_else, check_part, check_power_on, check_transfer, check_picture}
use Rattle.sheet.specs.Pictures.{picture_of, Seen, seen_by, seen}
use Rattle.sheet.specs.Places.{position, at_position}
use Rattle.sheet.specs.Data.{put_bits, width_of, counted, acknowledger}

-- ---- one group hears the bytes after the address

-- a group: its registers, its part of the RAM, what it has counted, and who acknowledged its last data byte
pub record Group : Type 0 where
  pub registers : Registers
  pub ram : List ℕ
  pub counts : Counts
  pub last : Acknowledger

abbrev pub one_acknowledged : Counts → Counts
one_acknowledged t = record { acknowledged = t.acknowledged + 1; stored = t.stored; discarded = t.discarded }

abbrev pub no_counts : Counts
no_counts = record { acknowledged = 0; stored = 0; discarded = 0 }

-- after the address, which is acknowledged and no data
abbrev pub begun : Registers → List ℕ → Group
begun r ram = record { registers = r; ram = ram; counts = one_acknowledged no_counts; last = None }

-- a control byte, a command, a data byte
abbrev pub control : Group → Group
control g = record { registers = g.registers; ram = g.ram; counts = one_acknowledged g.counts; last = g.last }

abbrev pub command : Part → ℕ → Group → Group
command K x g = record { registers = obeyed g.registers (K.command x); ram = g.ram; counts = one_acknowledged g.counts; last = g.last }

unfoldable pub data_byte : Part → ℕ → Group → Group
data_byte K x g =
    let r = g.registers in
    let m = backplanes r in
    let v = position K r in
    record {
      registers = at_position K r (v + width_of m);
      ram = put_bits 8 m (bank_row m r.i) v x g.ram;
      counts = counted m v (length g.ram) g.counts;
      last = acknowledger K m v (length g.ram);
    }

-- a byte, by what it is
abbrev pub byte_of : Part → Kind → ℕ → Group → Group
byte_of K Kind.Command x g = command K x g
byte_of K Kind.Data x g = data_byte K x g

abbrev pub byte : Part → Expect → ℕ → Group → Group
byte K Control x g = control g
byte K (One k) x g = byte_of K k x g
byte K (All k) x g = byte_of K k x g

-- the whole bytes of a transfer that are left. It may end anywhere
unfoldable pub heard : Part → Expect → List ℕ → Group → Group
heard K e [] g = g
heard K e (x ∷ xs) g = heard K (next e x) xs (byte K e x g)

-- the byte that is cut, after them: it stores nothing and is not counted
abbrev pub ended : Sent → Group → Group
ended t g = record { registers = lost_by (cut_data t) g.registers; ram = g.ram; counts = g.counts; last = g.last }

-- all of a transfer after its address
abbrev pub heard_whole : Part → Sent → Group → Group
heard_whole K t g = ended t (heard K Control (drop 1 (whole_of t)) g)

-- ---- two groups in one RAM

abbrev pub replaced : ℕ → Registers → Both → Both
replaced g s r = cond (eqb g 0) (record { zero = s; one = r.one }) (record { zero = r.zero; one = s })

-- where group g's columns begin, and where they end
abbrev pub start_of : Part → Chips → ℕ → ℕ
start_of K n g = cond (eqb g 0) 0 (K.columns * n.zero)

abbrev pub end_of : Part → Chips → ℕ → ℕ
end_of K n g = start_of K n g + K.columns * chips_in g n

abbrev pub columns_of : Part → Chips → ℕ → List ℕ → List ℕ
columns_of K n g ram = take (K.columns * chips_in g n) (drop (start_of K n g) ram)

-- the RAM with group g's columns made others
abbrev pub with_columns : Part → Chips → ℕ → List ℕ → List ℕ → List ℕ
with_columns K n g columns ram = take (start_of K n g) ram ++ (columns ++ drop (end_of K n g) ram)

-- ---- the calls. Each gives its result and what a lent buffer holds after it

abbrev pub both_on : Both
both_on = record { zero = power_on; one = power_on }

-- power-on: RAM keeps what it held
unfoldable pub power_on_call : Part → Chips → List ℕ → PowerOn
power_on_call K n ram = record { check = check_power_on K n ram; registers = both_on }

pub record After : Type 0 where
  pub result : Transferred
  pub ram : List ℕ

-- a group hears the bytes after the address, which is acknowledged; the rest of the RAM and the other registers stay
abbrev pub heard_in : Part → Chips → ℕ → Both → List ℕ → Group → After
heard_in K n g r ram h = record {
  result = record { answer = Ok (record { counts = h.counts; last = h.last }); registers = replaced g h.registers r };
  ram = with_columns K n g h.ram ram;
}

abbrev pub taken : Part → Chips → Both → List ℕ → Sent → Addressed → After
taken K n r ram t (Some g) = heard_in K n g r ram (heard_whole K t (begun (registers_of g r) (columns_of K n g ram)))
taken K n r ram t None = record { result = record { answer = Ok (record { counts = no_counts; last = None }); registers = r }; ram = ram }

abbrev pub answered : Check → Both → List ℕ → After → After
answered (Ok _) r ram a = a
answered (Err x) r ram a = record { result = record { answer = Err x; registers = r }; ram = ram }

unfoldable pub transfer_call : Part → Chips → Both → List ℕ → Sent → After
transfer_call K n r ram t = answered (check_transfer K n r ram t) r ram (taken K n r ram t (heard_by n (address_byte t)))

-- what the calls go on with, and what it is after a transfer, taken or refused
pub record State : Type 0 where
  pub registers : Both
  pub ram : List ℕ

abbrev pub state_of : Both → List ℕ → State
state_of r ram = record { registers = r; ram = ram }

abbrev pub state_after : Part → Chips → State → Sent → State
state_after K n s t =
    let a = transfer_call K n s.registers s.ram t in
    state_of a.result.registers a.ram

-- after a sequence of transfers; a refused one changes nothing
unfoldable pub state_after_all : Part → Chips → State → List Sent → State
state_after_all K n s [] = s
state_after_all K n s (t ∷ ts) = state_after_all K n (state_after K n s t) ts

unfoldable pub picture_call : Part → Chips → Both → List ℕ → ℕ → ℕ → List ℕ → Seen
picture_call K n r ram group phase out =
    seen (check_picture K n r ram group phase (length out)) (picture_of (registers_of group r) phase (columns_of K n group ram)) out

-- ---- the calls by a part's number: 16 first (paper 02, request 5)

unfoldable pub power_on_part : ℕ → Chips → List ℕ → PowerOn
power_on_part part n ram = record { check = or_else (check_part part) (power_on_call (part_of part) n ram).check; registers = both_on }

unfoldable pub transfer_part : ℕ → Chips → Both → List ℕ → Sent → After
transfer_part part n r ram t = answered (check_part part) r ram (transfer_call (part_of part) n r ram t)

unfoldable pub picture_part : ℕ → Chips → Both → List ℕ → ℕ → ℕ → List ℕ → Seen
picture_part part n r ram group phase out = seen_by (check_part part) (picture_call (part_of part) n r ram group phase out) out
