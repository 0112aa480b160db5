-- One group over its registers as twelve bytes: what it is asked to have passed, and what a transfer leaves and says. Assumes nothing.
use Rattle.std.specs.Prelude.{ℕ, ◌+◌, ◌-◌, ◌*◌, ◌≤◌, ◌<◌, ◌≡◌, Bool, true, ◌&&◌, List, eqb, ltb, leb, length, get_or, drop, Err, Ok}
use Rattle.sheet.specs.declared.Registers.{Registers}
use Rattle.sheet.specs.declared.Both.{Both}
use Rattle.sheet.specs.declared.Chips.{Chips}
use Rattle.sheet.specs.Results.{Answer, Check}
use Rattle.sheet.specs.Refusals.{numbers}
use Rattle.sheet.specs.Parts.{Part}
use Rattle.sheet.specs.Registers.{backplanes, in_range}
use Rattle.sheet.specs.Places.{position}
use Rattle.sheet.specs.Data.{width_of}
use Rattle.sheet.specs.Protocol.{chips_in, Sent, whole, whole_of}
use Rattle.sheet.specs.Checks.{check_state, fault_of_sent}
use Rattle.sheet.specs.Long.{Group, begun, heard_whole, columns_of, with_columns}
use Rattle.opening.specs.Opened.{opened}
use Rattle.long.specs.Heard.{Ready}
use Rattle.wire.specs.Bytes.{registers_in, bytes_of}

-- ---- what a transfer leaves, and what is said of it

pub record SetAfter : Type 0 where
  pub answer : Answer
  pub set : List ℕ
  pub ram : List ℕ

abbrev pub heard_set : Group → SetAfter
heard_set h = record { answer = Ok (record { counts = h.counts; last = h.last }); set = bytes_of h.registers; ram = h.ram }

-- a refused one leaves all as it was
abbrev pub answered_set : Check → List ℕ → List ℕ → SetAfter → SetAfter
answered_set (Ok _) set ram a = a
answered_set (Err x) set ram a = record { answer = Err x; set = set; ram = ram }

-- the group after the whole of a transfer, with the RAM of both groups
abbrev pub heard_group : Part → Chips → ℕ → Registers → List ℕ → Sent → Group
heard_group K n g r ram t =
    let h = heard_whole K t (begun r (columns_of K n g ram)) in
    record { registers = h.registers; ram = with_columns K n g h.ram ram; counts = h.counts; last = h.last }

-- 7, 17 and 18 are left to check
abbrev pub set_to : Part → Chips → ℕ → List ℕ → List ℕ → Sent → SetAfter
set_to K n g set ram t =
    let r = registers_in set in answered_set (fault_of_sent K r.unknown t) set ram (heard_set (heard_group K n g r ram t))

-- and in numbers
pub record SetCalled : Type 0 where
  pub number : ℕ
  pub set : List ℕ
  pub buffer : List ℕ
  pub answer : List ℕ

abbrev pub numbered_set : Part → SetAfter → SetCalled
numbered_set K a = let k = numbers K a.answer in record { number = get_or k 0 0; set = a.set; buffer = a.ram; answer = k }

-- ---- what is asked

-- of a group that hears a transfer: byte 0 came, and an answer has six numbers
pub record Asked (K : Part) (n : Chips) (set ram : List ℕ) (t : Sent) (answer : List ℕ) : Type 0 where
  pub both : Both
  pub state : check_state K n both ram ≡ Ok tt
  pub twelve : length set ≡ 12
  pub range : in_range K (registers_in set) ≡ true
  pub short : length t.bytes < 4097
  pub some : 0 < length (whole_of t)
  pub six : length answer ≡ 6

-- after the commands that open it
pub record Left (K : Part) (n : Chips) (before set ram : List ℕ) (t : Sent) (answer : List ℕ) (from : ℕ) : Type 0 where
  pub asked : Asked K n before ram t answer
  pub twelve : length set ≡ 12
  pub opening : record { fault = (Ok tt); registers = registers_in set; at = from } ≡ opened K (registers_in before) 1 (drop 1 (whole_of t))
  pub more : from < length (whole_of t)

-- once all its checks have passed
pub record Rest (K : Part) (n : Chips) (set ram : List ℕ) (t : Sent) (from : ℕ) (answer : List ℕ) : Type 0 where
  pub ready : Ready K n (registers_in set) ram t from
  pub twelve : length set ≡ 12
  pub six : length answer ≡ 6

-- ---- a run of data that is all that is left, whole, and all of whose columns are there

-- the columns that it ends before
abbrev pub run_end : Part → Registers → List ℕ → ℕ → ℕ
run_end K r bytes from = position K r + width_of (backplanes r) * (length bytes - (from + 1))

abbrev pub is_fitting : Part → ℕ → Registers → List ℕ → ℕ → ℕ → Bool
is_fitting K size r bytes bits from =
    eqb bits 8 && (ltb (from + 1) (length bytes) && eqb (get_or bytes from 0) 64) && leb (run_end K r bytes from) size

pub record Fitting (K : Part) (n : Chips) (g : ℕ) (set ram bytes : List ℕ) (from : ℕ) (answer : List ℕ) : Type 0 where
  pub rest : Rest K n set ram (whole bytes) from answer
  pub more : from + 1 < length bytes
  pub run : get_or bytes from 0 ≡ 64
  pub fit : run_end K (registers_in set) bytes from ≤ K.columns * chips_in g n
