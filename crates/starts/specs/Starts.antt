-- How a transfer to a list of chips of a part begins and what is answered, from what the list was found to hold: the count of the chips, and the places of the first that does not fit,
-- the first that hears, and the first that hears and has each mark unknown (each the count if there is none).
use Rattle.std.specs.Prelude.{ℕ, ◌+◌, ◌*◌, Bool, cond, ◌&&◌, ltb, leb, length, get_or, Err, None, Ok}
use Rattle.sheet.specs.declared.Marks.{Marks}
use Rattle.sheet.specs.declared.Expect.TheVariants.{Control}
use Rattle.sheet.specs.declared.Refusal.TheVariants.{ManyChips, ChipField}
use Rattle.sheet.specs.Results.{Check, PlainAnswer}
use Rattle.sheet.specs.Parts.{part_of}
use Rattle.sheet.specs.Protocol.{Sent, cut, address_byte}
use Rattle.sheet.specs.Checks.{unless, or_else, check_part, check_sent, passed, fault_of_sent}
use Rattle.turns.specs.declared.Tally.{Tally}
use Rattle.turns.specs.declared.Turn.{Turn}
use Rattle.starts.specs.declared.Found.{Found}
use Rattle.starts.specs.declared.Start.{Start}

-- a mark is unknown if some chip that hears has it so
abbrev pub mark_at : ℕ → ℕ → ℕ
mark_at place count = cond (ltb place count) 1 0

abbrev pub marks_found : Found → Marks
marks_found f = record { high = mark_at f.high f.count; low = mark_at f.low f.count; device = mark_at f.device f.count }

-- 16, 10
abbrev pub check_bench : ℕ → ℕ → Check
check_bench part count = or_else (check_part part) (unless (leb count (2 * (part_of part).limit)) ManyChips)

-- 11, 1, 2, 19, then 7, 17 and 18
abbrev pub check_list : ℕ → Sent → Found → Check
check_list part t f =
    or_else (unless (leb f.count f.misfit) (ChipField f.misfit))
    (or_else (check_sent t)
    (cond (ltb f.hearer f.count) (fault_of_sent (part_of part) (marks_found f) t) (Ok tt)))

abbrev pub check_of : ℕ → Sent → Found → Check
check_of part t f = or_else (check_bench part f.count) (check_list part t f)

-- the turn at a place after the address
abbrev pub turn_at : ℕ → Sent → ℕ → ℕ → Turn
turn_at part t at acknowledged = record {
  at = at;
  cut = cut t;
  tally = record { acknowledged = acknowledged; last = None };
  heard = record { part = part; address = address_byte t; expect = Control; byte = get_or t.bytes at 0; cut = cut t && leb (length t.bytes) (at + 1) };
}

-- from the byte after the address on, if the transfer is taken and heard; else nothing is left to follow
abbrev pub first_turn : ℕ → Sent → Check → Bool → Turn
first_turn part t check heard = cond (passed check && heard) (turn_at part t 1 1) (turn_at part t (length t.bytes) 0)

abbrev pub start_of : ℕ → Sent → Found → Start
start_of part t f = record { check = check_of part t f; turn = first_turn part t (check_of part t f) (ltb f.hearer f.count) }

abbrev pub answer_of : Check → Tally → PlainAnswer
answer_of (Ok _) t = Ok (record { bytes = t.acknowledged; last = t.last })
answer_of (Err r) t = Err r
