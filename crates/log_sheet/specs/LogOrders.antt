-- The order of a log's refusals (paper 01, "Logs"; paper 02, request 10), computed: every set of faults is answered by the first of them, and its place.
use Rattle.std.specs.Prelude.{ℕ, Bool, true, cond, ◌&&◌, List, [], ◌∷◌, T, take, replicate}
use Rattle.sheet.specs.Refusals.{check_numbers}
use Rattle.sheet.specs.Checks.{check_chips}
use Rattle.sheet.specs.Starred.{same}
use Rattle.sheet.specs.Orders.{Fault, refusal, in_order, is}
use Rattle.log_sheet.specs.Records.{read_in, records_from}
use Rattle.log_sheet.specs.Logs.{check_head, check_log}

-- version 1 or 3, one chip or five, an empty record or one cut short, and too many empty records

abbrev log : List Bool → List ℕ
log f = cond (is f 1) 3 1 ∷ cond (is f 2) 5 1 ∷ 0 ∷ 0 ∷ cond (is f 3) 9 0 ∷ cond (is f 0) (replicate 65532 0) []

abbrev pub logs : Bool
logs = in_order (refusal 14 0 ∷ refusal 12 0 ∷ refusal 3 0 ∷ refusal 13 3 ∷ []) (λ f. check_numbers (check_log (log f)))

-- version 2: the records' bytes, and the refusal
pub record Recorded : Type 0 where
  pub bytes : List ℕ
  pub refused : Fault

abbrev recorded : List ℕ → ℕ → ℕ → Recorded
recorded bytes number place = record { bytes = bytes; refused = refusal number place }

abbrev pub every_log : List Recorded → Bool
every_log [] = true
every_log (r ∷ rs) = same (take 2 (check_numbers (check_log (2 ∷ 1 ∷ 0 ∷ r.bytes)))) (r.refused.number ∷ r.refused.place ∷ []) && every_log rs

-- a body of two bytes and of none; of one byte, there and cut off: 13 comes before 20; and a second record, where the first faulty one decides
abbrev pub bodies : Bool
bodies =
    every_log
    (recorded [] 0 0 ∷ recorded (0 ∷ 2 ∷ 0 ∷ 0 ∷ []) 0 0 ∷ recorded (0 ∷ 0 ∷ []) 20 3 ∷ recorded (0 ∷ 1 ∷ 0 ∷ []) 20 3 ∷ recorded (0 ∷ 1 ∷ []) 13 3 ∷ recorded (0 ∷ []) 13 3
    ∷ recorded (0 ∷ 0 ∷ 0 ∷ 9 ∷ []) 20 3 ∷ recorded (0 ∷ 2 ∷ 0 ∷ 0 ∷ 0 ∷ 9 ∷ []) 13 7 ∷ recorded (0 ∷ 2 ∷ 0 ∷ 0 ∷ 0 ∷ 1 ∷ 0 ∷ []) 20 7 ∷ [])

pub orders : T (logs && bodies)
unfolding check_log check_head records_from read_in check_chips
orders = tt
