-- Rescue of a torn log (paper 02, request 11): the head and the whole records before the first tear, by the reader's own walk. What holds of it is stated below and proved in `laws`.
-- Assumes nothing.
use Rattle.std.specs.Prelude.{ℕ, ◌+◌, ◌-◌, ◌≡◌, List, ◌++◌, leb, length, take, drop, Err, Ok}
use Rattle.sheet.specs.Results.{Check, Rescued}
use Rattle.sheet.specs.declared.Refusal.TheVariants.{OutputLength}
use Rattle.sheet.specs.Refusals.{place_of}
use Rattle.sheet.specs.Checks.{unless, or_else}
use Rattle.log_sheet.specs.Records.{size_of}
use Rattle.log_sheet.specs.Logs.{log_records, check_head, check_log}

-- the bytes kept: the head, and each record's length field and body
abbrev pub kept_of : List ℕ → ℕ
kept_of log = 3 + size_of (log_records log).bodies

-- records kept, bytes kept, bytes dropped, and the offset of the tear: where nothing is torn, the log's length
abbrev pub rescued : List ℕ → Rescued
rescued log = Ok (record { records = length (log_records log).bodies; bytes = kept_of log; dropped = length log - kept_of log; tear = kept_of log })

-- 14, 12, 3, then 9 for an output shorter than the log
unfoldable pub check_rescue : List ℕ → ℕ → Check
check_rescue log size = or_else (check_head log) (unless (leb (length log) size) OutputLength)

pub record RescuedAfter : Type 0 where
  pub result : Rescued
  pub out : List ℕ

-- what is kept stands at the start of the output, and the rest of it stays
abbrev pub rescued_by : Check → List ℕ → List ℕ → RescuedAfter
rescued_by (Ok _) log out = record { result = rescued log; out = take (kept_of log) log ++ drop (kept_of log) out }
rescued_by (Err r) log out = record { result = Err r; out = out }

unfoldable pub rescue_call : List ℕ → List ℕ → RescuedAfter
rescue_call log out = rescued_by (check_rescue log (length out)) log out

-- ---- what holds of every log whose head passes

abbrev pub kept : List ℕ → List ℕ
kept log = take (kept_of log) log

-- a tear's place
abbrev pub TornAt : ℕ → Check → Type 0
TornAt at (Ok _) = Unit {0}
TornAt at (Err r) = place_of r ≡ at

pub record Rescues (log : List ℕ) : Type 0 where
  -- kept and dropped make the log
  pub parts : kept_of log + (length log - kept_of log) ≡ length log
  -- a sound log is kept whole
  pub sound : check_log log ≡ Ok tt → kept log ≡ log
  -- what is kept is a log that the reader accepts, with the same records
  pub accepted : check_log (kept log) ≡ Ok tt
  pub records : (log_records (kept log)).bodies ≡ (log_records log).bodies
  -- and the next one is the torn one
  pub next : TornAt (kept_of log) (log_records log).tear
  -- rescued again, all of it is kept
  pub again : kept (kept log) ≡ kept log
