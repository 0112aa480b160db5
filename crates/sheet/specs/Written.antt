-- What a call that writes into an output answers: how many bytes it wrote, or why none. The writers, a price and the files of a RAM share it.
use Rattle.std.specs.Prelude.{ℕ, List, ◌++◌, leb, length, drop, Err, Ok}
use Rattle.sheet.specs.Results.{Check, Written}
use Rattle.sheet.specs.declared.Refusal.TheVariants.{OutputLength}
use Rattle.sheet.specs.Checks.{unless, or_else, check_part}

-- 9 for an output shorter than what is written
abbrev pub check_room : List ℕ → ℕ → Check
check_room transfer size = unless (leb (length transfer) size) OutputLength

pub record WrittenAfter : Type 0 where
  pub result : Written
  pub out : List ℕ

-- what is written stands at the start of the output, and the rest of it stays
abbrev pub written_by : Check → List ℕ → List ℕ → WrittenAfter
written_by (Ok _) transfer out = record { result = Ok (length transfer); out = transfer ++ drop (length transfer) out }
written_by (Err x) transfer out = record { result = Err x; out = out }

-- a writer's call by a part's number, its checks of what is wanted, and its transfer: 16 first, and 9 last
abbrev pub written_part : ℕ → Check → List ℕ → List ℕ → WrittenAfter
written_part part wants transfer out = written_by (or_else (check_part part) (or_else wants (check_room transfer (length out)))) transfer out
