-- What a log that passed its checks is known to be, and its text then.
-- Assumes nothing.
use mathlib.Core.Path.{◌≡◌}
use mathlib.Core.List.{List}
use Prim.Native.Nat.{ℕ, ◌≤◌}
use lib.ListN.{length}
use Rattle.std.specs.Prelude.{Err, Ok}
use Rattle.sheet.specs.declared.Refusal.{Refusal}
use Rattle.sheet.specs.Parts.{pcf8532}
use Rattle.sheet.specs.Checks.{check_chips}
use Rattle.log_sheet.specs.Logs.{log_chips, seen_bytes, log_records, check_head, check_log, log_lines, refusal_line, text_of}
use Rattle.laws.proofs.Fits.{both_pass}
use Rattle.laws.proofs.Rescued.{headed}

pub record Checked (log : List ℕ) : Type 0 where
  pub short : length log ≤ 65536
  pub chips : check_chips pcf8532 (log_chips log) ≡ Ok tt
  pub whole : (log_records log).tear ≡ Ok tt

-- of the checks 14, 12, 3, 13 and 20
pub checked : (log : List ℕ) → check_log log ≡ Ok tt → Checked log
unfolding check_log
checked log e =
    let both = both_pass (check_head log) (log_records log).tear e in
    let head = headed log both.0 in
    record { short = head.short; chips = head.chips; whole = both.1 }

-- the text by the check: lines, or one
pub text-passed : (log : List ℕ) → check_log log ≡ Ok tt → text_of log ≡ log_lines (seen_bytes log) (log_chips log) (log_records log).bodies
unfolding text_of
text-passed log e = rw e

pub text-refused : (log : List ℕ) (r : Refusal) → check_log log ≡ Err r → text_of log ≡ refusal_line r
unfolding text_of
text-refused log r e = rw e
