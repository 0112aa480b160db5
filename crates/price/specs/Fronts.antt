-- What a walk leaves in an output, and what a call makes of it.
-- Assumes nothing.
use Rattle.std.specs.Prelude.{◌≡◌, List, [], ◌++◌, ℕ, length, drop, Err, Ok}
use Rattle.sheet.specs.Results.{Written}
use Rattle.sheet.specs.Written.{WrittenAfter, written_by}
use Rattle.price_sheet.specs.Price.{Spelled}

-- how many bytes, or the first fault; without one they stand at the start, and the rest is as it was; with one only what is past the room is
pub record Put (p : Spelled) (bytes : List ℕ) (room : ℕ) (before after : List ℕ) (r : Written) : Type 0 where
  pub result : r ≡ (written_by p.fault bytes []).result
  pub whole : p.fault ≡ Ok tt → after ≡ bytes ++ drop (length bytes) before
  pub far : drop room after ≡ drop room before

-- a refusal puts back what stood at the start
unfoldable pub settled : Written → List ℕ → List ℕ → WrittenAfter
settled (Ok n) front out = record { result = Ok n; out = out }
settled (Err x) front out = record { result = Err x; out = front ++ drop (length front) out }
