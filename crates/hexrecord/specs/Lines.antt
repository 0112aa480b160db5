-- What stands at a place of a file, and what is done with it: what the functions of `hexrecord` promise.
-- Assumes nothing.
use Rattle.std.specs.Prelude.{◌≡◌, cond, List, ℕ, ◌+◌, ◌≤◌, ◌<◌, eqb, length, Option, Some, None, Result, Ok, Err}
use Rattle.sheet.specs.declared.Refusal.{Refusal}
use Rattle.sheet.specs.Results.{Check}
use Rattle.image_sheet.specs.Hex.{line_of, record_of}
use Rattle.image_sheet.specs.Images.{count_in, is_line, size_in, count_of, stored}
use Rattle.hexrecord.specs.declared.Line.{Line}
use Rattle.hexrecord.specs.declared.Step.{Step}
use Rattle.hexrecord.specs.declared.Step.TheVariants.{Next, Last}

-- the line at the head of a text that begins at a place: what its record's length says, and where the next line begins
unfoldable pub line_at : ℕ → List ℕ → Option Line
line_at at text = cond (is_line text) (Some (record { count = count_in text; next = at + size_in text })) None

-- a record by its fault: its kind, and the place after it
abbrev pub step_of : Check → ℕ → ℕ → Result Step Refusal
step_of (Ok _) kind next = cond (eqb kind 1) (Ok (Last next)) (Ok (Next next))
step_of (Err r) kind next = Err r

-- what is given after it
abbrev pub given_after : Check → List ℕ → List ℕ → List ℕ
given_after (Ok _) given bytes = stored given bytes
given_after (Err r) given bytes = given

-- as many bytes as the record's length says
abbrev pub Whole : List ℕ → Type 0
Whole bytes = length bytes ≡ 5 + count_of bytes

-- room for a record's line, which fits its length byte and its address
pub record Room (at kind address : ℕ) (columns out : List ℕ) : Type 0 where
  pub few : length columns < 256
  pub near : address < 65536
  pub room : at + length (line_of (record_of kind address columns)) ≤ length out
