-- What a replay does to its buffer, and what its parts leave.
-- Assumes nothing.
use Rattle.std.specs.Prelude.{cond, List, ◌++◌, ℕ, ◌≤◌, ltb, length, drop, Option, Some, None}
use Rattle.log_sheet.specs.Logs.{text_of}

-- room for the text of any log
abbrev pub room : ℕ
room = 700000

pub record ReplayedAfter : Type 0 where
  pub result : Option ℕ
  pub out : List ℕ

-- too small a buffer is refused and left as it is, whatever the log. Else the text stands at its start, and the rest of it stays
unfoldable pub replay_call : List ℕ → List ℕ → ReplayedAfter
replay_call log out =
    cond (ltb (length out) room) (record { result = None; out = out })
    (record { result = Some (length (text_of log)); out = text_of log ++ drop (length (text_of log)) out })

-- what is written lies inside the buffer
abbrev pub Inside : Option ℕ → ℕ → Type 0
Inside (Some n) size = n ≤ size
Inside None size = Unit {0}
