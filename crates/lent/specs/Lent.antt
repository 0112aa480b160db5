-- A transfer to a list of chips that C lends as bytes: what is answered, and what the bytes are after it. Assumes nothing.
use Rattle.std.specs.Prelude.{◌≡◌, List, ℕ, ◌/◌, ◌%◌, ◌≤◌, length, Err, Ok}
use Rattle.sheet.specs.declared.Chip.{Chip}
use Rattle.sheet.specs.Results.{PlainAnswer}
use Rattle.sheet.specs.Protocol.{Sent}
use Rattle.sheet.specs.Plain.{plain_part}
use Rattle.wire.specs.Bytes.{list_in, list_bytes}

pub record Lent : Type 0 where
  pub answer : PlainAnswer
  pub chips : List ℕ

-- taken, the chips are written; refused, they are as given
abbrev pub written : PlainAnswer → List Chip → List ℕ → List ℕ
written (Ok s) after given = list_bytes after
written (Err r) after given = given

unfoldable pub lent_call : ℕ → List ℕ → Sent → Lent
lent_call part chips t =
    let s = plain_part part (list_in (length chips / 174) chips) t in
    record { answer = s.answer; chips = written s.answer s.chips chips }

-- whole chips, at most sixteen: what a bench has room for
pub record Few (chips : List ℕ) : Type 0 where
  pub whole : length chips % 174 ≡ 0
  pub few : length chips / 174 ≤ 16
