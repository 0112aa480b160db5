-- What a call answers: what it has done, or why it is refused (paper 01, "Refusal numbers"); and what may be nobody or nothing.
use Rattle.std.specs.Prelude.{ℕ, Option, Result}
use Rattle.sheet.specs.declared.Refusal.{Refusal}
use Rattle.sheet.specs.declared.Taken.{Taken}
use Rattle.sheet.specs.declared.Acknowledged.{Acknowledged}
use Rattle.sheet.specs.declared.Kept.{Kept}

-- a check that passes, or why it does not
abbrev pub Check : Type 0
Check = Result (Unit {0}) Refusal

-- the group that hears an address byte, or nobody
abbrev pub Addressed : Type 0
Addressed = Option ℕ

-- the subaddress of the chip that acknowledged a data byte, or none
abbrev pub Acknowledger : Type 0
Acknowledger = Option ℕ

-- the first of the rows that a group shows, or none where it is dark
abbrev pub Shown : Type 0
Shown = Option ℕ

-- of a transfer, in the long account and in the plain one
abbrev pub Answer : Type 0
Answer = Result Taken Refusal

abbrev pub PlainAnswer : Type 0
PlainAnswer = Result Acknowledged Refusal

-- of a picture: its lit elements
abbrev pub Pictured : Type 0
Pictured = Result ℕ Refusal

-- of what is written to an output: its bytes
abbrev pub Written : Type 0
Written = Result ℕ Refusal

-- of a rescue
abbrev pub Rescued : Type 0
Rescued = Result Kept Refusal
