-- The commands that open a transfer, each after a control byte 80 (Co = 1, RS = 0: one command), and what is left of it after them.
use Rattle.std.specs.Prelude.{ℕ, ◌+◌, cond, ◌&&◌, List, [], ◌∷◌, eqb, drop, Err, None, Ok}
use Rattle.sheet.specs.declared.Registers.{Registers}
use Rattle.sheet.specs.Results.{Acknowledger, Check}
use Rattle.sheet.specs.declared.Expect.TheVariants.{Control}
use Rattle.sheet.specs.declared.Refusal.TheVariants.{UndefinedCommand}
use Rattle.sheet.specs.Parts.{Part}
use Rattle.sheet.specs.Registers.{lost_by}
use Rattle.sheet.specs.Commands.{defined, obeyed}
use Rattle.sheet.specs.Protocol.{next_after, is_data, Sent, cut, whole_of}
use Rattle.sheet.specs.Long.{Group, heard}

-- the registers after these commands and the place of the byte after them; or, of one that is undefined, the fault
pub record Opening : Type 0 where
  pub fault : Check
  pub registers : Registers
  pub at : ℕ

abbrev pub opens : Registers → ℕ → Opening
opens r i = record { fault = (Ok tt); registers = r; at = i }

-- from place i on
unfoldable pub opened : Part → Registers → ℕ → List ℕ → Opening
opened K r i [] = opens r i
opened K r i (c ∷ []) = opens r i
opened K r i (c ∷ (x ∷ xs)) =
    cond (eqb c 128)
    (cond (defined (K.command x)) (opened K (obeyed r (K.command x)) (i + 2) xs) (record { fault = Err (UndefinedCommand (i + 1)); registers = r; at = i }))
    (opens r i)

-- a group that has heard nothing but n bytes, the address and commands with their control bytes
abbrev pub opened_at : ℕ → Registers → List ℕ → Group
opened_at n r ram = record { registers = r; ram = ram; counts = record { acknowledged = n; stored = 0; discarded = 0 }; last = None }

-- and what is left of a transfer then, with the byte that is cut
abbrev pub heard_from : Part → Sent → ℕ → Registers → List ℕ → Group
heard_from K t n r ram =
    let rest = drop n (whole_of t) in
    let h = heard K Control rest (opened_at n r ram) in
    record { registers = lost_by (cut t && is_data (next_after Control rest)) h.registers; ram = h.ram; counts = h.counts; last = h.last }
