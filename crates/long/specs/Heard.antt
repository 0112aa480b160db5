-- A group, its registers given, that hears what is left of a transfer or is shown in the RAM of both groups: what it is asked to have passed, and what it is after.
use Rattle.std.specs.Prelude.{ℕ, ◌≤◌, ◌<◌, ◌≡◌, true, List, length, Ok}
use Rattle.sheet.specs.declared.Registers.{Registers}
use Rattle.sheet.specs.declared.Both.{Both}
use Rattle.sheet.specs.declared.Chips.{Chips}
use Rattle.sheet.specs.Parts.{Part}
use Rattle.sheet.specs.Registers.{registers_of, in_range}
use Rattle.sheet.specs.Protocol.{Sent, whole_of}
use Rattle.sheet.specs.Checks.{check_state}
use Rattle.sheet.specs.Long.{Group, columns_of, with_columns}
use Rattle.opening.specs.Opened.{heard_from}

-- the registers are the group's in a state that passed its checks
pub record Owned (K : Part) (n : Chips) (g : ℕ) (own : Registers) (ram : List ℕ) : Type 0 where
  pub both : Both
  pub same : registers_of g both ≡ own
  pub state : check_state K n both ram ≡ Ok tt

-- registers in range with which a group hears, in a state that passed its checks, what is left of a transfer
pub record Ready (K : Part) (n : Chips) (opened : Registers) (ram : List ℕ) (t : Sent) (from : ℕ) : Type 0 where
  pub both : Both
  pub state : check_state K n both ram ≡ Ok tt
  pub range : in_range K opened ≡ true
  pub short : length t.bytes < 4097
  pub place : from ≤ length (whole_of t)

-- the group after what is left of a transfer, with the RAM of both groups, in which its columns are replaced
abbrev pub heard_in_ram : Part → Chips → ℕ → Registers → List ℕ → Sent → ℕ → Group
heard_in_ram K n g opened ram t from =
    let h = heard_from K t from opened (columns_of K n g ram) in
    record { registers = h.registers; ram = with_columns K n g h.ram ram; counts = h.counts; last = h.last }
