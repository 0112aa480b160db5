-- What the functions that write a transfer may rely on, once its checks have passed.
use Rattle.std.specs.Prelude.{ℕ, ◌+◌, ◌*◌, ◌%◌, ◌^◌, ◌<◌, ◌≡◌, List, length}
use Rattle.sheet.specs.declared.Registers.{Registers}
use Rattle.sheet.specs.Parts.{Part}
use Rattle.sheet.specs.Registers.{backplanes}
use Rattle.writer_sheet.specs.Writer.{set_to, bytes_for}

-- a group, registers, a wanted mode and a wanted bank in range
pub record Settled (group : ℕ) (registers : Registers) (mode bank : ℕ) : Type 0 where
  pub group-in : group < 2
  pub e-in : registers.e < 2
  pub b-in : registers.b < 2
  pub o-in : registers.o < 2
  pub mode-in : mode < 4
  pub bank-in : bank < 2

-- columns by sixteen, as the chips have them, and an output as long as the transfer
pub record Room (K : Part) (registers : Registers) (mode : ℕ) (wanted out : List ℕ) : Type 0 where
  pub size : length out ≡ 8 + 2 * length (K.pointer 0) + bytes_for (backplanes (set_to mode 0 registers)) (length wanted)
  pub sixteen : length wanted % 16 ≡ 0
  pub near : length wanted < 2 ^ 32
