-- The checks of `sheet` by whether the registers fit, which is all that they ask of them.
use Rattle.std.specs.Prelude.{Bool, ◌&&◌, List, ℕ, ◌*◌, eqb, ltb}
use Rattle.sheet.specs.declared.Both.{Both}
use Rattle.sheet.specs.declared.Chips.{Chips}
use Rattle.sheet.specs.Results.{Check}
use Rattle.sheet.specs.declared.Refusal.TheVariants.{Register, GroupOrPhase, OutputLength}
use Rattle.sheet.specs.Parts.{Part}
use Rattle.sheet.specs.Registers.{in_range}
use Rattle.sheet.specs.Protocol.{chips_in}
use Rattle.sheet.specs.Checks.{unless, or_else, check_chips, check_ram}

-- both groups' registers are in range
abbrev pub fitting : Part → Both → Bool
fitting K r = in_range K r.zero && in_range K r.one

-- `check_state` of registers that fit or do not
abbrev pub state_by : Part → Chips → Bool → List ℕ → Check
state_by K n fit ram = or_else (check_chips K n) (or_else (unless fit Register) (check_ram K n ram))

-- `check_picture`
abbrev pub picture_by : Part → Chips → Bool → List ℕ → ℕ → ℕ → ℕ → Check
picture_by K n fit ram group phase size =
    or_else (state_by K n fit ram)
    (or_else (unless (ltb group 2 && ltb phase 2) GroupOrPhase) (unless (eqb size (K.columns * chips_in group n)) OutputLength))
