-- `outcome::leave` meets its contract: the power-on registers, and the log's own chips.
-- Assumes nothing.
use mathlib.Core.Path.{◌≡◌, ap₂, ◌∙◌}
use mathlib.Core.List.{List}
use Prim.Native.Nat.{ℕ}
use Rattle.sheet.specs.declared.PowerOn.{PowerOn}
use Rattle.sheet.specs.declared.Both.{Both}
use Rattle.sheet.specs.declared.Chips.{Chips}
use Rattle.sheet.specs.Parts.{pcf8532}
use Rattle.sheet.specs.Long.{both_on, state_of, power_on_part, state_after_all}
use Rattle.log_sheet.specs.Logs.{log_transfers}
use Rattle.outcome.proofs.leave.Goals as goal

powered : (part : ℕ) (n : Chips) (ram : List ℕ) (on : PowerOn) → on ≡ power_on_part part n ram → on.registers ≡ both_on
unfolding power_on_part
powered part n ram on e j = (e j).registers

pub returns : goal.returns
returns c = let a = c.args in
    c.carry_out.ensures
    ∙ ap₂ (λ (n : Chips) (r : Both). (state_after_all pcf8532 n (state_of r a.ram.now) (log_transfers a.log.now)).ram) c.chips_of-chips.ensures (powered _ _ _ _ c.power_on-start.ensures.value)
