-- `long::power_on` meets its contract.
-- Assumes nothing.
use Rattle.sheet.specs.Long.{power_on_call, power_on_part}
use Rattle.laws.proofs.Numbered.{numbered-power-on}
use Rattle.long.proofs.power_on.Goals as goal

pub returns : goal.returns
unfolding power_on_part power_on_call
returns c =
    let check = c.check_power_on-check.ensures in
    let p = numbered-power-on (λ j. record { check = check j; registers = record { zero = c.power_on.ensures j; one = c.power_on-2.ensures j } }) in
    record { value = p.0; check_value = p.1 }
