-- Chips powered on one by one are the chips of the long state powered on.
-- Assumes nothing.
use mathlib.Core.Path.{◌≡◌, refl, ap₂, ◌∙◌}
use mathlib.Core.List.{List, ◌++◌, map-append}
use Prim.Native.Nat.{ℕ, ◌*◌}
use lib.ListN.{drop}
use Rattle.sheet.specs.declared.Both.{Both}
use Rattle.sheet.specs.declared.Chip.{Chip}
use Rattle.sheet.specs.declared.Chips.{Chips}
use Rattle.sheet.specs.Parts.{Part}
use Rattle.sheet.specs.Registers.{power_on}
use Rattle.sheet.specs.Long.{state_of, power_on_call}
use Rattle.sheet.specs.Plain.{chip_power_on}
use Rattle.sheet.specs.Agree.{group_of, chips_of, powered_on}
use Rattle.agreement.proofs.Chips.{set-alike}

pub power-on : (K : Part) (n : Chips) (r : Both) (ram : List ℕ)
    → powered_on K (chips_of K n (state_of r ram)) ≡ chips_of K n (state_of (power_on_call K n ram).registers ram)
unfolding chip_power_on power_on_call
power-on K n r ram =
    let f : Chip → Chip = λ c. (chip_power_on K c).chip in
    let s = state_of r ram in
    map-append f (group_of K 0 n s) (group_of K 1 n s)
    ∙ ap₂ (λ (a b : List Chip). a ++ b)
    (set-alike f 0 r.zero power_on (λ i columns. refl) K n.zero 0 ram)
    (set-alike f 1 r.one power_on (λ i columns. refl) K n.one 0 (drop (K.columns * n.zero) ram))
