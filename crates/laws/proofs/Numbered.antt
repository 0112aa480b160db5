-- A call's result with its buffer, and so its numbers.
-- Assumes nothing.
use mathlib.Core.Path.{◌≡◌, ap}
use Rattle.sheet.specs.declared.PowerOn.{PowerOn}
use Rattle.sheet.specs.Refusals.{numbers, picture_numbers, check_numbers}
use Rattle.sheet.specs.Parts.{Part}
use Rattle.sheet.specs.Pictures.{Seen}
use Rattle.sheet.specs.Long.{After}

pub numbered : (K : Part) {a b : After} → a ≡ b → (a ≡ b) × (numbers K a.result.answer ≡ numbers K b.result.answer)
numbered K e = (e, ap (λ (k : After). numbers K k.result.answer) e)

pub numbered-picture : {a b : Seen} → a ≡ b → (a ≡ b) × (picture_numbers a.result ≡ picture_numbers b.result)
numbered-picture e = (e, ap (λ (k : Seen). picture_numbers k.result) e)

pub numbered-power-on : {a b : PowerOn} → a ≡ b → (a ≡ b) × (check_numbers a.check ≡ check_numbers b.check)
numbered-power-on e = (e, ap (λ (k : PowerOn). check_numbers k.check) e)
