-- `refused::check_packed` meets its contract.
-- Assumes nothing.
use mathlib.Core.Path.{sym, ap₂, ◌∙◌}
use mathlib.Core.Bool.{Bool}
use Prim.Native.Nat.{◌/◌}
use Rattle.sheet.specs.declared.Refusal.TheVariants.{RamLength}
use Rattle.sheet.specs.Results.{Check}
use Rattle.sheet.specs.Checks.{unless, or_else}
use Rattle.laws.proofs.First.{or-passed}
use Rattle.laws.proofs.Packed.{half_length, never-over}
use Rattle.refused.proofs.check_packed.Goals as goal

pub returns : goal.returns
returns c = let ram = c.args.ram.now in
    c.unless.ensures ∙ sym (or-passed _)
    ∙ sym (ap₂ (λ (holds : Bool) (k : Check). or_else (unless holds RamLength) k) (half_length c.args.size (c.args.size / 2) ram c.requires) (never-over ram (λ i. (c.shared_slice_known-1.given i).fits)))
