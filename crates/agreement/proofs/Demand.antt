-- Demand 3, wherever the commands keep the ranges, and so for each part.
-- Assumes nothing.
use Prim.Native.Nat.{ℕ}
use Rattle.sheet.specs.Parts.{part_of}
use Rattle.sheet.specs.Long.{state_of, both_on, power_on_call}
use Rattle.sheet.specs.Agree.{Demand3, Claim}
use Rattle.laws.proofs.Kept.{part-keeps}
use Rattle.laws.proofs.Named.{has_columns}
use Rattle.laws.proofs.Fits.{powered_passes}
use Rattle.agreement.proofs.Transfer as transfers
use Rattle.agreement.proofs.Sequence as sequences
use Rattle.agreement.proofs.Power as powers

pub demand3 : Claim
unfolding power_on_call
demand3 K pc keeps = record {
  transfer = λ n s t v. transfers.transfer K keeps n s t v;
  sequence = λ n s ts v. sequences.sequence K keeps n s ts v;
  powered-on = λ n r ram ts e. rw (powers.power-on K n r ram) (sequences.sequence K keeps n (state_of both_on ram) ts (powered_passes K n ram pc e));
}

-- each part's commands keep P below its columns and A at most at its limit
pub part_agrees : (part : ℕ) → Demand3 (part_of part)
part_agrees part = demand3 (part_of part) (has_columns part) (part-keeps part)
