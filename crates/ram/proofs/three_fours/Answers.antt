-- `ram::three_fours` meets its contract: after so many turns of four the first bytes are written.
-- Assumes nothing.
use mathlib.Core.Path.{◌≡◌, refl}
use Prim.Native.Nat.{◌+◌, ◌*◌}
use native.Mathlib.Omega.{arith}
use Rattle.ram.specs.Tables.{first_bits, last_bits}
use Rattle.ram.proofs.Runs.{begun}
use Rattle.ram.proofs.Threes.{four-more}
use Rattle.ram.proofs.three_fours.Goals as goal

pub three_columns-a-requires : goal.three_columns-a-requires
unfolding first_bits last_bits
three_columns-a-requires c = (refl, refl)

pub three_columns-b-requires : goal.three_columns-b-requires
unfolding first_bits last_bits
three_columns-b-requires c = (refl, refl)

pub three_columns-c-requires : goal.three_columns-c-requires
unfolding first_bits last_bits
three_columns-c-requires c = (refl, refl)

pub three_columns-d-requires : goal.three_columns-d-requires
unfolding first_bits last_bits
three_columns-d-requires c = (refl, refl)

pub loop-four-preserved : goal.loop-four-preserved
loop-four-preserved c = let next : 4 * c.loop-four.four + 4 ≡ 4 * (c.loop-four.four + 1) = omega arith in
    rw next at (four-more c.requires.1 (4 * c.loop-four.four) _ _ _ _ (omega (arith, c.loop-four-test.true)) c.three_columns-a.ensures.0 c.three_columns-b.ensures.0 c.three_columns-c.ensures.0 c.three_columns-d.ensures.0 c.put_twelve.ensures c.loop-four.invariant)

pub loop-four-init : goal.loop-four-init
loop-four-init c = begun
