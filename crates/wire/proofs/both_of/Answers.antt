-- `wire::both_of` meets its contract.
-- Assumes nothing.
use mathlib.Core.Path.{ap, ◌∙◌}
use native.Mathlib.Omega.{arith}
use lib.ListN.{length-take}
use Rattle.lemmas.proofs.Lists.{part-rest}
use Rattle.wire.specs.Bytes.{registers_in}
use Rattle.wire.proofs.both_of.Goals as goal

pub returns : goal.returns
returns c = let bytes = c.args.bytes.now in
    let one = c.registers_of-2.ensures ∙ ap registers_in (part-rest bytes 12) in
    λ j. record { zero = c.registers_of.ensures j; one = one j }

pub slice_bounds-registers_of-end : goal.slice_bounds-registers_of-end
slice_bounds-registers_of-end c = simp length-take (omega arith)

pub registers_of-requires : goal.registers_of-requires
registers_of-requires c = simp length-take (omega arith)
