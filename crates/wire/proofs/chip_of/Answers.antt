-- `wire::chip_of` meets its contract.
-- Assumes nothing.
use mathlib.Core.Path.{ap, ◌∙◌}
use native.Mathlib.Omega.{arith}
use lib.ListN.{get_or, length-take}
use Rattle.lemmas.proofs.Lists.{part-rest}
use Rattle.wire.specs.Bytes.{registers_in}
use Rattle.wire.proofs.chip_of.Goals as goal

pub returns : goal.returns
returns c = let bytes = c.args.bytes.now in
    let registers = c.registers_of.ensures ∙ ap registers_in (part-rest bytes 162) in
    λ j. record { columns = c.copy_from_slice.ensures.after j; sa0 = get_or bytes 160 0; subaddress = get_or bytes 161 0; registers = registers j }

pub copy_from_slice-requires : goal.copy_from_slice-requires
copy_from_slice-requires c = simp length-take (omega arith)

pub slice_bounds-copy_from_slice-end-2 : goal.slice_bounds-copy_from_slice-end-2
slice_bounds-copy_from_slice-end-2 c = simp length-take (omega arith)
