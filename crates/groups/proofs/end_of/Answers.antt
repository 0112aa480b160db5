-- `groups::end_of` meets its contract: the columns of two groups are few.
-- Assumes nothing.
use native.Mathlib.Omega.{arith}
use Rattle.sheet.specs.Parts.{part_of}
use Rattle.sheet.specs.Protocol.{chips_in}
use Rattle.laws.proofs.Lens.{start-few, chips-few}
use Rattle.laws.proofs.Named.{columns-most}
use Rattle.groups.proofs.end_of.Goals as goal

pub overflow_add-result : goal.overflow_add-result
overflow_add-result c =
    let a = c.args in
    rw (c.start_of.ensures, c.columns_in.ensures, c.chips_in.ensures)
    (omega (arith, start-few (part_of a.part) a.chips a.group, columns-most a.part a.chips.zero, columns-most a.part (chips_in a.group a.chips), chips-few a.chips a.group, c.well_formed))

pub returns : goal.returns
returns c = rw (c.start_of.ensures, c.columns_in.ensures, c.chips_in.ensures)
