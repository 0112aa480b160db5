-- `glyphs::entry_of` meets its contract, M by M: every byte's entry, computed.
-- Assumes nothing.
use mathlib.Core.Path.{◌≡◌}
use native.Mathlib.Omega.{arith}
use Rattle.price_sheet.specs.Price.{segments_of, byte_of, shown_below}
use Rattle.glyphs.proofs.Tested.{entry_is}
use Rattle.glyphs.proofs.entry_of.Goals as goal

pub returns-in-0 : goal.returns-in-0
unfolding segments_of byte_of shown_below
returns-in-0 c = let is : c.args.mode ≡ 0 = omega arith in
    rw is (entry_is 0 c.slot_of.ensures c.entry_at.ensures tt (omega arith))

pub returns-in-1 : goal.returns-in-1
unfolding segments_of byte_of shown_below
returns-in-1 c = let is : c.args.mode ≡ 1 = omega arith in
    rw is (entry_is 1 c.slot_of-in-1.ensures c.entry_at-in-1.ensures tt (omega arith))

pub returns-in-2 : goal.returns-in-2
unfolding segments_of byte_of shown_below
returns-in-2 c = let is : c.args.mode ≡ 2 = omega arith in
    rw is (entry_is 2 c.slot_of-in-2.ensures c.entry_at-in-2.ensures tt (omega arith))

pub returns-in_default : goal.returns-in_default
unfolding segments_of byte_of shown_below
returns-in_default c = let is : c.args.mode ≡ 3 = omega arith in
    rw is (entry_is 3 c.slot_of-in_default.ensures c.entry_at-in_default.ensures tt (omega arith))
