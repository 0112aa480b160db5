-- `hearing::hear` meets its contract: the whole bytes are heard, and the listener ends with the one that is cut.
-- Assumes nothing.
use mathlib.Core.Path.{sym, subst}
use Prim.Native.Nat.{ℕ, ◌≤◌}
use mathlib.Core.List.{List}
use lib.ListN.{length}
use lib.Seq.{length-take-le}
use Rattle.sheet.specs.Parts.{part_of}
use Rattle.opening.specs.Opened.{opened_at}
use Rattle.packed_sheet.specs.Packed.{columns_in}
use Rattle.laws.proofs.Wholes.{whole-most}
use Rattle.hearing.specs.Hears.{Hears}
use Rattle.hearing.proofs.Hearing.{whole_is, whole-heard}
use Rattle.hearing.proofs.hear.Goals as goal

pub slice_bounds-hear_left-end : goal.slice_bounds-hear_left-end
slice_bounds-hear_left-end c = let a = c.args in
    sym (length-take-le _ _ (subst (λ (k : ℕ). k ≤ length a.bytes.now) (sym c.whole_count-whole.ensures) (whole-most (length a.bytes.now) a.bits)))

pub hear_left-listener-requires : goal.hear_left-listener-requires
hear_left-listener-requires c = let a = c.args in
    subst (λ (l : List ℕ). Hears (part_of a.part) (columns_in a.packed a.ram.now) a.opened l a.from) (sym (whole_is a.bytes.now a.bits _ c.whole_count-whole.ensures)) c.requires

pub returns : goal.returns
returns c = let a = c.args in
    whole-heard (part_of a.part) a.bytes.now a.bits c.whole_count-whole.result c.whole_count-whole.ensures a.from (opened_at a.from a.opened (columns_in a.packed a.ram.now)) c.hear_left-listener.result (columns_in a.packed c.hear_left-listener.new.ram)
    c.hear_left-listener.ensures.ram_after c.hear_left-listener.ensures.expect_value c.end.result c.end.ensures
