-- `long::show_in` meets its contract: the group's part of the RAM is shown.
-- Assumes nothing.
use mathlib.Core.Path.{ap, ◌∙◌}
use Rattle.sheet.specs.Pictures.{picture_of, lit_in}
use Rattle.long.proofs.Parts.{cut, showable}
use Rattle.long.proofs.show_in.Goals as goal

pub show-requires : goal.show-requires
show-requires c = let a = c.args in
    showable a.bus.part a.bus.chips c.requires.0.both a.group a.bus.packed a.ram.now _ _ a.shown _ (cut a.bus.part a.bus.chips c.requires.0.both a.group a.bus.packed a.ram.now _ _ c.requires.0.state c.start_in-start.ensures c.end_in-end.ensures) c.requires.0.same c.requires.1

pub returns : goal.returns
returns c = let a = c.args in
    let same = ap (picture_of a.shown a.phase) (cut a.bus.part a.bus.chips c.requires.0.both a.group a.bus.packed a.ram.now _ _ c.requires.0.state c.start_in-start.ensures c.end_in-end.ensures).part in
    record { out_after = c.show.ensures.out_after ∙ same; value = c.show.ensures.value ∙ ap lit_in same }

pub slice_bounds-show-count : goal.slice_bounds-show-count
slice_bounds-show-count c = let a = c.args in
    (cut a.bus.part a.bus.chips c.requires.0.both a.group a.bus.packed a.ram.now _ _ c.requires.0.state c.start_in-start.ensures c.end_in-end.ensures).begins

pub slice_bounds-show-start : goal.slice_bounds-show-start
slice_bounds-show-start c = let a = c.args in
    (cut a.bus.part a.bus.chips c.requires.0.both a.group a.bus.packed a.ram.now _ _ c.requires.0.state c.start_in-start.ensures c.end_in-end.ensures).begins

pub slice_bounds-show-end : goal.slice_bounds-show-end
slice_bounds-show-end c = let a = c.args in
    (cut a.bus.part a.bus.chips c.requires.0.both a.group a.bus.packed a.ram.now _ _ c.requires.0.state c.start_in-start.ensures c.end_in-end.ensures).ends
