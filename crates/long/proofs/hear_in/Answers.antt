-- `long::hear_in` meets its contract: the group hears the bytes in its part of the RAM, and the part is put back.
-- Assumes nothing.
use mathlib.Core.Path.{ap, ◌∙◌, subst}
use mathlib.Core.List.{List}
use Prim.Native.Nat.{ℕ, ◌<◌}
use native.Mathlib.Omega.{arith}
use lib.ListN.{length, length-take}
use Rattle.sheet.specs.Parts.{part_of}
use Rattle.sheet.specs.Protocol.{chips_in, sent}
use Rattle.sheet.specs.Checks.{over_in}
use Rattle.sheet.specs.Long.{columns_of}
use Rattle.packed_sheet.specs.Packed.{columns_in}
use Rattle.laws.proofs.Wholes.{whole-taken}
use Rattle.laws.proofs.Named.{columns-even, ram-small}
use Rattle.laws.proofs.Nibbles.{check-nibbles}
use Rattle.laws.proofs.Lens.{few-chips-in, group-kept}
use Rattle.opening.specs.Opened.{heard_from}
use Rattle.long.proofs.Parts.{cut, put_back}
use Rattle.long.proofs.hear_in.Goals as goal

pub hear-requires : goal.hear-requires
hear-requires c = let a = c.args in
    let columns = columns_in a.bus.packed a.ram.now in
    let part = cut a.bus.part a.bus.chips c.requires.both a.group a.bus.packed a.ram.now _ _ c.requires.state c.start_in-start.ensures c.end_in-end.ensures in
    let f = part.fits in
    let kept = group-kept (part_of a.bus.part) a.bus.chips c.requires.both columns f a.group in
    record {
      range = c.requires.range;
      few = omega (arith, ap length part.part, kept.columns, ram-small a.bus.part (chips_in a.group a.bus.chips) (few-chips-in (part_of a.bus.part) a.bus.chips c.requires.both columns f a.group));
      nibbles = ap (over_in 0) part.part ∙ check-nibbles 0 (columns_of (part_of a.bus.part) a.bus.chips a.group columns) kept.nibbles;
      short = subst (λ (l : List ℕ). length l < 4097) (whole-taken a.bytes.now a.bits) (simp length-take (omega (arith, c.requires.short)));
      place = c.requires.place;
    }

pub returns : goal.returns
returns c = let a = c.args in
    let part = cut a.bus.part a.bus.chips c.requires.both a.group a.bus.packed a.ram.now _ _ c.requires.state c.start_in-start.ensures c.end_in-end.ensures in
    let told = c.hear.ensures ∙ ap (heard_from (part_of a.bus.part) (sent a.bytes.now a.bits) a.from a.opened) part.part in
    let back = put_back (part_of a.bus.part) _ (columns-even a.bus.part) a.bus.chips a.ram.now a.group c.start_in-start.result c.end_in-end.result a.bus.packed c.start_in-start.ensures c.end_in-end.ensures c.hear.new.ram _ (λ j. (told j).ram) in
    λ j. record { registers = (told j).registers; ram = back j; counts = (told j).counts; last = (told j).last }

pub slice_bounds-hear-count : goal.slice_bounds-hear-count
slice_bounds-hear-count c = let a = c.args in
    (cut a.bus.part a.bus.chips c.requires.both a.group a.bus.packed a.ram.now _ _ c.requires.state c.start_in-start.ensures c.end_in-end.ensures).begins

pub slice_bounds-hear-start : goal.slice_bounds-hear-start
slice_bounds-hear-start c = let a = c.args in
    (cut a.bus.part a.bus.chips c.requires.both a.group a.bus.packed a.ram.now _ _ c.requires.state c.start_in-start.ensures c.end_in-end.ensures).begins

pub slice_bounds-hear-end : goal.slice_bounds-hear-end
slice_bounds-hear-end c = let a = c.args in
    (cut a.bus.part a.bus.chips c.requires.both a.group a.bus.packed a.ram.now _ _ c.requires.state c.start_in-start.ensures c.end_in-end.ensures).ends
