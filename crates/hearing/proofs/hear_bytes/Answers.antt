-- `hearing::hear_bytes` meets its contract: a turn is a run of data or a byte that is none.
-- Assumes nothing.
use mathlib.Core.Path.{sym, ap, ◌∙◌, subst}
use Prim.Native.Nat.{ℕ, ◌-◌, ◌≤◌}
use native.Mathlib.Omega.{arith}
use lib.ListN.{length, drop, length-take, length-drop}
use Rattle.sheet.specs.declared.Expect.TheVariants.{Control}
use Rattle.sheet.specs.Parts.{part_of}
use Rattle.sheet.specs.Long.{heard}
use Rattle.packed_sheet.specs.Packed.{columns_in}
use Rattle.laws.proofs.Ranges.{range-of, in-range}
use Rattle.laws.proofs.Kept.{part-keeps}
use Rattle.laws.proofs.Named.{group-columns}
use Rattle.laws.proofs.Nibbles.{nibbles-of, check-nibbles}
use Rattle.laws.proofs.Packed.{columns-held, bytes-few, bytes-alike}
use Rattle.listener.specs.declared.Listener.{Listener}
use Rattle.opening.specs.Opened.{opened_at}
use Rattle.listener.specs.Listeners.{group_of, ran}
use Rattle.hearing.proofs.Hearing.{Hearing, at_first, at-end, at-end-next, ends_in, step-turn, data_turn}
use Rattle.hearing.proofs.hear_bytes.Goals as goal

pub columns_held-size-requires : goal.columns_held-size-requires
columns_held-size-requires c = omega (arith, bytes-few c.args.packed c.args.ram.now, c.requires.few)

pub loop-i-init : goal.loop-i-init
loop-i-init c = let ram = columns_in c.args.packed c.args.ram.now in
    subst (λ (l : Listener). Hearing (part_of c.args.part) ram c.args.bytes.now l.registers c.args.from ram l c.args.from) (sym c.begun-listener.ensures)
    (at_first (part_of c.args.part) ram c.args.bytes.now c.args.opened c.args.from (range-of (part_of c.args.part) c.args.opened c.requires.range) (nibbles-of 0 ram c.requires.nibbles) c.requires.place)

pub slice_bounds-write-count : goal.slice_bounds-write-count
slice_bounds-write-count c = omega (arith, c.if-i-end.true)

pub slice_bounds-write-start : goal.slice_bounds-write-start
slice_bounds-write-start c = omega (arith, c.if-i-end.true)

pub slice_bounds-write-end : goal.slice_bounds-write-end
slice_bounds-write-end c = rw c.data_end-end.ensures (ends_in c.loop-i.listener.expect c.loop-i.i (length c.args.bytes.now) c.loop-i-test.true).1

pub write-requires : goal.write-requires
write-requires c = record {
  range = in-range (part_of c.args.part) c.loop-i.listener.registers c.loop-i.invariant.kept.range;
  short = simp (length-take, length-drop) (omega (arith, c.requires.short));
  few = omega (arith, c.loop-i.invariant.kept.columns, c.requires.few);
  nibbles = check-nibbles 0 (columns_in c.args.packed c.loop-i.ram) c.loop-i.invariant.kept.nibbles;
}

pub overflow_sub-end : goal.overflow_sub-end
overflow_sub-end c = omega (arith, c.if-i-end.true)

pub run-listener-requires : goal.run-listener-requires
run-listener-requires c = let few = c.loop-i.invariant.few in
    let ends : c.data_end-end.result ≤ length c.args.bytes.now = rw c.data_end-end.ensures (ends_in c.loop-i.listener.expect c.loop-i.i (length c.args.bytes.now) c.loop-i-test.true).1 in
    record {
      range = in-range (part_of c.args.part) c.loop-i.listener.registers c.loop-i.invariant.kept.range;
      short = omega (arith, ends, c.requires.short);
      acknowledged = omega (arith, few.acknowledged, c.loop-i.invariant.most, c.requires.short);
      stored = omega (arith, few.bits, c.loop-i.invariant.most, c.requires.short);
      discarded = omega (arith, few.bits, c.loop-i.invariant.most, c.requires.short);
    }

pub loop-i-smaller-then-i-end : goal.loop-i-smaller-then-i-end
loop-i-smaller-then-i-end c = omega (arith, c.if-i-end.true, c.loop-i-test.true)

pub loop-i-preserved-then-i-end : goal.loop-i-preserved-then-i-end
loop-i-preserved-then-i-end c = let w = c.write in
    let columns = columns_in c.args.packed in
    data_turn (part_of c.args.part) (part-keeps c.args.part) (columns c.args.ram.now) c.args.bytes.now c.begun-listener.result.registers c.args.from (columns c.loop-i.ram) c.loop-i.listener c.loop-i.i c.loop-i-test.true c.loop-i.invariant
    (rw (group-columns c.args.part) c.requires.few) c.data_end-end.result c.data_end-end.ensures c.if-i-end.true (columns w.new.ram) c.run-listener.result w.ensures
    (c.run-listener.ensures ∙ ap (λ (size : ℕ). ran (part_of c.args.part) c.loop-i.listener (c.data_end-end.result - c.loop-i.i) size) (c.columns_held-size.ensures ∙ sym (columns-held c.args.packed c.args.ram.now)))

pub step-listener-requires : goal.step-listener-requires
step-listener-requires c = omega (arith, c.loop-i.invariant.few.acknowledged, c.loop-i.invariant.most, c.requires.short)

pub loop-i-preserved : goal.loop-i-preserved
loop-i-preserved c = let columns = columns_in c.args.packed in
    step-turn (part_of c.args.part) (part-keeps c.args.part) (columns c.args.ram.now) c.args.bytes.now c.begun-listener.result.registers c.args.from (columns c.loop-i.ram) c.loop-i.listener c.loop-i.i c.loop-i-test.true c.loop-i.invariant
    (rw (← c.data_end-end.ensures) c.if-i-end.false) c.step-listener.result c.step-listener.ensures

pub shape_of-ram : goal.shape_of-ram
shape_of-ram c = let a = c.args in
    bytes-alike a.packed c.loop-i.ram a.ram.now c.loop-i.invariant.kept.columns

pub returns : goal.returns
returns c = let a = c.args in record {
  ram_after = sym (at-end (part_of a.part) c.loop-i.listener.expect a.bytes.now c.loop-i.i c.loop-i-test.false (group_of c.loop-i.listener (columns_in a.packed c.loop-i.ram))) ∙ c.loop-i.invariant.rest
      ∙ ap (λ (l : Listener). heard (part_of a.part) Control (drop a.from a.bytes.now) (opened_at a.from l.registers (columns_in a.packed a.ram.now))) c.begun-listener.ensures;
  expect_value = sym (at-end-next c.loop-i.listener.expect a.bytes.now c.loop-i.i c.loop-i-test.false) ∙ c.loop-i.invariant.then;
}
