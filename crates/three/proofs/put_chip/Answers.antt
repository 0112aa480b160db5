-- `three::put_chip` meets its contract: eight columns a turn.
-- Assumes nothing.
use mathlib.Core.Path.{◌≡◌, refl, ◌∙◌}
use mathlib.Core.List.{List}
use Prim.Native.Nat.{ℕ, ◌+◌, ◌-◌, ◌*◌, ◌%◌, ◌≤◌, ◌<◌, ◌/◌}
use native.Mathlib.Nat.{add-sub_cancel_left}
use native.Mathlib.Omega.{arith}
use lib.ListN.{length, take, drop, length-take, length-drop}
use Rattle.sheet.specs.Parts.{part_of}
use Rattle.laws.proofs.Named.{of-both}
use Rattle.three.proofs.Putting.{step_of, step_small, Putting, begun, room, turn, done}
use Rattle.three.proofs.put_chip.Goals as goal

-- a chip has whole eights of columns
eight-left : (part p : ℕ) → p % 8 ≡ 0 → p < (part_of part).columns → (p + 8 ≤ (part_of part).columns) × ((part_of part).columns ≤ 160)
eight-left part p = of-both (λ K. p % 8 ≡ 0 → p < K.columns → (p + 8 ≤ K.columns) × (K.columns ≤ 160)) part (λ e l. (omega (arith, e, l), omega arith)) (λ e l. (omega (arith, e, l), omega arith))

-- their bytes have their place
fits : (part v : ℕ) {wanted before out : List ℕ} {at p size : ℕ} → let K = part_of part in size ≡ step_of K → length before ≡ step_of K * (K.columns / 2) → p + 8 ≤ K.columns
    → Putting K (step_of K) K.columns v wanted before out at p → (at + 4 * size ≤ length out) × (4 * size ≤ 32)
fits part v e h l s = (omega (arith, room 4 h l s, e), omega (arith, e, step_small part))

part-long : (out : List ℕ) (at size : ℕ) → at + size ≤ length out → length (take (at + size - at) (drop at out)) ≡ size
part-long out at size h = simp (add-sub_cancel_left, length-take, length-drop) (omega arith)

-- the size is that of four bytes
size_is : (part : ℕ) {size : ℕ} → size ≡ step_of (part_of part) → 4 * size ≡ step_of (part_of part) * 4
size_is part e = omega arith

pub loop-p-preserved : goal.loop-p-preserved
loop-p-preserved c = rw (add-sub_cancel_left c.loop-p.at (4 * c.byte_size-size.result), size_is c.args.part c.byte_size-size.ensures) (
  omega (arith, c.loop-p.invariant.0),
  turn 4 refl refl c.requires.room (eight-left c.args.part c.loop-p.p c.loop-p.invariant.0 (omega (arith, c.loop-p-test.true, c.columns-columns.ensures))).0 (c.put_four.auto.out ∙ part-long c.loop-p.out c.loop-p.at (4 * c.byte_size-size.result) (fits c.args.part c.args.c c.byte_size-size.ensures c.requires.room (eight-left c.args.part c.loop-p.p c.loop-p.invariant.0 (omega (arith, c.loop-p-test.true, c.columns-columns.ensures))).0 c.loop-p.invariant.1).0 ∙ size_is c.args.part c.byte_size-size.ensures) c.put_four.ensures c.loop-p.invariant.1,
)

pub overflow_mul-size : goal.overflow_mul-size
overflow_mul-size c = omega (arith, c.byte_size-size.ensures, step_small c.args.part)

pub loop-p-init : goal.loop-p-init
loop-p-init c = (refl, begun)

pub overflow_add-at : goal.overflow_add-at
overflow_add-at c = omega (arith, (fits c.args.part c.args.c c.byte_size-size.ensures c.requires.room (eight-left c.args.part c.loop-p.p c.loop-p.invariant.0 (omega (arith, c.loop-p-test.true, c.columns-columns.ensures))).0 c.loop-p.invariant.1).0)

pub slice_bounds-put_four-count : goal.slice_bounds-put_four-count
slice_bounds-put_four-count c = omega arith

pub slice_bounds-put_four-start : goal.slice_bounds-put_four-start
slice_bounds-put_four-start c = omega arith

pub slice_bounds-put_four-end : goal.slice_bounds-put_four-end
slice_bounds-put_four-end c = omega (arith, (fits c.args.part c.args.c c.byte_size-size.ensures c.requires.room (eight-left c.args.part c.loop-p.p c.loop-p.invariant.0 (omega (arith, c.loop-p-test.true, c.columns-columns.ensures))).0 c.loop-p.invariant.1).0)

pub put_four-requires : goal.put_four-requires
put_four-requires c = record { first = c.requires.first; inside = (eight-left c.args.part c.loop-p.p c.loop-p.invariant.0 (omega (arith, c.loop-p-test.true, c.columns-columns.ensures))).0; there = c.requires.there; few = c.requires.few; room = part-long c.loop-p.out c.loop-p.at (4 * c.byte_size-size.result) (fits c.args.part c.args.c c.byte_size-size.ensures c.requires.room (eight-left c.args.part c.loop-p.p c.loop-p.invariant.0 (omega (arith, c.loop-p-test.true, c.columns-columns.ensures))).0 c.loop-p.invariant.1).0 ∙ size_is c.args.part c.byte_size-size.ensures }

pub overflow_add-at-in-loop-p : goal.overflow_add-at-in-loop-p
overflow_add-at-in-loop-p c = omega (arith, (fits c.args.part c.args.c c.byte_size-size.ensures c.requires.room (eight-left c.args.part c.loop-p.p c.loop-p.invariant.0 (omega (arith, c.loop-p-test.true, c.columns-columns.ensures))).0 c.loop-p.invariant.1).0)

pub overflow_add-p : goal.overflow_add-p
overflow_add-p c = omega (arith, (eight-left c.args.part c.loop-p.p c.loop-p.invariant.0 (omega (arith, c.loop-p-test.true, c.columns-columns.ensures))).0, (eight-left c.args.part c.loop-p.p c.loop-p.invariant.0 (omega (arith, c.loop-p-test.true, c.columns-columns.ensures))).1)

pub loop-p-smaller : goal.loop-p-smaller
loop-p-smaller c = omega (arith, (eight-left c.args.part c.loop-p.p c.loop-p.invariant.0 (omega (arith, c.loop-p-test.true, c.columns-columns.ensures))).0)

pub shape_of-out : goal.shape_of-out
shape_of-out c = c.loop-p.invariant.1.long

pub returns : goal.returns
returns c = done c.requires.room (omega (arith, c.loop-p-test.false, c.columns-columns.ensures)) c.loop-p.invariant.1
