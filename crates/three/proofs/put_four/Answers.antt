-- `three::put_four` meets its contract: four turns.
-- Assumes nothing.
use mathlib.Core.Path.{◌≡◌, sym, ap₂, ◌∙◌}
use mathlib.Core.List.{List}
use Prim.Native.Nat.{ℕ, ◌+◌, ◌-◌, ◌*◌, ◌≤◌, ◌<◌}
use native.Mathlib.Nat.{add-sub_cancel_left, add_assoc, mul-zero}
use native.Mathlib.Omega.{arith}
use lib.ListN.{length, take, drop, length-take, length-drop}
use Rattle.sheet.specs.Parts.{part_of}
use Rattle.writer_sheet.specs.Three.{byte_at}
use Rattle.laws.proofs.Named.{has_columns}
use Rattle.words.specs.Fields.{column_of}
use Rattle.three.proofs.Placed.{pair-at}
use Rattle.three.proofs.Putting.{step_of, step_small, Putting, begun, room, turn_by, done, one_pair}
use Rattle.three.proofs.put_four.Goals as goal

-- the next byte has its place
fits : (part v i : ℕ) {wanted before out : List ℕ} {at size : ℕ} → size ≡ step_of (part_of part) → length before ≡ step_of (part_of part) * 4 → i < 4
    → Putting (part_of part) (step_of (part_of part)) 8 v wanted before out at (2 * i) → (at + size ≤ length out) × (length out ≤ 32)
fits part v i e h l s =
    let there = room 1 h (omega arith) s in
    (omega (arith, there, e), omega (arith, s.long, h, step_small part))

part-long : (out : List ℕ) (at size : ℕ) → at + size ≤ length out → length (take (at + size - at) (drop at out)) ≡ size
part-long out at size h = simp (add-sub_cancel_left, length-take, length-drop) (omega arith)

pub put_byte-requires : goal.put_byte-requires
put_byte-requires c = (
  record {
    first = c.requires.first;
    inside = omega (arith, c.requires.inside, c.loop-i-test.true);
    few = omega (arith, c.requires.there, c.requires.few, has_columns c.args.part);
    room = part-long c.loop-i.out (c.byte_size-size.result * c.loop-i.i) c.byte_size-size.result (fits c.args.part (c.args.c + c.args.p) c.loop-i.i c.byte_size-size.ensures c.requires.room c.loop-i-test.true c.loop-i.invariant).0 ∙ c.byte_size-size.ensures;
  },
  omega arith,
)

pub loop-i-preserved : goal.loop-i-preserved
unfolding column_of
loop-i-preserved c = let a = c.args in
    let K = part_of a.part in
    let i = c.loop-i.i in
    let size = c.byte_size-size.result in
    let wanted = a.wanted.now in
    let is : size ≡ step_of K * 1 = omega (arith, c.byte_size-size.ensures) in
    rw (add-sub_cancel_left (size * i) size)
    (turn_by 1 is (omega arith) (omega arith) c.requires.room (omega (arith, c.loop-i-test.true)) (c.put_byte.auto.out ∙ part-long c.loop-i.out (size * i) size (fits c.args.part (c.args.c + c.args.p) i c.byte_size-size.ensures c.requires.room c.loop-i-test.true c.loop-i.invariant).0)
    (c.put_byte.ensures
    ∙ ap₂ (λ (k x : ℕ). byte_at K k x) (sym (add_assoc a.c a.p (2 * i))) (pair-at wanted (a.c + a.p) _ i c.pair_bytes-word.ensures c.loop-i-test.true)
    ∙ one_pair K (a.c + a.p + 2 * i) wanted)
    c.loop-i.invariant)

pub overflow_add-c : goal.overflow_add-c
overflow_add-c c = omega (arith, c.requires.there, c.requires.few, c.requires.inside)

pub pair_bytes-word-requires : goal.pair_bytes-word-requires
pair_bytes-word-requires c = omega (arith, c.requires.there, c.requires.inside)

pub loop-i-init : goal.loop-i-init
loop-i-init c = rw mul-zero begun

pub overflow_mul-x : goal.overflow_mul-x
overflow_mul-x c = omega (arith, c.loop-i-test.true)

pub overflow_cast-x : goal.overflow_cast-x
overflow_cast-x c = omega (arith, c.loop-i-test.true)

pub overflow_shr-x : goal.overflow_shr-x
overflow_shr-x c = omega (arith, c.loop-i-test.true)

pub overflow_mul-i : goal.overflow_mul-i
overflow_mul-i c = omega (arith, c.loop-i-test.true)

pub overflow_add-p : goal.overflow_add-p
overflow_add-p c = omega (arith, c.loop-i-test.true, c.requires.there, c.requires.few, c.requires.inside)

pub overflow_add-at : goal.overflow_add-at
overflow_add-at c = omega (arith, (fits c.args.part (c.args.c + c.args.p) c.loop-i.i c.byte_size-size.ensures c.requires.room c.loop-i-test.true c.loop-i.invariant).0, (fits c.args.part (c.args.c + c.args.p) c.loop-i.i c.byte_size-size.ensures c.requires.room c.loop-i-test.true c.loop-i.invariant).1)

pub slice_bounds-put_byte-count : goal.slice_bounds-put_byte-count
slice_bounds-put_byte-count c = omega arith

pub slice_bounds-put_byte-start : goal.slice_bounds-put_byte-start
slice_bounds-put_byte-start c = omega arith

pub slice_bounds-put_byte-end : goal.slice_bounds-put_byte-end
slice_bounds-put_byte-end c = omega (arith, (fits c.args.part (c.args.c + c.args.p) c.loop-i.i c.byte_size-size.ensures c.requires.room c.loop-i-test.true c.loop-i.invariant).0)

pub returns : goal.returns
returns c = done c.requires.room (omega (arith, c.loop-i-test.false)) c.loop-i.invariant
