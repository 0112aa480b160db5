-- `three::put_pairs` meets its contract: a chip a turn.
-- Assumes nothing.
use mathlib.Core.Path.{◌≡◌, sym, ap, ap₂, subst, ◌∙◌}
use mathlib.Core.List.{List}
use Prim.Native.Nat.{ℕ, ◌+◌, ◌-◌, ◌*◌, ◌/◌, ◌%◌, ◌≤◌, ◌<◌}
use native.Mathlib.Nat.{zero-add, mul-zero, add-sub_cancel_left}
use native.Mathlib.Omega.{arith}
use lib.ListN.{length, take, drop, length-take, length-drop}
use Rattle.sheet.specs.Parts.{part_of}
use Rattle.writer_sheet.specs.Three.{pairs_from}
use Rattle.laws.proofs.Named.{of-both, columns-even, has_columns, group-columns}
use Rattle.laws.proofs.PutsThree.{pairs_small}
use Rattle.three.proofs.Putting.{step_of, Putting, begun, room, turn_by, done}
use Rattle.three.proofs.put_pairs.Goals as goal

-- turn i has a chip's columns
record Turn (part n i size : ℕ) : Type 0 where
  first : (n * i) % (part_of part).columns ≡ 0
  inside : n * i + (part_of part).columns ≤ size
  even : n * i + 2 * ((part_of part).columns / 2) ≤ size

a-turn : (part n i size : ℕ) → n ≡ (part_of part).columns → i < size / n → Turn part n i size
a-turn part n i size e l =
    let t = of-both (λ K. i < size / K.columns → ((K.columns * i) % K.columns ≡ 0) × (K.columns * i + K.columns ≤ size)) part (λ h. (omega arith, omega (arith, h))) (λ h. (omega arith, omega (arith, h))) (subst (λ (k : ℕ). i < size / k) e l) in
    rw e (record { first = t.0; inside = t.1; even = omega (arith, t.1) })

-- after the last turn no column is left
all-turns : (part n i size : ℕ) → n ≡ (part_of part).columns → size % (part_of part).columns ≡ 0 → size / n ≤ i → size ≤ n * i
all-turns part n i size e f l = rw e (of-both (λ K. size % K.columns ≡ 0 → size / K.columns ≤ i → size ≤ K.columns * i) part (λ g h. omega (arith, g, h)) (λ g h. omega (arith, g, h)) f (subst (λ (k : ℕ). size / k ≤ i) e l))

chip-small : (part : ℕ) → step_of (part_of part) * ((part_of part).columns / 2) ≤ 640
chip-small part = of-both (λ K. step_of K * (K.columns / 2) ≤ 640) part (omega arith) (omega arith)

-- the size is a chip's
size_is : (part : ℕ) {size columns : ℕ} → size ≡ step_of (part_of part) → columns ≡ (part_of part).columns → size * (columns / 2) ≡ step_of (part_of part) * ((part_of part).columns / 2)
size_is part e f = ap₂ (λ (x y : ℕ). x * (y / 2)) e f

-- and their bytes have their place
fits : (part : ℕ) {wanted before out : List ℕ} {at c size : ℕ} → let K = part_of part in size ≡ step_of K * (K.columns / 2) → length before ≡ step_of K * (length wanted / 2) → c + 2 * (K.columns / 2) ≤ length wanted
    → Putting K (step_of K) (length wanted) 0 wanted before out at c → at + size ≤ length out
fits part e h l s = omega (arith, room ((part_of part).columns / 2) h l s, e)

-- there are at most 640 columns
short : (part n : ℕ) {size : ℕ} → n ≤ (part_of part).columns * (part_of part).limit → size ≡ step_of (part_of part) * (n / 2) → (size ≤ 2560) × (n ≤ 640)
short part n there e =
    let few : n ≤ 640 = omega (arith, there, group-columns part) in
    (omega (arith, e, pairs_small part n few), few)

part-long : (out : List ℕ) (at size : ℕ) → at + size ≤ length out → length (take (at + size - at) (drop at out)) ≡ size
part-long out at size h = simp (add-sub_cancel_left, length-take, length-drop) (omega arith)

pub loop-i-preserved : goal.loop-i-preserved
loop-i-preserved c = let part = c.args.part in
    let k = (part_of part).columns / 2 in
    let n = c.columns-columns.result in
    let size = c.byte_size.result * (n / 2) in
    let t = a-turn part n c.loop-i.i (length c.args.wanted.now) c.columns-columns.ensures (omega arith) in
    let is = size_is part c.byte_size.ensures c.columns-columns.ensures in
    rw (add-sub_cancel_left (size * c.loop-i.i) size)
    (turn_by k is (omega arith) (omega (arith, c.columns-columns.ensures, columns-even part)) c.requires.room t.even
    (c.put_either.auto.out ∙ part-long c.loop-i.out (size * c.loop-i.i) size (fits part is c.requires.room t.even c.loop-i.invariant))
    (c.put_either.ensures ∙ ap (λ (m : ℕ). pairs_from (part_of part) k m c.args.wanted.now) (sym (zero-add (n * c.loop-i.i)))) c.loop-i.invariant)

pub loop-i-init : goal.loop-i-init
loop-i-init c = rw (mul-zero (c.byte_size.result * (c.columns-columns.result / 2)), mul-zero c.columns-columns.result) begun

pub overflow_mul-size : goal.overflow_mul-size
overflow_mul-size c = omega (arith, size_is c.args.part c.byte_size.ensures c.columns-columns.ensures, chip-small c.args.part)

pub returns : goal.returns
returns c = done c.requires.room (all-turns c.args.part c.columns-columns.result c.loop-i.i (length c.args.wanted.now) c.columns-columns.ensures c.requires.chips (omega arith)) c.loop-i.invariant

pub nonzero_div-i-end : goal.nonzero_div-i-end
nonzero_div-i-end c = omega (arith, c.columns-columns.ensures, has_columns c.args.part)

pub overflow_mul-at : goal.overflow_mul-at
overflow_mul-at c = omega (arith, fits c.args.part (size_is c.args.part c.byte_size.ensures c.columns-columns.ensures) c.requires.room (a-turn c.args.part c.columns-columns.result c.loop-i.i (length c.args.wanted.now) c.columns-columns.ensures (omega arith)).even c.loop-i.invariant, (short c.args.part (length c.args.wanted.now) c.requires.there c.requires.room).0, c.loop-i.invariant.long)

pub overflow_add-at : goal.overflow_add-at
overflow_add-at c = omega (arith, fits c.args.part (size_is c.args.part c.byte_size.ensures c.columns-columns.ensures) c.requires.room (a-turn c.args.part c.columns-columns.result c.loop-i.i (length c.args.wanted.now) c.columns-columns.ensures (omega arith)).even c.loop-i.invariant, (short c.args.part (length c.args.wanted.now) c.requires.there c.requires.room).0, c.loop-i.invariant.long)

pub slice_bounds-put_either-end : goal.slice_bounds-put_either-end
slice_bounds-put_either-end c = fits c.args.part (size_is c.args.part c.byte_size.ensures c.columns-columns.ensures) c.requires.room (a-turn c.args.part c.columns-columns.result c.loop-i.i (length c.args.wanted.now) c.columns-columns.ensures (omega arith)).even c.loop-i.invariant

pub put_either-requires : goal.put_either-requires
put_either-requires c =
    let size = c.byte_size.result * (c.columns-columns.result / 2) in
    let is = size_is c.args.part c.byte_size.ensures c.columns-columns.ensures in
    let t = a-turn c.args.part c.columns-columns.result c.loop-i.i (length c.args.wanted.now) c.columns-columns.ensures (omega arith) in
    record {
      first = t.first;
      there = t.inside;
      few = (short c.args.part (length c.args.wanted.now) c.requires.there c.requires.room).1;
      room = part-long c.loop-i.out (size * c.loop-i.i) size (fits c.args.part is c.requires.room t.even c.loop-i.invariant) ∙ is;
    }
