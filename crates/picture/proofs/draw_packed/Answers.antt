-- `picture::draw_packed` meets its contract: as `draw`, over the columns that the bytes hold; a turn's columns are written before they are counted.
-- Assumes nothing.
use mathlib.Core.Path.{◌≡◌, refl, ap, ◌∙◌}
use mathlib.Core.List.{List, ◌++◌}
use Prim.Native.Nat.{ℕ, ◌+◌, ◌-◌, ◌*◌, ◌%◌, ◌≤◌, ◌<◌}
use native.Mathlib.Omega.{arith}
use lib.ListN.{length, take, drop, length-take, length-drop}
use Rattle.lemmas.proofs.Mapped.{Mapped}
use Rattle.std.specs.Prelude.{Some}
use Rattle.sheet.specs.Pictures.{lit}
use Rattle.packed_sheet.specs.Packed.{unpacked}
use Rattle.laws.proofs.Packed.{length-unpacked, unpacked-part}
use Rattle.picture.specs.Drawn.{rows_of}
use Rattle.picture.proofs.Drawing.{written-turn, written-part, rows-low, begun, few, parts-turn, done}
use Rattle.picture.proofs.draw_packed.Goals as goal

-- a turn's columns are written
written : (first height start : ℕ) (ram : List ℕ) {out some : List ℕ} → Mapped (lit height (Some first)) (unpacked ram) out (2 * start) → start + 40 ≤ length ram
    → some ≡ rows_of first height (unpacked (take (start + 40 - start) (drop start ram)))
    → Mapped (lit height (Some first)) (unpacked ram) (take (2 * start) out ++ (some ++ drop (2 * (start + 40) - 2 * start) (drop (2 * start) out))) (2 * (start + 40))
written first height start ram d h e =
    written-turn (2 * start) (2 * (start + 40)) d (omega arith) (omega (arith, length-unpacked ram))
    (e ∙ ap (λ (r : List ℕ). rows_of first height r) (unpacked-part start (start + 40) ram))

-- and they are there
whole : (start : ℕ) (ram : List ℕ) → start < length ram → start % 40 ≡ 0 → length (unpacked ram) % 80 ≡ 0 → start + 40 ≤ length ram
whole start ram h e f = omega (arith, length-unpacked ram)

pub draw_pairs-requires : goal.draw_pairs-requires
draw_pairs-requires c = let pre = c.requires in
    (simp (length-take, length-drop, length-unpacked) (omega (arith, c.loop-start.invariant.0.mapped.size, length-unpacked c.args.ram.now)), pre.below, omega (arith, pre.rows))

pub count_some-ones-requires : goal.count_some-ones-requires
count_some-ones-requires c = let start = c.loop-start.start in
    (simp (length-take, length-drop) (omega arith), rw (written-part (2 * start) (2 * start + 48) (written c.args.first c.args.height c.loop-start.start c.args.ram.now c.loop-start.invariant.0.mapped (whole c.loop-start.start c.args.ram.now c.loop-start-test.true c.loop-start.invariant.1 c.requires.turns) c.draw_pairs.ensures) (omega arith) (omega (arith, whole c.loop-start.start c.args.ram.now c.loop-start-test.true c.loop-start.invariant.1 c.requires.turns, length-unpacked c.args.ram.now))) (rows-low c.args.first c.args.height (take (2 * start + 48 - 2 * start) (drop (2 * start) (unpacked c.args.ram.now))) c.requires.rows))

pub count_some-others-requires : goal.count_some-others-requires
count_some-others-requires c = let start = c.loop-start.start in
    (simp (length-take, length-drop) (omega arith), rw (written-part (2 * start + 48) (2 * (start + 40)) (written c.args.first c.args.height c.loop-start.start c.args.ram.now c.loop-start.invariant.0.mapped (whole c.loop-start.start c.args.ram.now c.loop-start-test.true c.loop-start.invariant.1 c.requires.turns) c.draw_pairs.ensures) (omega arith) (omega (arith, whole c.loop-start.start c.args.ram.now c.loop-start-test.true c.loop-start.invariant.1 c.requires.turns, length-unpacked c.args.ram.now))) (rows-low c.args.first c.args.height (take (2 * (start + 40) - (2 * start + 48)) (drop (2 * start + 48) (unpacked c.args.ram.now))) c.requires.rows))

pub overflow_add-lit-in-loop-start : goal.overflow_add-lit-in-loop-start
overflow_add-lit-in-loop-start c = omega (arith, few c.loop-start.invariant.0 c.requires.rows, length-unpacked c.args.ram.now)

pub loop-start-preserved : goal.loop-start-preserved
loop-start-preserved c = let start = c.loop-start.start in
    (parts-turn c.loop-start.invariant.0 (2 * start + 48) (omega arith) (omega arith) (written c.args.first c.args.height start c.args.ram.now c.loop-start.invariant.0.mapped (whole c.loop-start.start c.args.ram.now c.loop-start-test.true c.loop-start.invariant.1 c.requires.turns) c.draw_pairs.ensures) c.count_some-ones.ensures c.count_some-others.ensures, omega (arith, c.loop-start.invariant.1), whole c.loop-start.start c.args.ram.now c.loop-start-test.true c.loop-start.invariant.1 c.requires.turns)

pub returns : goal.returns
returns c = done c.loop-start.invariant.0 (omega (arith, c.loop-start-test.false, length-unpacked c.args.ram.now, c.requires.turns))

pub loop-start-init : goal.loop-start-init
loop-start-init c = (begun c.requires.size, refl, omega arith)

pub slice_bounds-draw_pairs-end-in-loop-start : goal.slice_bounds-draw_pairs-end-in-loop-start
slice_bounds-draw_pairs-end-in-loop-start c = omega (arith, length-unpacked c.args.ram.now, c.loop-start.invariant.0.mapped.size)

pub slice_bounds-draw_pairs-end : goal.slice_bounds-draw_pairs-end
slice_bounds-draw_pairs-end c = whole c.loop-start.start c.args.ram.now c.loop-start-test.true c.loop-start.invariant.1 c.requires.turns

pub returns-2 : goal.returns-2
returns-2 c = let start = c.loop-start.start in
    let room = whole start c.args.ram.now c.loop-start-test.true c.loop-start.invariant.1 c.requires.turns in
    done (parts-turn c.loop-start.invariant.0 (2 * start + 48) (omega arith) (omega arith) (written c.args.first c.args.height start c.args.ram.now c.loop-start.invariant.0.mapped room c.draw_pairs.ensures) c.count_some-ones.ensures c.count_some-others.ensures) (omega (arith, length-unpacked c.args.ram.now))
