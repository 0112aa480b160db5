-- `picture::draw` meets its contract: after each turn all columns before a place are written and counted, and the last turn ends at the last column.
-- Assumes nothing.
use mathlib.Core.Path.{◌≡◌, refl, subst}
use mathlib.Core.List.{List, ◌++◌}
use Prim.Native.Nat.{ℕ, ◌+◌, ◌-◌, ◌%◌, ◌≤◌, ◌<◌}
use native.Mathlib.Omega.{arith}
use lib.ListN.{length, take, drop}
use Rattle.picture.specs.Drawn.{Drawn, drawn}
use Rattle.picture.proofs.Drawing.{Drawing, begun, few, part-turn, done}
use Rattle.picture.proofs.draw.Goals as goal

-- the first part of a turn is drawn
halfway : {first height lit start ones : ℕ} {columns out some : List ℕ} → Drawing first height columns out lit start → start + 48 ≤ length columns
    → ◌≡◌ {A = Drawn} (record { lit = ones; out = some }) (drawn first height (take (start + 48 - start) (drop start columns)))
    → Drawing first height columns (take start out ++ (some ++ drop (start + 48 - start) (drop start out))) (lit + ones) (start + 48)
halfway d h e = part-turn d (omega arith) h e

-- a turn's columns are there
whole : (start n : ℕ) → start < n → start % 80 ≡ 0 → n % 80 ≡ 0 → start + 80 ≤ n
whole start n h e f = omega arith

-- the place after a turn, whichever way it is written
stands : {first height lit i j : ℕ} {columns out : List ℕ} → i ≡ j → Drawing first height columns out lit i → Drawing first height columns out lit j
stands {first} {height} {lit} {columns = columns} {out = out} e d = subst (λ (k : ℕ). Drawing first height columns out lit k) e d

-- the last turn ends at the last column
pub returns-2 : goal.returns-2
returns-2 c = let start = c.loop-start.start in
    let room = whole start (length c.args.columns.now) (omega (arith, c.loop-start-test.true)) c.loop-start.invariant.1 c.requires.turns in
    let sum : c.loop-start.lit + (c.draw_some-ones.result + c.draw_some-more.result) ≡ c.loop-start.lit + c.draw_some-ones.result + c.draw_some-more.result = omega arith in
    rw sum (done (part-turn (halfway c.loop-start.invariant.0 (omega (arith, room)) c.draw_some-ones.ensures) (omega arith) (omega (arith, room)) c.draw_some-more.ensures) (omega (arith, room)))

-- and the others where the next begins
pub loop-start-preserved : goal.loop-start-preserved
loop-start-preserved c = let start = c.loop-start.start in
    let room = whole start (length c.args.columns.now) (omega (arith, c.loop-start-test.true)) c.loop-start.invariant.1 c.requires.turns in
    let sum : c.loop-start.lit + (c.draw_some-ones.result + c.draw_some-more.result) ≡ c.loop-start.lit + c.draw_some-ones.result + c.draw_some-more.result = omega arith in
    (rw sum (stands (omega arith) (part-turn (halfway c.loop-start.invariant.0 (omega (arith, room)) c.draw_some-ones.ensures) (omega arith) (omega (arith, room)) c.draw_some-more.ensures)), omega (arith, c.loop-start.invariant.1), omega (arith, room))

pub overflow_add-lit-in-loop-start : goal.overflow_add-lit-in-loop-start
overflow_add-lit-in-loop-start c = let pre = c.requires in
    omega (arith, few c.loop-start.invariant.0 pre.rows, pre.most)

pub loop-start-init : goal.loop-start-init
loop-start-init c = (begun c.requires.size, refl, omega arith)
