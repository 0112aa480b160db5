-- `checks::blocks_passed` meets its contract: what is left from column i on gives the whole answer.
-- Assumes nothing.
use mathlib.Core.Path.{◌≡◌, ap, subst, ◌∙◌}
use mathlib.Core.List.{List, [], ◌∷◌}
use Prim.Native.Nat.{ℕ, zero, suc, ◌+◌, ◌-◌, ◌*◌, ◌/◌, ◌≤◌}
use native.Mathlib.Nat.{add-sub_cancel_left}
use native.Mathlib.Omega.{arith}
use lib.ListN.{length, length-drop, take, drop}
use lib.Seq.{drop-drop}
use borrow.Author.Tests.{le-ltb}
use Rattle.checks.specs.Highest.{highest_of, first_over}
use Rattle.checks.proofs.blocks_passed.Goals as goal

-- the first n columns, none of them over 15, decide nothing
passed_over : (n : ℕ) (l : List ℕ) → n ≤ length l → highest_of (take n l) ≤ 15 → n + first_over (drop n l) ≡ first_over l
unfolding highest_of first_over
passed_over zero l le h = omega arith
passed_over (suc n) [] le h = omega arith
passed_over (suc n) (q ∷ qs) le h = rw (le-ltb 15 q (omega arith)) (omega (arith, passed_over n qs (omega arith) (omega arith)))

block : (l : List ℕ) (i : ℕ) → 32 ≤ length l - i → highest_of (take (i + 32 - i) (drop i l)) ≤ 15 → i + 32 + first_over (drop (i + 32) l) ≡ i + first_over (drop i l)
block l i le h =
    let e : 32 + first_over (drop 32 (drop i l)) ≡ first_over (drop i l) = passed_over 32 (drop i l) (omega (arith, length-drop i l)) (rw (← add-sub_cancel_left i 32) h) in
    omega (arith, e, ap first_over (drop-drop 32 i l))

pub loop-block-init : goal.loop-block-init
loop-block-init c = omega arith

pub loop-block-preserved : goal.loop-block-preserved
loop-block-preserved c = let columns = c.args.columns.now in
    let start = 32 * c.loop-block.block in
    let next : 32 * (c.loop-block.block + 1) ≡ start + 32 = omega arith in
    rw next (block columns start (omega (arith, c.loop-block-test.true)) (omega (arith, c.highest.ensures, c.if-highest-gt15.false)) ∙ c.loop-block.invariant)

pub returns-then-highest-gt15 : goal.returns-then-highest-gt15
returns-then-highest-gt15 c = (c.loop-block.invariant, omega (arith, c.loop-block-test.true))

pub returns : goal.returns
returns c = let columns = c.args.columns.now in
    let all : c.loop-block.block ≡ length columns / 32 = omega (arith, c.loop-block-test.false, c.loop-block.auto.block-end) in
    (subst (λ (k : ℕ). 32 * k + first_over (drop (32 * k) columns) ≡ first_over columns) all c.loop-block.invariant, omega arith)
