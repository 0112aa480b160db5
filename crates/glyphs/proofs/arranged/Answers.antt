-- `glyphs::arranged` meets its contract: the bytes so far are those of the segments from `left` on.
-- Assumes nothing.
use mathlib.Core.Path.{◌≡◌, sym, ap, ap₂, subst, ◌∙◌}
use mathlib.Core.Bool.{Bool}
use mathlib.Core.List.{List}
use Prim.Native.Nat.{ℕ, ◌+◌, ◌-◌, ◌≤◌, ◌<◌}
use native.Mathlib.Omega.{arith}
use lib.Dec.{ltb, ltb→lt}
use lib.ListN.{length, get_or, drop, drop_of_length-le}
use borrow.Author.Rules.{rules}
use Rattle.lemmas.proofs.Lists.{next}
use Rattle.lemmas.proofs.Tests.{all, all-at}
use Rattle.glyphs.specs.Tables.{order_of, first_lit, second_lit, pushed, arranged}
use Rattle.glyphs.proofs.arranged.Goals as goal

-- one segment more
turn : (order : List ℕ) (lit left bytes : ℕ) → 0 < left → left ≤ length order → bytes ≡ arranged (drop left order) lit
    → pushed bytes lit (get_or order (left - 1) 0) ≡ arranged (drop (left - 1) order) lit
unfolding arranged
turn order lit left bytes h l e =
    let again : left - 1 + 1 ≡ left = omega arith in
    rw (next order (left - 1) (omega arith), again, e)

none : (order : List ℕ) (lit : ℕ) → length order ≡ 8 → 0 ≡ arranged (drop 8 order) lit
unfolding arranged
none order lit e = rw (drop_of_length-le order {i = 8} (omega arith))

-- each segment has a bit
abbrev there : ℕ → ℕ → Bool
there mode k = ltb 0 (get_or (order_of mode) k 0)

positive : (mode k : ℕ) (order : List ℕ) → mode < 4 → k < 8 → order ≡ order_of mode → 0 < get_or order k 0
positive mode k order h l e =
    subst (λ (o : List ℕ). 0 < get_or o k 0) (sym e)
    (ltb→lt 0 (get_or (order_of mode) k 0) (all-at 8 (there mode) (all-at 4 (λ m. all 8 (there m)) tt mode h) k l))

pub loop-i-init : goal.loop-i-init
loop-i-init c = let order = c.order_of-order.result in let eight : length order ≡ 8 = search rules in (omega arith, none order first_lit eight, none order second_lit eight)

lit-at : (c : goal.In-loop-i) → let p = c in 0 < get_or p.order_of-order.result (p.loop-i.i - 1) 0
lit-at c = let p = c in positive p.args.mode _ _ p.requires (omega (arith, p.loop-i.invariant.0, c.loop-i-test.true)) p.order_of-order.ensures

pub loop-i-preserved : goal.loop-i-preserved
loop-i-preserved c = let order = c.order_of-order.result in let eight : length order ≡ 8 = search rules in
    let fits : c.loop-i.i ≤ length order = omega (arith, c.loop-i.invariant.0) in (
      omega (arith, c.loop-i.invariant.0),
      c.pushed-first.ensures ∙ turn order first_lit c.loop-i.i c.loop-i.first c.loop-i-test.true fits c.loop-i.invariant.1,
      c.pushed-second.ensures ∙ turn order second_lit c.loop-i.i c.loop-i.second c.loop-i-test.true fits c.loop-i.invariant.2,
    )

-- all segments
whole : (mode left bytes lit : ℕ) (order : List ℕ) → left ≡ 0 → order ≡ order_of mode → bytes ≡ arranged (drop left order) lit → bytes ≡ arranged (order_of mode) lit
whole mode left bytes lit order z o e = e ∙ ap (λ (k : ℕ). arranged (drop k order) lit) z ∙ ap (λ (l : List ℕ). arranged l lit) o

pub returns : goal.returns
returns c = let z : c.loop-i.i ≡ 0 = omega (arith, c.loop-i-test.false) in
    let mode = c.args.mode in
    let o = c.order_of-order.ensures in
    ap₂ (λ (a b : ℕ). record { first = a; second = b }) (whole mode c.loop-i.i c.loop-i.first first_lit _ z o c.loop-i.invariant.1) (whole mode c.loop-i.i c.loop-i.second second_lit _ z o c.loop-i.invariant.2)

pub pushed-first-requires : goal.pushed-first-requires
pushed-first-requires c = lit-at c

pub pushed-second-requires : goal.pushed-second-requires
pushed-second-requires c = lit-at c.before
