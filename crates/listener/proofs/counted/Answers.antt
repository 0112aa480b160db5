-- `listener::counted` meets its contract, by the law of what a run counts at once.
-- Assumes nothing.
use mathlib.Core.Path.{◌≡◌, refl, sym, ◌∙◌}
use Prim.Native.Nat.{ℕ, ◌+◌, ◌-◌, ◌*◌, ◌/◌, ◌%◌, ◌≤◌, ◌<◌, min}
use native.Mathlib.Omega.{arith}
use native.Mathlib.Nat.{mod-lt}
use Rattle.sheet.specs.declared.Counts.{Counts}
use Rattle.sheet.specs.Data.{width_of}
use Rattle.sheet.specs.Runs.{counted_run}
use Rattle.laws.proofs.Counts.{width-less, stored_of, tallied, counted-at-once}
use Rattle.listener.proofs.counted.Goals as goal

-- the columns left after the whole bytes have fewer than eight bits
rest_lt : (m left w : ℕ) → 0 < m → w ≡ width_of m → m * (left % w) < 8
rest_lt m left w p e = rw e (width-less m (left % width_of m) p (mod-lt left (omega arith)))

whole_run : (t : Counts) (m n left : ℕ) → n ≤ left / width_of m
    → ◌≡◌ {A = Counts} (record { acknowledged = t.acknowledged + n; stored = t.stored + 8 * n; discarded = t.discarded }) (tallied n m left t)
whole_run t m n left h =
    let a : n ≡ min n (left / width_of m) = omega arith in
    let s : 8 * n ≡ stored_of n m left = omega arith in
    let d : t.discarded ≡ t.discarded + (8 * n - stored_of n m left) = omega arith in
    λ i. record { acknowledged = t.acknowledged + a i; stored = t.stored + s i; discarded = d i }

cut-run : (t : Counts) (m n left : ℕ) → 0 < m → left / width_of m < n
    → ◌≡◌ {A = Counts}
    (record {
      acknowledged = t.acknowledged + left / width_of m;
      stored = t.stored + (8 * (left / width_of m) + m * (left % width_of m));
      discarded = t.discarded + (8 * n - (8 * (left / width_of m) + m * (left % width_of m)));
    })
    (tallied n m left t)
cut-run t m n left p h =
    let a : left / width_of m ≡ min n (left / width_of m) = omega arith in
    let s : 8 * (left / width_of m) + m * (left % width_of m) ≡ stored_of n m left = omega (arith, rest_lt m left (width_of m) p refl) in
    λ i. record { acknowledged = t.acknowledged + a i; stored = t.stored + s i; discarded = t.discarded + (8 * n - s i) }

as-defined : (t : Counts) (v size m n left : ℕ) → 0 < m → left ≡ size - v → tallied n m left t ≡ counted_run n m v size t
as-defined t v size m n left p e = rw e (sym (counted-at-once n m v size t p))

pub returns-then-n-whole : goal.returns-then-n-whole
returns-then-n-whole c = let a = c.args in
    whole_run a.counts a.m a.n c.columns_from-left.result (rw (← c.width-w.ensures) c.if-n-whole.true) ∙ as-defined a.counts a.v a.size a.m a.n c.columns_from-left.result c.requires.some c.columns_from-left.ensures

pub returns-else-n-whole : goal.returns-else-n-whole
returns-else-n-whole c = let a = c.args in
    rw c.width-w.ensures
    (cut-run a.counts a.m a.n c.columns_from-left.result c.requires.some (rw (← c.width-w.ensures) c.if-n-whole.false) ∙ as-defined a.counts a.v a.size a.m a.n c.columns_from-left.result c.requires.some c.columns_from-left.ensures)
