-- `listener::last_of` meets its contract: of some bytes it is the last one's.
-- Assumes nothing.
use mathlib.Core.Path.{◌≡◌, sym, ap, ◌∙◌}
use Prim.Native.Nat.{ℕ, zero, suc, ◌+◌, ◌-◌, ◌*◌, ◌<◌}
use native.Mathlib.Omega.{arith}
use native.Mathlib.Nat.{not-suc-le-zero}
use Rattle.sheet.specs.Results.{Acknowledger}
use Rattle.sheet.specs.Parts.{Part, part_of}
use Rattle.sheet.specs.Data.{width_of, acknowledger}
use Rattle.sheet.specs.Runs.{last_run}
use Rattle.laws.proofs.Runs.{last-at-once}
use Rattle.listener.proofs.last_of.Goals as goal

of_none : (K : Part) (n m v size : ℕ) (before : Acknowledger) → n ≡ 0 → before ≡ last_run K n m v size before
unfolding last_run
of_none K n m v size before e = rw e

of_some : (K : Part) (n m v size : ℕ) (before : Acknowledger) → 0 < n → acknowledger K m (v + width_of m * (n - 1)) size ≡ last_run K n m v size before
of_some K zero m v size before p = absurd (not-suc-le-zero p)
of_some K (suc n) m v size before p = let less : suc n - 1 ≡ n = omega arith in rw less (sym (last-at-once K n m v size before))

pub returns-then-n-eq0 : goal.returns-then-n-eq0
returns-then-n-eq0 c = let a = c.args in of_none (part_of a.part) a.n a.m a.v a.size a.earlier c.if-n-eq0.true

pub returns-else-n-eq0 : goal.returns-else-n-eq0
returns-else-n-eq0 c = let a = c.args in
    c.acknowledger.ensures
    ∙ ap (λ (k : ℕ). acknowledger (part_of a.part) a.m (a.v + k * (a.n - 1)) a.size) c.width.ensures
    ∙ of_some (part_of a.part) a.n a.m a.v a.size a.earlier (omega (arith, c.if-n-eq0.false))
