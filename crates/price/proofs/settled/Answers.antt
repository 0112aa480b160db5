-- `price::settled` meets its contract: a refusal puts back what was before.
-- Assumes nothing.
use mathlib.Core.Path.{refl, ap}
use mathlib.Core.List.{List, ◌++◌}
use Prim.Native.Nat.{ℕ}
use lib.ListN.{length, drop}
use Rattle.std.specs.Prelude.{Err}
use Rattle.price.specs.Fronts.{settled}
use Rattle.price.proofs.settled.Goals as goal

pub returns-in-Ok : goal.returns-in-Ok
unfolding settled
returns-in-Ok c = rw c.in-Ok.is refl

pub returns-in-Err : goal.returns-in-Err
unfolding settled
returns-in-Err c = rw c.in-Err.is (ap (λ (l : List ℕ). record { result = Err c.in-Err.refusal; out = l ++ drop (length c.args.before.now) c.args.out.now }) c.copy_from_slice.ensures.after)
