-- `groups::Bus::end_in` meets its contract.
-- Assumes nothing.
use mathlib.Core.Path.{ap, ◌∙◌}
use mathlib.Core.Bool.{cond}
use Prim.Native.Nat.{ℕ, ◌/◌}
use Rattle.groups.proofs.Bus.end_in.Goals as goal

pub returns : goal.returns
returns c = c.byte_of.ensures ∙ ap (λ (k : ℕ). cond c.args.self.now.packed (k / 2) k) c.end_of.ensures
