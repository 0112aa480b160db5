-- `gather::four_pairs` meets its contract.
-- Assumes nothing.
use mathlib.Core.Path.{◌≡◌, ap}
use Prim.Native.Nat.{ℕ, ◌+◌}
use native.Mathlib.Nat.{add-zero, add_assoc}
use native.Mathlib.Omega.{arith}
use Rattle.words.specs.Fields.{joined}
use Rattle.gather.specs.Gathered.{pair_at}
use Rattle.gather.proofs.four_pairs.Goals as goal

pub returns : goal.returns
unfolding joined
returns c = let a = c.args in
    let p : ℕ → ℕ = pair_at a.columns.now in
    let first : p (a.at + 0) ≡ p a.at = ap p (add-zero a.at) in
    let last : p (a.at + 4 + 2) ≡ p (a.at + 6) = ap p (add_assoc a.at 4 2) in
    omega (arith, c.two_pairs.ensures.value, c.two_pairs-2.ensures.value, first, last)
