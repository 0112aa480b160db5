-- `gather::put_pairs` meets its contract: after j turns the first j bytes are there.
-- Assumes nothing.
use mathlib.Core.Path.{◌≡◌, refl, ap₂, ◌∙◌}
use mathlib.Core.List.{List, [], ◌∷◌, ◌++◌}
use Prim.Native.Nat.{ℕ, ◌+◌, ◌*◌, ◌<◌}
use native.Mathlib.Numerals.{add-one}
use native.Mathlib.Omega.{arith}
use lib.ListN.{length, set, take, length-set}
use lib.Seq.{take-suc-set}
use Rattle.gather.specs.Gathered.{pair_at, pairs_at}
use Rattle.gather.proofs.put_pairs.Goals as goal

begun : (columns out : List ℕ) → take 0 out ≡ pairs_at 0 columns
unfolding pairs_at
begun columns out = refl

turn : (columns before out : List ℕ) (j x : ℕ) → j < length before → length out ≡ length before → x ≡ pair_at columns (2 * j) → take j out ≡ pairs_at j columns → take (j + 1) (set out j x) ≡ pairs_at (j + 1) columns
unfolding pairs_at
turn columns before out j x h e is s = rw (add-one j, take-suc-set out j x (omega (arith, h, e))) (ap₂ (λ (l : List ℕ) (y : ℕ). l ++ (y ∷ [])) s is)

pub loop-j-init : goal.loop-j-init
loop-j-init c = (begun c.args.columns.now c.args.out.now, refl)

pub loop-j-preserved : goal.loop-j-preserved
loop-j-preserved c = (turn _ c.args.out.now _ _ _ c.loop-j-test.true c.loop-j.invariant.1 c.pair_of.ensures c.loop-j.invariant.0, length-set c.loop-j.out c.loop-j.j c.pair_of.result ∙ c.loop-j.invariant.1)
