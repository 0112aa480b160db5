-- `gather::four_data` meets its contract: two columns a byte, and then their rows turned.
-- Assumes nothing.
use mathlib.Core.Path.{ap, ◌∙◌}
use mathlib.Core.List.{List, map}
use Prim.Native.Nat.{ℕ}
use lib.ListN.{length}
use Rattle.gather.specs.Gathered.{turned_four}
use Rattle.gather.proofs.Exchanged.{four-turned}
use Rattle.gather.proofs.four_data.Goals as goal

pub returns : goal.returns
returns c = let a = c.args in
    c.turn_pairs.ensures ∙ ap (λ (l : List ℕ). map turned_four l) c.put_pairs.ensures ∙ four-turned (length a.out.now) a.columns.now
