-- `gather::pair_bytes` meets its contract.
-- Assumes nothing.
use mathlib.Core.Path.{ap, ◌∙◌}
use native.Mathlib.Omega.{arith}
use lib.Bits.{and_le_r}
use Rattle.gather.specs.Gathered.{turned_three}
use Rattle.gather.proofs.Exchanged.{spread_four, pair_words}
use Rattle.gather.proofs.pair_bytes.Goals as goal

pub overflow_mul-pairs : goal.overflow_mul-pairs
overflow_mul-pairs c = omega (arith, and_le_r c.four_pairs-pairs.result 0x70707070)

pub overflow_mul-pairs-2 : goal.overflow_mul-pairs-2
overflow_mul-pairs-2 c = omega (arith, and_le_r c.four_pairs-pairs.result 0x07070707)

pub overflow_add-pairs : goal.overflow_add-pairs
overflow_add-pairs c = omega (arith, and_le_r c.four_pairs-pairs.result 0x70707070, and_le_r c.four_pairs-pairs.result 0x07070707)

pub returns : goal.returns
returns c = let a = c.args in c.turned_three.ensures ∙ ap (λ (w : _). turned_three (spread_four w)) c.four_pairs-pairs.ensures ∙ pair_words a.at a.columns.now
