-- `lent_long::in_range` meets its contract: the masks have the bits of each register that are 0 in its range, but of P and A.
-- Assumes nothing.
use mathlib.Core.Path.{ap, ◌∙◌}
use mathlib.Core.Bool.{Bool, ◌&&◌}
use Prim.Native.Nat.{ℕ, ◌+◌}
use lib.Bits.{bit_and}
use lib.Dec.{eqb, ltb, leb}
use lib.ListN.{get_or}
use Rattle.sheet.specs.Parts.{part_of}
use Rattle.sheet.specs.Registers.{in_range}
use Rattle.lent_long.proofs.Words.{low_word, high_word, regrouped}
use Rattle.lent_long.proofs.in_range.Goals as goal

pub returns : goal.returns
unfolding in_range
returns c = let bytes = c.type_inv.registers in
    let l = c.args.registers.now in
    let lows = ap (λ (w : ℕ). eqb (bit_and w 0xFEFEFE0000FCFEFE) 0) c.eight_columns.ensures ∙ low_word (λ j. get_or l (0 + j) 0) (λ j. (bytes (0 + j)).fits) in
    let highs = ap (λ (w : ℕ). eqb (bit_and w 0xFEFEFEFC) 0) c.four_columns.ensures ∙ high_word (λ j. get_or l (8 + j) 0) (λ j. (bytes (8 + j)).fits) in
    let K = part_of c.args.part in
    let below : ℕ → ℕ → Bool = λ j n. ltb (get_or l j 0) n in
    (λ i. lows i && highs i && ltb (get_or l 3 0) (c.columns.ensures i) && leb (get_or l 4 0) (c.limit.ensures i))
    ∙ regrouped (below 0 2) (below 1 2) (below 2 4) (below 3 K.columns) (leb (get_or l 4 0) K.limit) (below 5 2) (below 6 2) (below 7 2) (below 8 4) (below 9 2 && (below 10 2 && below 11 2))
