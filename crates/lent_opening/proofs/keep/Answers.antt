-- `lent_opening::keep` meets its contract: the words hold the twelve bytes.
-- Assumes nothing.
use mathlib.Core.Path.{◌∙◌}
use Rattle.lent_opening.specs.Held.{held_in}
use Rattle.lent_opening.proofs.Twelve.{held}
use Rattle.lent_opening.proofs.keep.Goals as goal

pub returns : goal.returns
returns c = let l = c.args.set.now in
    (λ i. held_in (record { first = c.four_columns.ensures i; second = c.four_columns-2.ensures i; third = c.four_columns-3.ensures i })) ∙ held l c.requires (λ i. (c.type_inv.set i).fits)
