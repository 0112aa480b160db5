-- `lent_opening::take_back` meets its contract: the twelve bytes are those of the words.
-- Assumes nothing.
use mathlib.Core.Path.{ap, ◌∙◌}
use Rattle.words.specs.Fields.{laid}
use Rattle.lent_opening.proofs.Twelve.{stored}
use Rattle.lent_opening.proofs.take_back.Goals as goal

pub returns : goal.returns
returns c = let k = c.args.kept in
    c.store_four-3.ensures ∙ ap (laid 4 k.third 8) (c.store_four-2.ensures ∙ ap (laid 4 k.second 4) c.store_four.ensures) ∙ stored k c.args.set.now c.requires
