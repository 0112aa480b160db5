-- too_many: by what the check of the part answers.
-- Assumes nothing.
use mathlib.Core.Path.{refl, sym, ◌∙◌}
use Rattle.plain.proofs.too_many.Goals as goal

pub returns-in-Err : goal.returns-in-Err
returns-in-Err c = rw (sym c.check_part.ensures ∙ c.in-Err.is) refl

pub returns-in-Ok : goal.returns-in-Ok
returns-in-Ok c = rw (sym c.check_part.ensures ∙ c.in-Ok.is) refl
