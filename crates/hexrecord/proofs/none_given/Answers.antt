-- `hexrecord::none_given` meets its contract: each column passes the test that the definition makes of it.
-- Assumes nothing.
use Rattle.std.proofs.Common.{◌≡◌, ◌∙◌, List, [], ◌∷◌, ℕ, Bool, rules, tests, refl, ap, nat_lt}
use Rattle.std.specs.Prelude.{◌&&◌}
use Rattle.std.specs.List.{list_all}
use Rattle.std.proofs.lemmas.Iterator.{YieldsList-from_slice}
use Rattle.std.proofs.lemmas.Iterator.Search.{all_from_yields_List}
use Rattle.image_sheet.specs.Images.{none_given}
use Rattle.hexrecord.proofs.none_given.Goals as goal

all-over : (columns : List ℕ) → list_all (λ (q : ℕ). nat_lt 15 q) columns ≡ none_given columns
unfolding none_given
all-over [] = refl
all-over (q ∷ qs) = ap (λ (b : Bool). nat_lt 15 q && b) (all-over qs)

pub returns : goal.returns
returns c =
    all_from_yields_List (λ (q : ℕ). nat_lt 15 q) _ _ c.all.result c.all.ensures.ran (YieldsList-from_slice c.args.columns.now cc) (λ x b q k. search (rules, tests))
    ∙ all-over c.args.columns.now
