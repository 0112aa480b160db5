-- `hexadecimal::are_digits` meets its contract: each character passes the test that the definition makes of it.
-- Assumes nothing.
use Rattle.std.proofs.Common.{◌∙◌, ℕ, rules, tests, nat_lt}
use Rattle.std.proofs.lemmas.Iterator.{YieldsList-from_slice}
use Rattle.std.proofs.lemmas.Iterator.Search.{all_from_yields_List}
use Rattle.image_sheet.specs.Images.{value_of}
use Rattle.hexadecimal.proofs.Digits.{all-digits}
use Rattle.hexadecimal.proofs.are_digits.Goals as goal

pub returns : goal.returns
returns c =
    all_from_yields_List (λ (x : ℕ). nat_lt (value_of x) 16) _ _ c.all.result c.all.ensures.ran (YieldsList-from_slice c.args.text.now cc) (λ x b q k. search (rules, tests))
    ∙ all-digits c.args.text.now
