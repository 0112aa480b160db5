-- found: each place is the first that passes its test.
-- Assumes nothing.
use Rattle.std.proofs.Common.{◌≡◌, ◌∙◌, rules, tests, length}
use Rattle.std.specs.List.{position}
use Rattle.std.proofs.lemmas.Iterator.{YieldsList-from_slice}
use Rattle.std.proofs.lemmas.Iterator.Search.{position_from_yields_List}
use Rattle.sheet.specs.Plain.{hears}
use Rattle.starts.specs.Questions.{misfits, high_unknown, low_unknown, device_unknown}
use Rattle.starts.proofs.Searching.{first-place}
use Rattle.plain.proofs.found.Goals as goal

pub returns : goal.returns
returns c =
    let cs = c.args.chips.now in
    let misfit : c.position.result ≡ position (misfits c.args.part) cs = position_from_yields_List (misfits c.args.part) _ _ c.position.result c.position.ensures.ran (YieldsList-from_slice cs cc) (λ x b q k. search (rules, tests)) in
    let hearer : c.position-2.result ≡ position (hears c.args.called) cs = position_from_yields_List (hears c.args.called) _ _ c.position-2.result c.position-2.ensures.ran (YieldsList-from_slice cs cc) (λ x b q k. search (rules, tests)) in
    let high : c.position-3.result ≡ position (high_unknown c.args.called) cs = position_from_yields_List (high_unknown c.args.called) _ _ c.position-3.result c.position-3.ensures.ran (YieldsList-from_slice cs cc) (λ x b q k. search (rules, tests)) in
    let low : c.position-4.result ≡ position (low_unknown c.args.called) cs = position_from_yields_List (low_unknown c.args.called) _ _ c.position-4.result c.position-4.ensures.ran (YieldsList-from_slice cs cc) (λ x b q k. search (rules, tests)) in
    let device : c.position-5.result ≡ position (device_unknown c.args.called) cs = position_from_yields_List (device_unknown c.args.called) _ _ c.position-5.result c.position-5.ensures.ran (YieldsList-from_slice cs cc) (λ x b q k. search (rules, tests)) in
    λ j. record {
      count = length cs;
      misfit = (c.unwrap_or.ensures ∙ first-place (misfits c.args.part) cs misfit) j;
      hearer = (c.unwrap_or-2.ensures ∙ first-place (hears c.args.called) cs hearer) j;
      high = (c.unwrap_or-3.ensures ∙ first-place (high_unknown c.args.called) cs high) j;
      low = (c.unwrap_or-4.ensures ∙ first-place (low_unknown c.args.called) cs low) j;
      device = (c.unwrap_or-5.ensures ∙ first-place (device_unknown c.args.called) cs device) j;
    }
