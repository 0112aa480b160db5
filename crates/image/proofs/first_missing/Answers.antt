-- `image::first_missing` meets its contract: the first place over 15, by its own number.
-- Assumes nothing.
use mathlib.Core.Path.{◌≡◌, refl, ap, ◌∙◌}
use mathlib.Core.Bool.{Bool, true, false, cond}
use mathlib.Core.List.{List, [], ◌∷◌}
use Prim.Native.Nat.{ℕ, suc, ◌+◌}
use native.Mathlib.Nat.{add-zero, add-suc, suc-add}
use native.Mathlib.Omega.{arith}
use lib.Dec.{ltb, eqb, eqb-suc-suc, eqb-zero-suc}
use lib.ListN.{length}
use Rattle.sheet.specs.declared.Refusal.TheVariants.{AddressMissing}
use Rattle.std.specs.Prelude.{Err}
use Rattle.sheet.specs.Checks.{unless}
use Rattle.checks.specs.Highest.{first_over}
use Rattle.image_sheet.specs.Images.{missing_in}
use Rattle.image.proofs.first_missing.Goals as goal

first-missing : (i : ℕ) (given : List ℕ) → unless (eqb (first_over given) (length given)) (AddressMissing (i + first_over given)) ≡ missing_in i given
unfolding first_over missing_in
first-missing i [] = refl
first-missing i (q ∷ qs) = by_place (ltb 15 q) (first-missing (suc i) qs)
  where
    by_place : (over : Bool) → unless (eqb (first_over qs) (length qs)) (AddressMissing (suc i + first_over qs)) ≡ missing_in (suc i) qs
        → unless (eqb (cond over 0 (suc (first_over qs))) (suc (length qs))) (AddressMissing (i + cond over 0 (suc (first_over qs)))) ≡ cond over (Err (AddressMissing i)) (missing_in (suc i) qs)
    by_place true later = rw (eqb-zero-suc (length qs), add-zero i) refl
    by_place false later = rw (eqb-suc-suc (first_over qs) (length qs), add-suc i (first_over qs), ← suc-add i (first_over qs)) later

pub returns : goal.returns
returns c = let place = c.search_over-place in
    let given = c.args.given.now in
    c.unless.ensures ∙ ap (λ (p : ℕ). unless (eqb p (length given)) (AddressMissing p)) place.ensures
    ∙ ap (λ (p : ℕ). unless (eqb (first_over given) (length given)) (AddressMissing p)) {y = 0 + first_over given} (omega arith) ∙ first-missing 0 given
