-- What the checks answer by whether registers fit is what they answer to the registers.
-- Assumes nothing.
use mathlib.Core.Path.{◌≡◌, sym, ap, ◌∙◌}
use mathlib.Core.Bool.{Bool}
use mathlib.Core.List.{List}
use Prim.Native.Nat.{ℕ}
use Rattle.sheet.specs.declared.Both.{Both}
use Rattle.sheet.specs.declared.Chips.{Chips}
use Rattle.sheet.specs.declared.Refusal.{Refusal}
use Rattle.sheet.specs.declared.Refusal.TheVariants.{Register}
use Rattle.std.specs.Prelude.{Err, Ok}
use Rattle.sheet.specs.Results.{Check}
use Rattle.sheet.specs.Parts.{Part, part_of}
use Rattle.sheet.specs.Checks.{unless, or_else, check_part, check_chips, check_registers, check_state, check_picture}
use Rattle.laws.proofs.First.{three-refused, three-passed}
use Rattle.refused.specs.Fitting.{fitting, state_by, picture_by}

module _ (K : Part) (n : Chips) (r : Both) (fit : Bool) (e : fit ≡ fitting K r) (ram : List ℕ) where
  pub state-by : state_by K n fit ram ≡ check_state K n r ram
  unfolding check_state check_registers
  state-by = rw e

  pub picture-by : (group phase size : ℕ) → picture_by K n fit ram group phase size ≡ check_picture K n r ram group phase size
  unfolding check_picture check_state check_registers
  picture-by group phase size = rw e

-- what comes after 16, 3 and 6, of which the first check answered by whether the registers fit
module _ (part : ℕ) (n : Chips) (r : Both) {fit : Bool} (e : fit ≡ fitting (part_of part) r) {first : Check} (told : first ≡ or_else (check_part part) (or_else (check_chips (part_of part) n) (unless fit Register))) (rest : Check) where
  asked : first ≡ or_else (check_part part) (or_else (check_chips (part_of part) n) (check_registers (part_of part) r))
  unfolding check_registers
  asked = told ∙ ap (λ (k : Bool). or_else (check_part part) (or_else (check_chips (part_of part) n) (unless k Register))) e

  pub rest-refused : (x : Refusal) → first ≡ Err x → Err x ≡ or_else (check_part part) (or_else (check_chips (part_of part) n) (or_else (check_registers (part_of part) r) rest))
  rest-refused x f = three-refused (check_part part) (check_chips (part_of part) n) (check_registers (part_of part) r) rest x (sym asked ∙ f)

  pub rest-passed : (k : Check) → first ≡ Ok tt → k ≡ rest → k ≡ or_else (check_part part) (or_else (check_chips (part_of part) n) (or_else (check_registers (part_of part) r) rest))
  rest-passed k f is = three-passed (check_part part) (check_chips (part_of part) n) (check_registers (part_of part) r) rest k (sym asked ∙ f) is
