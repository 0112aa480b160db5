-- What the chips of a list say of a byte.
-- Assumes nothing.
use mathlib.Core.Path.{◌≡◌, refl, ap}
use mathlib.Core.Bool.{cond}
use mathlib.Core.List.{List, [], ◌∷◌}
use Prim.Native.Nat.{ℕ}
use Rattle.sheet.specs.declared.Chip.{Chip}
use Rattle.sheet.specs.Results.{Acknowledger}
use Rattle.sheet.specs.Plain.{lower, smallest}
use Rattle.turns.specs.declared.BusByte.{BusByte}
use Rattle.turns.specs.Asking.{answers, said_by}

-- who acknowledges it is the smallest subaddress
pub who-is : (h : BusByte) (most : ℕ) (cs : List Chip) → (said_by h most cs).who ≡ smallest (answers h) cs
unfolding said_by smallest
who-is h most [] = refl
who-is h most (c ∷ cs) = ap (λ (w : Acknowledger). cond (answers h c) (lower c.subaddress w) w) (who-is h most cs)
