-- What is left of a transfer.
use Rattle.std.specs.Prelude.{ℕ, suc, Bool, true, false, not, cond, ◌&&◌, List, [], ◌∷◌, Err, Ok}
use Rattle.sheet.specs.declared.Kind.{Kind}
use Rattle.sheet.specs.declared.Expect.{Expect}
use Rattle.sheet.specs.declared.Expect.TheVariants.{Control, One, All}
use Rattle.sheet.specs.declared.Refusal.TheVariants.{UndefinedCommand}
use Rattle.sheet.specs.Results.{Check}
use Rattle.sheet.specs.Parts.{Part}
use Rattle.sheet.specs.Commands.{defined}

-- all bytes that are left are data, or are commands
abbrev pub only_left : Bool → Expect → Bool
only_left of-data Control = false
only_left of-data (One k) = false
only_left of-data (All Kind.Command) = not of-data
only_left of-data (All Kind.Data) = of-data

-- the first of some bytes, from place i on, that is no command
unfoldable pub undefined_in : Part → ℕ → List ℕ → Check
undefined_in K i [] = Ok tt
undefined_in K i (x ∷ xs) = cond (defined (K.command x)) (undefined_in K (suc i) xs) (Err (UndefinedCommand i))

-- each of some bytes is one
unfoldable pub all_defined : Part → List ℕ → Bool
all_defined K [] = true
all_defined K (x ∷ xs) = defined (K.command x) && all_defined K xs
