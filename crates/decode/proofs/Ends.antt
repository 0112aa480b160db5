-- The ends of a part's ranges tell its commands: computed for each of the 256 bytes.
-- Assumes nothing.
use mathlib.Core.Path.{◌≡◌, refl}
use mathlib.Core.Bool.{Bool, true, false}
use Prim.Native.Nat.{ℕ, ◌<◌}
use lib.Dec.{T}
use Rattle.lemmas.proofs.Tests.{all, all-at}

-- two tests alike
abbrev pub alike : Bool → Bool → Bool
alike true b = b
alike false true = false
alike false false = true

same : (a b : Bool) → T (alike a b) → a ≡ b
same true true t = refl
same true false t = absurd t
same false true t = absurd t
same false false t = refl

-- at every byte
pub told-alike : (f g : ℕ → Bool) → T (all 256 (λ x. alike (f x) (g x))) → (x : ℕ) → x < 256 → f x ≡ g x
told-alike f g t x h = same (f x) (g x) (all-at 256 (λ y. alike (f y) (g y)) t x h)
