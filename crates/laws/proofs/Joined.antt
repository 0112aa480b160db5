-- A transfer in two parts: its bytes are heard as the first part's and then the rest's.
-- Assumes nothing.
use mathlib.Core.Path.{◌≡◌, refl}
use mathlib.Core.List.{List, [], ◌∷◌, ◌++◌}
use Prim.Native.Nat.{ℕ}
use Rattle.sheet.specs.declared.Expect.{Expect}
use Rattle.sheet.specs.Parts.{Part}
use Rattle.sheet.specs.Protocol.{next, next_after}
use Rattle.sheet.specs.Long.{Group, byte, heard}

pub next-joined : (e : Expect) (xs ys : List ℕ) → next_after e (xs ++ ys) ≡ next_after (next_after e xs) ys
next-joined e [] ys = refl
next-joined e (x ∷ xs) ys = next-joined (next e x) xs ys

pub heard-joined : (K : Part) (e : Expect) (xs ys : List ℕ) (g : Group) → heard K e (xs ++ ys) g ≡ heard K (next_after e xs) ys (heard K e xs g)
unfolding heard
heard-joined K e [] ys g = refl
heard-joined K e (x ∷ xs) ys g = heard-joined K (next e x) xs ys (byte K e x g)
