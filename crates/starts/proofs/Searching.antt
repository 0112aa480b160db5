-- The first chip of a list of which f holds: whether there is one, and the place that a search finds.
-- Assumes nothing.
use mathlib.Core.Path.{◌≡◌, refl, sym, ap, ◌∙◌}
use mathlib.Core.Bool.{Bool, true, false, cond, not, ◌||◌}
use mathlib.Core.List.{List, [], ◌∷◌}
use Prim.Native.Nat.{ℕ, zero, suc, ◌<◌, ◌≤◌}
use native.Mathlib.Omega.{arith}
use lib.Dec.{ltb, leb-zero, leb-suc-suc}
use lib.ListN.{length}
use mathlib.Core.Logic.{⊎_elim}
use borrow.Author.Tests.{lt-ltb, le-ltb}
use Rattle.std.specs.Prelude.{Option, Some, None}
use Rattle.std.specs.Option.{unwrap_or}
use Rattle.std.specs.List.{position, position_or_len}
use Rattle.std.proofs.lemmas.List.Recursion.{is_position_or_len}
use Rattle.std.proofs.lemmas.List.Folds.{length-prefix_len}
use lib.ListN.{length-take}
use Rattle.lemmas.proofs.Order.{lt_or_le}
use Rattle.sheet.specs.declared.Chip.{Chip}
use Rattle.sheet.specs.Plain.{any}
use Rattle.starts.specs.Questions.{first_yes}

-- f holds of some chip exactly if the first lies within the list
pub any-first : (f : Chip → Bool) (cs : List Chip) → any f cs ≡ ltb (first_yes f cs) (length cs)
unfolding first_yes
any-first f [] = refl
any-first f (c ∷ cs) = by-test (f c) (any f cs) (first_yes f cs) (length cs) (any-first f cs)
  where
    by-test : (t u : Bool) (n m : ℕ) → u ≡ ltb n m → (t || u) ≡ ltb (cond t zero (suc n)) (suc m)
    by-test true u n m e = sym (leb-suc-suc zero m ∙ leb-zero m)
    by-test false u n m e = e ∙ sym (leb-suc-suc (suc n) m)

is-place : (f : Chip → Bool) (cs : List Chip) → first_yes f cs ≡ position_or_len f cs
unfolding first_yes
is-place f cs = is_position_or_len (first_yes f) f refl (λ x xs. ap (λ (n : ℕ). cond (f x) 0 n) (omega arith)) cs

-- the place that a search finds, or the count
pub first-place : (f : Chip → Bool) (cs : List Chip) {found : Option ℕ} → found ≡ position f cs → unwrap_or found (length cs) ≡ first_yes f cs
first-place f cs e = ap (λ (o : Option ℕ). unwrap_or o (length cs)) e ∙ or-count (position_or_len f cs) (length cs) no-longer ∙ sym (is-place f cs)
  where
    or-count : (n m : ℕ) → n ≤ m → unwrap_or (cond (ltb n m) (Some n) None) m ≡ n
    or-count n m h = ⊎_elim (λ (l : n < m). rw (lt-ltb n m l) refl) (λ (l : m ≤ n). rw (le-ltb n m l) (omega arith)) (lt_or_le n m)

    no-longer : position_or_len f cs ≤ length cs
    no-longer = omega (arith, length-prefix_len (λ c. not (f c)) cs, length-take (position_or_len f cs) cs)
