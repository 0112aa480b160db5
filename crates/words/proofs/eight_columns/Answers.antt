-- `words::eight_columns` meets its contract: two words of four columns as one.
-- Assumes nothing.
use mathlib.Core.Path.{◌≡◌, ap₂, ◌∙◌}
use mathlib.Core.List.{List}
use Prim.Native.Nat.{ℕ, ◌+◌, ◌*◌}
use native.Mathlib.Nat.{add_assoc}
use lib.ListN.{get_or}
use Rattle.words.specs.Fields.{joined}
use Rattle.words.proofs.Words.{joined-eight}
use Rattle.words.proofs.eight_columns.Goals as goal

both : (ram : List ℕ) (at a b : ℕ) → a ≡ joined 4 (λ j. get_or ram (at + j) 0) → b ≡ joined 4 (λ j. get_or ram (at + 4 + j) 0) → a + 4294967296 * b ≡ joined 8 (λ j. get_or ram (at + j) 0)
both ram at a b ea eb =
    ap₂ (λ (m n : ℕ). m + 4294967296 * n) ea (eb ∙ (λ i. joined 4 (λ j. get_or ram (add_assoc at 4 j i) 0))) ∙ joined-eight (λ j. get_or ram (at + j) 0)

pub returns : goal.returns
returns c = let a = c.args in
    c.double.ensures ∙ both a.ram.now a.at _ _ c.four_columns.ensures c.four_columns-2.ensures
