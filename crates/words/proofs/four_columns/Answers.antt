-- `words::four_columns` meets its contract.
-- Assumes nothing.
use mathlib.Core.Path.{◌≡◌, refl, ap, sym, ◌∙◌}
use Prim.Native.Nat.{ℕ, ◌+◌, ◌*◌}
use native.Mathlib.Nat.{add-zero}
use native.Mathlib.Omega.{arith}
use lib.ListN.{get_or}
use Rattle.words.specs.Fields.{joined}
use Rattle.words.proofs.four_columns.Goals as goal

as-joined : (q : ℕ → ℕ) (q₀ q₁ q₂ q₃ : ℕ) → q₀ ≡ q 0 → q₁ ≡ q 1 → q₂ ≡ q 2 → q₃ ≡ q 3 → q₀ + q₁ * 256 + q₂ * 65536 + q₃ * 16777216 ≡ joined 4 q
unfolding joined
as-joined q q₀ q₁ q₂ q₃ e₀ e₁ e₂ e₃ = omega arith

pub returns : goal.returns
returns c = let a = c.args in
    let columns = a.ram.now in
    c.from_le_bytes.ensures ∙ as-joined (λ j. get_or columns (a.at + j) 0) _ _ _ _ (ap (λ (n : ℕ). get_or columns n 0) (sym (add-zero a.at))) refl refl refl
