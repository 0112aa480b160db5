-- A match on the mode: what a run is asked and promises in the mode that an arm tells.
-- Assumes nothing.
use mathlib.Core.Path.{◌≡◌, ap, sym, ◌∙◌, subst}
use mathlib.Core.Logic.{◌≢◌}
use mathlib.Core.List.{List}
use Prim.Native.Nat.{ℕ, ◌<◌}
use native.Mathlib.Omega.{arith}
use Rattle.sheet.specs.Registers.{bank_row}
use Rattle.sheet.specs.Runs.{put_run}
use Rattle.ram.specs.Writes.{Whole}

module _ (columns : List ℕ) (v m bank : ℕ) (bytes : List ℕ) (h : Whole columns v m bank bytes × (m ≢ 3)) where
  pub asked : (k shift : ℕ) → m ≡ k → shift < 8 → Whole columns v k bank bytes × (k ≢ 3) × (shift < 8)
  asked k shift e l = subst (λ (i : ℕ). Whole columns v i bank bytes × (i ≢ 3) × (shift < 8)) e (h.0, h.1, l)

  -- the bytes of the stream may depend on the mode
  pub told : (k : ℕ) (stream : ℕ → List ℕ) (after : List ℕ) → m ≡ k → after ≡ put_run k (bank_row k bank) v (stream k) columns → after ≡ put_run m (bank_row m bank) v (stream m) columns
  told k stream after e run = run ∙ ap (λ (i : ℕ). put_run i (bank_row i bank) v (stream i) columns) (sym e)

  -- of the modes 1 to 4 that are not 3, the one that is left
  pub four : (m ≡ 1 → ⊥) → (m ≡ 2 → ⊥) → m ≡ 4
  four one two = omega (arith, one, two, h.1, h.0.some, h.0.four)
