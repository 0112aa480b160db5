-- The columns of a word that is written column by column.
-- Assumes nothing.
use mathlib.Core.Path.{◌≡◌, ap, ◌∙◌}
use Prim.Native.Nat.{ℕ, zero, suc, ◌+◌, ◌*◌, ◌/◌, ◌%◌, ◌<◌}
use native.Mathlib.Nat.{mod-eq_of_lt}
use native.Mathlib.Omega.{arith}
use lib.Arith.{digits_div, digits_mod}
use Rattle.words.specs.Fields.{joined, column_of}
use Rattle.gather.specs.Gathered.{side}

pub columns-side : (a b c d : ℕ) → a < 256 → b < 256 → c < 256 → d < 256 → let w = side a b c d in (column_of w 0 ≡ a) × (column_of w 1 ≡ b) × (column_of w 2 ≡ c) × (column_of w 3 ≡ d)
unfolding column_of
columns-side a b c d la lb lc ld =
    let w = side a b c d in
    let top = (0 * 256 + d) * 256 + c in
    let a₁ : w / 256 ≡ top * 256 + b = digits_div (top * 256 + b) la in
    let a₂ : w / 65536 ≡ top = omega (arith, a₁, digits_div top lb) in
    let a₃ : w / 16777216 ≡ d = omega (arith, a₂, digits_div d lc) in
    let e₀ : w / 1 % 256 ≡ a = omega (arith, la) in
    (e₀, ap (λ (n : ℕ). n % 256) a₁ ∙ digits_mod top lb, ap (λ (n : ℕ). n % 256) a₂ ∙ digits_mod (0 * 256 + d) lc, ap (λ (n : ℕ). n % 256) a₃ ∙ mod-eq_of_lt ld)

pub columns_of : (f : ℕ → ℕ) → ((i : ℕ) → f i < 256) → let w = joined 4 f in (column_of w 0 ≡ f 0) × (column_of w 1 ≡ f 1) × (column_of w 2 ≡ f 2) × (column_of w 3 ≡ f 3)
unfolding joined
columns_of f h = columns-side (f 0) (f 1) (f 2) (f 3) (h 0) (h 1) (h 2) (h 3)

pub column-at : (f : ℕ → ℕ) → ((i : ℕ) → f i < 256) → (i : ℕ) → i < 4 → column_of (joined 4 f) i ≡ f i
column-at f h zero l = (columns_of f h).0
column-at f h (suc zero) l = (columns_of f h).1
column-at f h (suc (suc zero)) l = (columns_of f h).2
column-at f h (suc (suc (suc zero))) l = (columns_of f h).3
column-at f h (suc (suc (suc (suc i)))) l = absurd (omega (arith, l))
