-- The symbols of a price: what a text begins and what a byte shows is one, and has that text's first bytes or that byte (paper 02, request 1).
-- Assumes nothing.
use mathlib.Core.Path.{◌≡◌, refl, sym, ap, subst, ◌∙◌}
use mathlib.Core.Bool.{Bool, true, false, cond, ◌&&◌}
use Prim.Native.Nat.{ℕ, zero, suc, ◌-◌, ◌≤◌, ◌<◌}
use native.Mathlib.Omega.{arith}
use lib.Dec.{T, eqb, ltb, leb}
use lib.ListN.{length}
use borrow.Author.Tests.{lt-ltb, ltb-true, ltb-false, eqb-true, leb-true}
use Rattle.lemmas.proofs.Tests.{both_true}
use Rattle.price_sheet.specs.declared.Symbol.{Symbol}
use Rattle.price_sheet.specs.declared.Symbol.TheVariants.{Digit, Pointed, Space, Minus, LongMinus}
use Rattle.std.specs.Prelude.{None, Option, Some}
use Rattle.sheet.specs.Parts.{within}
use Rattle.price_sheet.specs.Price.{is_symbol, text_of, plain, byte_of, begun, shown_as, shown_below, shown}

-- ---- what a byte may show

-- by the tests that tell it
by_tests : (P : Symbol → Type 0) (k : ℕ) → (k < 10 → P (Digit k)) → (10 ≤ k → k < 20 → P (Pointed (k - 10))) → P Space → P Minus → (s t u : Bool) → ltb k 10 ≡ s → ltb k 20 ≡ t
    → P (cond s (Digit k) (cond t (Pointed (k - 10)) (cond u Space Minus)))
by_tests P k digit pointed space minus true t u e f = digit (ltb-true k 10 e)
by_tests P k digit pointed space minus false true u e f = pointed (ltb-false k 10 e) (ltb-true k 20 f)
by_tests P k digit pointed space minus false false true e f = space
by_tests P k digit pointed space minus false false false e f = minus

-- a symbol, with the plain minus
pub record Plain (s : Symbol) : Type 0 where
  pub symbol : is_symbol s ≡ true
  pub same : plain s ≡ s

pub shown-plain : (k : ℕ) → Plain (shown_as k)
shown-plain k =
    by_tests Plain k (λ h. record { symbol = lt-ltb k 10 h; same = refl }) (λ l h. record { symbol = lt-ltb (k - 10) 10 (omega arith); same = refl })
    (record { symbol = refl; same = refl }) (record { symbol = refl; same = refl }) (ltb k 10) (ltb k 20) (eqb k 20) refl refl

-- whose text has one byte or two
pub plain-short : (s : Symbol) → length (text_of (plain s)) ≤ 2
plain-short (Digit n) = omega arith
plain-short (Pointed n) = omega arith
plain-short Space = omega arith
plain-short Minus = omega arith
plain-short LongMinus = omega arith

-- ---- a byte shows a symbol that has that byte

pub record Shown (mode x : ℕ) (s : Symbol) : Type 0 where
  pub is : Plain s
  pub byte : byte_of mode s ≡ x

abbrev symbol_in : Option Symbol → Symbol → Symbol
symbol_in (Some s) other = s
symbol_in None other = other

abbrev is_found : Option Symbol → Bool
is_found (Some s) = true
is_found None = false

pub nothing : {A : Type 0} (s : Symbol) → None ≡ Some s → A
nothing s e = absurd (subst (λ (f : Option Symbol). T (is_found f)) (sym e) tt)

pub inside : (s t : Symbol) → Some s ≡ Some t → s ≡ t
inside s t e = ap (λ (f : Option Symbol). symbol_in f s) e

by_byte : (n mode x : ℕ) (s : Symbol) (b : Bool) → (shown_below n mode x ≡ Some s → Shown mode x s) → eqb x (byte_of mode (shown_as n)) ≡ b
    → cond b (Some (shown_as n)) (shown_below n mode x) ≡ Some s → Shown mode x s
by_byte n mode x s true others t e = subst (Shown mode x) (inside (shown_as n) s e) (record { is = shown-plain n; byte = sym (eqb-true x (byte_of mode (shown_as n)) t) })
by_byte n mode x s false others t e = others e

below : (n mode x : ℕ) (s : Symbol) → shown_below n mode x ≡ Some s → Shown mode x s
unfolding shown_below
below zero mode x s e = nothing s e
below (suc n) mode x s e = by_byte n mode x s (eqb x (byte_of mode (shown_as n))) (below n mode x s) refl e

pub shown-is : (mode x : ℕ) (s : Symbol) → shown mode x ≡ Some s → Shown mode x s
shown-is mode x s e = below 22 mode x s e

-- ---- a text begins with a symbol

begun-by : (x y z : ℕ) (s : Symbol) (t₁ t₂ t₃ t₄ t₅ : Bool) → within 48 57 x ≡ t₁
    → cond t₁ (cond t₂ (Some (Pointed (x - 48))) (Some (Digit (x - 48)))) (cond t₃ (Some Space) (cond t₄ (Some Minus) (cond t₅ (Some LongMinus) None))) ≡ Some s
    → is_symbol s ≡ true
unfolding within
begun-by x y z s true true t₃ t₄ t₅ d e =
    let l = leb-true x 57 (both_true (leb 48 x) (leb x 57) d).1 in ap is_symbol (sym (inside (Pointed (x - 48)) s e)) ∙ lt-ltb (x - 48) 10 (omega arith)
begun-by x y z s true false t₃ t₄ t₅ d e =
    let l = leb-true x 57 (both_true (leb 48 x) (leb x 57) d).1 in ap is_symbol (sym (inside (Digit (x - 48)) s e)) ∙ lt-ltb (x - 48) 10 (omega arith)
begun-by x y z s false t₂ true t₄ t₅ d e = ap is_symbol (sym (inside Space s e))
begun-by x y z s false t₂ false true t₅ d e = ap is_symbol (sym (inside Minus s e))
begun-by x y z s false t₂ false false true d e = ap is_symbol (sym (inside LongMinus s e))
begun-by x y z s false t₂ false false false d e = nothing s e

pub begun-symbol : (x y z : ℕ) (s : Symbol) → begun x y z ≡ Some s → is_symbol s ≡ true
unfolding begun
begun-symbol x y z s e = begun-by x y z s (within 48 57 x) (eqb y 0x2E) (eqb x 0x20) (eqb x 0x2D) (eqb x 0xE2 && (eqb y 0x88 && eqb z 0x92)) refl e
