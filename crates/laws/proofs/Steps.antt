-- The column arithmetic: columns one after the other are one step to a position. For any column count from 1 up, any pointer below it and any limit.
-- Assumes nothing.
use mathlib.Core.Path.{◌≡◌, refl, sym, ap, ap₂, ◌∙◌}
use mathlib.Core.Logic.{◌⊎◌, inl, inr, ⊎_elim}
use Prim.Native.Nat.{ℕ, zero, suc, ◌+◌, ◌*◌, ◌/◌, ◌%◌, ◌≤◌, ◌<◌, min}
use native.Mathlib.Nat.{add-zero, add-suc, mul_comm, mul-le-mul_left, le_of_lt, mod-lt, div-add-mod, div-add-mod', min-le_left, min-eq_left, min-eq_right}
use native.Mathlib.Omega.{arith}
use lib.Arith.{digits_div, digits_mod}
use borrow.Author.Tests.{eq-eqb, ne_eqb}
use Rattle.lemmas.proofs.Order.{lt_or_le}
use Rattle.sheet.specs.declared.Registers.{Registers}
use Rattle.sheet.specs.declared.Chip.{Chip}
use Rattle.sheet.specs.Parts.{Part}
use Rattle.sheet.specs.Registers.{at_place}
use Rattle.sheet.specs.Plain.{after_column, after_columns}
use Rattle.sheet.specs.Places.{advanced, advanced_by, position, at_position}
use Rattle.laws.proofs.Ranges.{InRange, placed_in}

-- one column on from a position
pub one : (K : Part) (u : ℕ) (r : Registers) → 0 < K.columns → advanced K (at_position K r u) ≡ at_position K r (suc u)
unfolding advanced at_position
one K u r pc =
    let d : u / K.columns * K.columns + u % K.columns ≡ u = div-add-mod' u K.columns in
    let l : u % K.columns < K.columns = mod-lt u pc in
    ⊎_elim
    (λ (h : u % K.columns + 1 < K.columns).
    let s : suc u ≡ u / K.columns * K.columns + (u % K.columns + 1) = omega (arith, d) in
    rw (ne_eqb (u % K.columns + 1) K.columns (omega arith))
    (ap₂ (λ (p a : ℕ). at_place r p (min K.limit a)) (sym (ap (λ (n : ℕ). n % K.columns) s ∙ digits_mod (u / K.columns) h)) (sym (ap (λ (n : ℕ). n / K.columns) s ∙ digits_div (u / K.columns) h))))
    (λ (h : K.columns ≤ u % K.columns + 1).
    let s : suc u ≡ suc (u / K.columns) * K.columns + 0 = omega (arith, d) in
    let e : suc u / K.columns ≡ suc (u / K.columns) = ap (λ (n : ℕ). n / K.columns) s ∙ digits_div (suc (u / K.columns)) pc in
    rw (eq-eqb (u % K.columns + 1) K.columns (omega arith))
    (ap₂ (λ (p a : ℕ). at_place r p a) (sym (ap (λ (n : ℕ). n % K.columns) s ∙ digits_mod (suc (u / K.columns)) pc)) (omega (arith, e))))
    (lt_or_le (u % K.columns + 1) K.columns)

-- registers in range are at their position
pub home : (K : Part) (r : Registers) → r.p < K.columns → r.a ≤ K.limit → at_position K r (position K r) ≡ r
unfolding at_position position
home K r lp la =
    rw (mul_comm K.columns r.a) (ap₂ (λ (p a : ℕ). at_place r p a) (digits_mod r.a lp) (omega (arith, digits_div r.a lp)))

-- t columns on from a position
pub on : (K : Part) (t u : ℕ) (r : Registers) → 0 < K.columns → advanced_by K t (at_position K r u) ≡ at_position K r (u + t)
unfolding advanced_by
on K zero u r pc = rw (add-zero u)
on K (suc t) u r pc = rw (on K t u r pc, add-suc u t) (one K (u + t) r pc)

-- t columns on are one step
pub many : (K : Part) (t : ℕ) (r : Registers) → r.p < K.columns → r.a ≤ K.limit → advanced_by K t r ≡ at_position K r (position K r + t)
many K t r lp la = ap (λ (s : Registers). advanced_by K t s) (sym (home K r lp la)) ∙ on K t (position K r) r (omega arith)

-- registers at a position are in range
pub p-at : (K : Part) (u : ℕ) (r : Registers) → 0 < K.columns → (at_position K r u).p < K.columns
unfolding at_position
p-at K u r pc = mod-lt u pc

pub a_at : (K : Part) (u : ℕ) (r : Registers) → (at_position K r u).a ≤ K.limit
unfolding at_position
a_at K u r = min-le_left K.limit (u / K.columns)

-- the position of registers at a position: the same, or both past all columns
pub settled : (K : Part) (u : ℕ) (r : Registers) → (position K (at_position K r u) ≡ u) ⊎ ((K.columns * K.limit ≤ position K (at_position K r u)) × (K.columns * K.limit ≤ u))
unfolding at_position position
settled K u r =
    ⊎_elim
    (λ (h : K.limit < u / K.columns).
    inr (rw (min-eq_left (le_of_lt h)) (omega arith), omega (arith, mul-le-mul_left K.columns (le_of_lt h), div-add-mod u K.columns)))
    (λ (h : u / K.columns ≤ K.limit). inl (rw (min-eq_right h) (div-add-mod u K.columns)))
    (lt_or_le K.limit (u / K.columns))

-- registers in range are in range at any position
pub stays_in : (K : Part) (u : ℕ) (r : Registers) → InRange K r → InRange K (at_position K r u)
unfolding at_position
stays_in K u r h = placed_in K r (u % K.columns) (min K.limit (u / K.columns)) h (p-at K u r (omega (arith, h.p-in))) (a_at K u r)

-- stored or not, each column of a data byte moves a chip's P and A on
pub columns_move : (K : Part) (x n : ℕ) (c : Chip) → (after_columns K x n c).registers ≡ advanced_by K n c.registers
unfolding after_columns after_column advanced_by
columns_move K x zero c = refl
columns_move K x (suc n) c = ap (advanced K) (columns_move K x n c)
