-- The chips of a group as a list: what each of them does alike, and that only their own columns matter.
-- Assumes nothing.
use mathlib.Core.Path.{◌≡◌, refl, ap, ap₂, ◌∙◌}
use mathlib.Core.List.{List, ◌∷◌, ◌++◌, map, map-id}
use Prim.Native.Nat.{ℕ, zero, suc, ◌*◌, ◌≤◌}
use native.Mathlib.Omega.{arith}
use lib.ListN.{length, take, drop, length-drop}
use lib.Seq.{take-append-le, drop-append-le}
use Rattle.sheet.specs.declared.Registers.{Registers}
use Rattle.sheet.specs.declared.Chip.{Chip}
use Rattle.sheet.specs.Parts.{Part}
use Rattle.sheet.specs.Agree.{group_chips}

-- the chip at subaddress i of group g
abbrev pub chip_at : ℕ → ℕ → Registers → List ℕ → Chip
chip_at g i r columns = record { columns = columns; sa0 = g; subaddress = i; registers = r }

-- what is the same to each chip is the same to all
pub alike : (f h : Chip → Chip) (g : ℕ) (r s : Registers) → ((i : ℕ) (columns : List ℕ) → f (chip_at g i r columns) ≡ h (chip_at g i s columns))
    → (K : Part) (n i : ℕ) (columns : List ℕ) → map f (group_chips K n g i r columns) ≡ map h (group_chips K n g i s columns)
unfolding group_chips
alike f h g r s e K zero i columns = refl
alike f h g r s e K (suc n) i columns = ap₂ (λ (c : Chip) (cs : List Chip). c ∷ cs) (e i (take K.columns columns)) (alike f h g r s e K n (suc i) (drop K.columns columns))

-- what only sets each chip's registers sets the group's
pub set-alike : (f : Chip → Chip) (g : ℕ) (r s : Registers) → ((i : ℕ) (columns : List ℕ) → f (chip_at g i r columns) ≡ chip_at g i s columns)
    → (K : Part) (n i : ℕ) (columns : List ℕ) → map f (group_chips K n g i r columns) ≡ group_chips K n g i s columns
set-alike f g r s e K n i columns = alike f (λ c. c) g r s e K n i columns ∙ map-id (group_chips K n g i s columns)

-- columns after the group's own do not matter
pub own-columns : (K : Part) (n g i : ℕ) (r : Registers) (columns others : List ℕ) → length columns ≡ K.columns * n
    → group_chips K n g i r (columns ++ others) ≡ group_chips K n g i r columns
unfolding group_chips
own-columns K zero g i r columns others e = refl
own-columns K (suc n) g i r columns others e =
    let l : K.columns ≤ length columns = omega (arith, e) in
    rw (take-append-le K.columns columns others l, drop-append-le K.columns columns others l)
    (ap (λ (cs : List Chip). chip_at g i r (take K.columns columns) ∷ cs)
    (own-columns K n g (suc i) r (drop K.columns columns) others (length-drop K.columns columns ∙ omega (arith, e))))
