-- One column step of all of a group's chips is one change of the group's columns.
-- Assumes nothing.
use mathlib.Core.Path.{◌≡◌, refl, sym, ap, ap₂, ◌∙◌}
use mathlib.Core.List.{List, ◌∷◌, map}
use Prim.Native.Nat.{ℕ, zero, suc, ◌+◌, ◌*◌, ◌<◌}
use native.Mathlib.Omega.{arith}
use lib.ListN.{get_or, set, take, drop}
use lib.Seq.{get_or-take, get_or-drop, take-set-le, take-set-lt, drop-set-lt, drop-set-add}
use borrow.Author.Tests.{eq-eqb, ne_eqb}
use Rattle.sheet.specs.declared.Registers.{Registers}
use Rattle.sheet.specs.declared.Chip.{Chip}
use Rattle.sheet.specs.Parts.{Part}
use Rattle.sheet.specs.Registers.{backplanes, bank_row}
use Rattle.sheet.specs.Plain.{put_rows, after_column}
use Rattle.sheet.specs.Places.{advanced, position}
use Rattle.sheet.specs.Data.{changed}
use Rattle.sheet.specs.Agree.{group_chips}
use Rattle.agreement.proofs.Chips.{chip_at}

-- ---- a change, before and after a cut

pub take-before : (C c : ℕ) (f : ℕ → ℕ) (columns : List ℕ) → c < C → take C (changed f c columns) ≡ changed f c (take C columns)
unfolding changed
take-before C c f columns l = take-set-lt C columns c (f (get_or columns c 0)) l ∙ ap (λ (q : ℕ). set (take C columns) c (f q)) (sym (get_or-take C columns c 0 l))

pub drop-before : (C c : ℕ) (f : ℕ → ℕ) (columns : List ℕ) → c < C → drop C (changed f c columns) ≡ drop C columns
unfolding changed
drop-before C c f columns l = drop-set-lt C columns c (f (get_or columns c 0)) l

take_after : (C c : ℕ) (f : ℕ → ℕ) (columns : List ℕ) → take C (changed f (C + c) columns) ≡ take C columns
unfolding changed
take_after C c f columns = take-set-le C columns (C + c) (f (get_or columns (C + c) 0)) (omega arith)

drop-after : (C c : ℕ) (f : ℕ → ℕ) (columns : List ℕ) → drop C (changed f (C + c) columns) ≡ changed f c (drop C columns)
unfolding changed
drop-after C c f columns = drop-set-add C columns c (f (get_or columns (C + c) 0)) ∙ ap (λ (q : ℕ). set (drop C columns) c (f q)) (sym (get_or-drop C columns c 0))

-- ---- the step

-- what column j of byte x does to the rows of a column
abbrev pub rows_of : ℕ → ℕ → Registers → ℕ → ℕ
rows_of x j r = put_rows (backplanes r) (bank_row (backplanes r) r.i) (backplanes r * j) x

module _ (K : Part) (x j g : ℕ) (r : Registers) where
  -- chips past the one selected keep their columns
  past : (n i : ℕ) (columns : List ℕ) → r.a < i → map (after_column K x j) (group_chips K n g i r columns) ≡ group_chips K n g i (advanced K r) columns
  unfolding group_chips after_column
  past zero i columns l = refl
  past (suc n) i columns l = rw (ne_eqb r.a i (omega arith)) (ap (λ (cs : List Chip). chip_at g i (advanced K r) (take K.columns columns) ∷ cs) (past n (suc i) (drop K.columns columns) (omega arith)))

  -- from subaddress i on, d chips before the one selected
  from : (n i d : ℕ) (columns : List ℕ) → r.p < K.columns → r.a ≡ i + d
      → map (after_column K x j) (group_chips K n g i r columns) ≡ group_chips K n g i (advanced K r) (changed (rows_of x j r) (K.columns * d + r.p) columns)
  unfolding group_chips after_column
  from zero i d columns l e = refl
  from (suc n) i zero columns l e =
      rw (eq-eqb r.a i (omega arith), here K.columns r.p)
      (ap₂ (λ (c : List ℕ) (cs : List Chip). chip_at g i (advanced K r) c ∷ cs)
      (sym (take-before K.columns r.p (rows_of x j r) columns l))
      (past n (suc i) (drop K.columns columns) (omega arith) ∙ ap (λ (c : List ℕ). group_chips K n g (suc i) (advanced K r) c) (sym (drop-before K.columns r.p (rows_of x j r) columns l))))
    where
      here : (C p : ℕ) → C * 0 + p ≡ p
      here C p = omega arith
  from (suc n) i (suc d) columns l e =
      rw (ne_eqb r.a i (omega arith), further K.columns d r.p)
      (ap₂ (λ (c : List ℕ) (cs : List Chip). chip_at g i (advanced K r) c ∷ cs)
      (sym (take_after K.columns (K.columns * d + r.p) (rows_of x j r) columns))
      (from n (suc i) d (drop K.columns columns) l (omega arith)
      ∙ ap (λ (c : List ℕ). group_chips K n g (suc i) (advanced K r) c) (sym (drop-after K.columns (K.columns * d + r.p) (rows_of x j r) columns))))
    where
      further : (C d p : ℕ) → C * suc d + p ≡ C + (C * d + p)
      further C d p = omega arith

  -- the change is at the position
  pub one-column : (n : ℕ) (columns : List ℕ) → r.p < K.columns
      → map (after_column K x j) (group_chips K n g 0 r columns) ≡ group_chips K n g 0 (advanced K r) (changed (rows_of x j r) (position K r) columns)
  unfolding position
  one-column n columns l = from n 0 r.a columns l (omega arith)
