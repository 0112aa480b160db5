-- A group in a state that fits, by its number g: its registers and its columns can be read and replaced, and the other group's stay.
-- Assumes nothing.
use mathlib.Core.Path.{◌≡◌, refl, ap, ◌∙◌}
use mathlib.Core.Bool.{Bool, true, false, cond}
use mathlib.Core.Logic.{◌≢◌}
use mathlib.Core.List.{List, ◌++◌}
use Prim.Native.Nat.{ℕ, ◌+◌, ◌*◌, ◌≤◌, ◌<◌}
use native.Mathlib.Nat.{zero-add}
use native.Mathlib.Omega.{arith}
use lib.Dec.{eqb}
use lib.ListN.{length, take, drop, length-append, length-take, length-drop}
use lib.Seq.{take_at, drop_at, length-take-le}
use Rattle.lemmas.proofs.Order.{two-others}
use Rattle.sheet.specs.declared.Registers.{Registers}
use Rattle.sheet.specs.declared.Both.{Both}
use Rattle.sheet.specs.declared.Chips.{Chips}
use Rattle.sheet.specs.Parts.{Part}
use Rattle.sheet.specs.Registers.{registers_of}
use Rattle.sheet.specs.Protocol.{chips_in}
use Rattle.sheet.specs.Long.{begun, replaced, start_of, end_of, columns_of, with_columns}
use Rattle.laws.proofs.Ranges.{InRange}
use Rattle.laws.proofs.Nibbles.{Nibbles, take-nibbles, drop-nibbles}
use Rattle.laws.proofs.Kept.{Kept}
use Rattle.laws.proofs.Fits.{Fits}

-- ---- registers

pub own-registers : (g : ℕ) (s : Registers) (r : Both) → registers_of g (replaced g s r) ≡ s
own-registers g s r = go (eqb g 0)
  where
    go : (t : Bool) → (let a : Both = cond t (record { zero = s; one = r.one }) (record { zero = r.zero; one = s }) in cond t a.zero a.one) ≡ s
    go true = refl
    go false = refl

pub other-registers : (g h : ℕ) → g < 2 → h < 2 → g ≢ h → (s : Registers) (r : Both) → registers_of h (replaced g s r) ≡ registers_of h r
other-registers g h pg ph ne s r = two-others (λ i j. registers_of j (replaced i s r) ≡ registers_of j r) refl refl g h pg ph ne

-- ---- columns

pub start-few : (K : Part) (n : Chips) (g : ℕ) → start_of K n g ≤ K.columns * n.zero
start-few K n g = go (eqb g 0)
  where
    go : (t : Bool) → cond t 0 (K.columns * n.zero) ≤ K.columns * n.zero
    go true = omega arith
    go false = omega arith

pub chips-few : (n : Chips) (g : ℕ) → chips_in g n ≤ n.zero + n.one
chips-few n g = go (eqb g 0)
  where
    go : (t : Bool) → cond t n.zero n.one ≤ n.zero + n.one
    go true = omega arith
    go false = omega arith

module _ (K : Part) (n : Chips) (r : Both) (ram : List ℕ) (f : Fits K n r ram) where
  module _ (g : ℕ) where
    pub range-of-group : InRange K (registers_of g r)
    range-of-group = go (eqb g 0)
      where
        go : (t : Bool) → InRange K (cond t r.zero r.one)
        go true = f.zero_in
        go false = f.one_in

    pub few-chips-in : chips_in g n ≤ K.limit
    few-chips-in = go (eqb g 0)
      where
        go : (t : Bool) → cond t n.zero n.one ≤ K.limit
        go true = f.zero-few
        go false = f.one-few

    -- they end in the RAM
    pub ends_in_ram : end_of K n g ≤ length ram
    ends_in_ram = go (eqb g 0)
      where
        go : (t : Bool) → cond t 0 (K.columns * n.zero) + K.columns * cond t n.zero n.one ≤ length ram
        go true = omega (arith, f.columns)
        go false = omega (arith, f.columns)

    pub length-columns : length (columns_of K n g ram) ≡ K.columns * chips_in g n
    length-columns = simp (length-take, length-drop) (omega (arith, ends_in_ram))

    pub nibbles-of-group : Nibbles (columns_of K n g ram)
    nibbles-of-group = take-nibbles (K.columns * chips_in g n) (drop (start_of K n g) ram) (drop-nibbles (start_of K n g) ram f.nibbles)

    -- the group, once its address is acknowledged
    pub group-kept : Kept K (K.columns * chips_in g n) (begun (registers_of g r) (columns_of K n g ram))
    group-kept = record { range = range-of-group; columns = length-columns; nibbles = nibbles-of-group }

    -- own columns, read back
    pub own-columns : (columns : List ℕ) → length columns ≡ K.columns * chips_in g n → columns_of K n g (with_columns K n g columns ram) ≡ columns
    own-columns columns e =
        ap (take (K.columns * chips_in g n)) (drop_at (take (start_of K n g) ram) (columns ++ drop (end_of K n g) ram) (start_of K n g) (length-take-le (start_of K n g) ram (omega (arith, ends_in_ram))))
        ∙ take_at columns (drop (end_of K n g) ram) (K.columns * chips_in g n) e

    -- and the RAM is as long as it was
    pub length-with : (columns : List ℕ) → length columns ≡ K.columns * chips_in g n → length (with_columns K n g columns ram) ≡ length ram
    length-with columns e = simp (length-append, length-take, length-drop) (omega (arith, e, ends_in_ram))

  -- the other group's stay
  pub other-columns : (g h : ℕ) → g < 2 → h < 2 → g ≢ h → (columns : List ℕ) → length columns ≡ K.columns * chips_in g n
      → columns_of K n h (with_columns K n g columns ram) ≡ columns_of K n h ram
  other-columns g h pg ph ne =
      two-others (λ i j. (columns : List ℕ) → length columns ≡ K.columns * chips_in i n → columns_of K n j (with_columns K n i columns ram) ≡ columns_of K n j ram)
      (λ columns e. ap (take (K.columns * n.one)) (drop_at columns (drop (0 + K.columns * n.zero) ram) (K.columns * n.zero) e ∙ ap (λ (k : ℕ). drop k ram) (zero-add (K.columns * n.zero))))
      (λ columns e. take_at (take (K.columns * n.zero) ram) _ (K.columns * n.zero) (length-take-le (K.columns * n.zero) ram (omega (arith, f.columns))))
      g h pg ph ne
