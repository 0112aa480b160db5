-- Of a group's chips just the one that has a data byte's last column acknowledges it, if it is there: who acknowledges is the long account's.
-- Assumes nothing.
use mathlib.Core.Path.{◌≡◌, refl, ap, ◌∙◌}
use mathlib.Core.Logic.{⊎_elim}
use mathlib.Core.Bool.{Bool, true, false, cond}
use mathlib.Core.List.{List}
use Prim.Native.Nat.{ℕ, zero, suc, ◌+◌, ◌*◌, ◌/◌, ◌≤◌, ◌<◌, min}
use native.Mathlib.Nat.{not-suc-le-zero, mul_comm, le-min, div-lt_iff_lt-mul, le-div_iff_mul-le}
use native.Mathlib.Omega.{arith}
use lib.Dec.{eqb, ltb, leb-suc-suc}
use lib.ListN.{take, drop}
use borrow.Author.Tests.{eq-eqb, ne_eqb, lt-ltb, le-ltb}
use Rattle.lemmas.proofs.Order.{lt_or_le}
use Rattle.sheet.specs.declared.Registers.{Registers}
use Rattle.sheet.specs.declared.Chip.{Chip}
use Rattle.std.specs.Prelude.{None, Some}
use Rattle.sheet.specs.Results.{Acknowledger}
use Rattle.sheet.specs.Parts.{Part}
use Rattle.sheet.specs.Registers.{backplanes}
use Rattle.sheet.specs.Plain.{any, acknowledges_data, smallest}
use Rattle.sheet.specs.Places.{advanced_by, position, at_position}
use Rattle.sheet.specs.Data.{acknowledger}
use Rattle.sheet.specs.Agree.{group_chips}
use Rattle.laws.proofs.Steps.{many, columns_move}
use Rattle.agreement.proofs.Chips.{chip_at}

-- ---- the chips of a group

module _ (f : Chip → Bool) (K : Part) (g : ℕ) (r : Registers) where
  -- what each says, there being one
  pub any-all : (n i : ℕ) (ram : List ℕ) → 0 < n → ((c : List ℕ) → f (chip_at g i r c) ≡ true) → any f (group_chips K n g i r ram) ≡ true
  unfolding group_chips
  any-all zero i ram l e = absurd (not-suc-le-zero l)
  any-all (suc n) i ram l e = rw (e (take K.columns ram))

  -- what none says
  pub any_none : (n i : ℕ) (ram : List ℕ) → ((i : ℕ) (c : List ℕ) → f (chip_at g i r c) ≡ false) → any f (group_chips K n g i r ram) ≡ false
  unfolding group_chips
  any_none zero i ram e = refl
  any_none (suc n) i ram e = rw (e i (take K.columns ram)) (any_none n (suc i) (drop K.columns ram) e)

  -- what only the chip at subaddress a says
  module _ (a : ℕ) (e : (i : ℕ) (c : List ℕ) → f (chip_at g i r c) ≡ eqb a i) where
    -- it does not stand among the chips after it
    later : (n i : ℕ) (ram : List ℕ) → a < i → smallest f (group_chips K n g i r ram) ≡ None
    unfolding group_chips smallest
    later zero i ram l = refl
    later (suc n) i ram l = rw (e i (take K.columns ram), ne_eqb a i (omega arith)) (later n (suc i) (drop K.columns ram) (omega arith))

    -- d after the first
    only_one : (n i d : ℕ) (ram : List ℕ) → a ≡ i + d → smallest f (group_chips K n g i r ram) ≡ cond (ltb d n) (Some a) None
    unfolding group_chips smallest
    only_one zero i d ram h = rw (le-ltb d 0 (omega arith))
    only_one (suc n) i zero ram h =
        let same : i ≡ a = omega arith in
        rw (e i (take K.columns ram), eq-eqb a i (omega arith), later n (suc i) (drop K.columns ram) (omega arith), lt-ltb 0 (suc n) (omega arith)) (ap Some same)
    only_one (suc n) i (suc d) ram h =
        rw (e i (take K.columns ram), ne_eqb a i (omega arith), leb-suc-suc (suc d) n) (only_one n (suc i) d (drop K.columns ram) (omega arith))

-- ---- the byte's last column

-- the subaddress of a position, if it is below n; so it is if the position is
below : (K : Part) (n u : ℕ) → 0 < K.columns → n ≤ K.limit
    → cond (ltb (min K.limit (u / K.columns)) n) (Some (min K.limit (u / K.columns))) None ≡ cond (ltb u (K.columns * n)) (Some (u / K.columns)) None
below K n u pc l =
    ⊎_elim
    (λ (h : u < K.columns * n).
    let d : u / K.columns < n = (div-lt_iff_lt-mul pc).1 (rw (mul_comm n K.columns) h) in
    let least : min K.limit (u / K.columns) ≡ u / K.columns = omega arith in
    rw (least, lt-ltb (u / K.columns) n d, lt-ltb u (K.columns * n) h))
    (λ (h : K.columns * n ≤ u).
    let d : n ≤ u / K.columns = (le-div_iff_mul-le pc).1 (rw (mul_comm n K.columns) h) in
    rw (le-ltb (min K.limit (u / K.columns)) n (le-min l d), le-ltb u (K.columns * n) h))
    (lt_or_le u (K.columns * n))

-- f says of a chip that it acknowledges
pub acknowledges : (f : Chip → Bool) (K : Part) (x n g : ℕ) (r : Registers) (ram : List ℕ) → r.p < K.columns → r.a ≤ K.limit → n ≤ K.limit
    → ((i : ℕ) (c : List ℕ) → f (chip_at g i r c) ≡ acknowledges_data K x (chip_at g i r c))
    → smallest f (group_chips K n g 0 r ram) ≡ acknowledger K (backplanes r) (position K r) (K.columns * n)
unfolding acknowledges_data at_position acknowledger
acknowledges f K x n g r ram lp la l e =
    let k : ℕ = 7 / backplanes r in
    let a : ℕ = (advanced_by K k r).a in
    only_one f K g r a (λ i c. e i c ∙ ap (λ (s : Registers). eqb s.a i) (columns_move K x k (chip_at g i r c))) n 0 a ram (omega arith)
    ∙ ap (λ (s : Registers). cond (ltb s.a n) (Some s.a) None) (many K k r lp la)
    ∙ below K n (position K r + k) (omega arith) l
