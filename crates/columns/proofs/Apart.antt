-- A chip's columns apart from its registers: what a data byte, and several, make of either.
-- Assumes nothing.
use mathlib.Core.Path.{◌≡◌, refl, sym, ap, ◌∙◌, subst}
use mathlib.Core.Bool.{Bool, true, false, cond}
use mathlib.Core.List.{List}
use Prim.Native.Nat.{ℕ, zero, suc, ◌*◌}
use lib.Dec.{eqb}
use lib.ListN.{length, get_or, set, length-set}
use Rattle.sheet.specs.declared.Chip.{Chip}
use Rattle.sheet.specs.declared.Registers.{Registers}
use Rattle.sheet.specs.Parts.{Part}
use Rattle.sheet.specs.Registers.{backplanes, bank_row}
use Rattle.sheet.specs.Plain.{put_rows, after_column, after_columns, chip_data}
use Rattle.sheet.specs.Places.{advanced, advanced_by, at_position}
use Rattle.sheet.specs.Data.{changed, width_of}
use Rattle.laws.proofs.Ranges.{InRange}
use Rattle.laws.proofs.Steps.{many, stays_in}
use Rattle.laws.proofs.Runs.{unchanged}
use Rattle.columns.specs.Stored.{columns_after}

-- a chip with other columns and registers
abbrev pub with : Chip → List ℕ → Registers → Chip
with c columns registers = record { columns = columns; sa0 = c.sa0; subaddress = c.subaddress; registers = registers }

-- a column that is not stored is written as it was
kept : (t : Bool) (f : ℕ → ℕ) (p : ℕ) (l : List ℕ) → cond t (changed f p l) l ≡ set l p (cond t (f (get_or l p 0)) (get_or l p 0))
unfolding changed
kept true f p l = refl
kept false f p l = sym (unchanged p l)

-- the first n columns of a byte
pub apart : (K : Part) (x n : ℕ) (c : Chip) → after_columns K x n c ≡ with c (columns_after K c.subaddress x c.registers n c.columns) (advanced_by K n c.registers)
unfolding after_columns after_column columns_after advanced_by
apart K x zero c = refl
apart K x (suc n) c =
    let r = advanced_by K n c.registers in
    let l = columns_after K c.subaddress x c.registers n c.columns in
    let m = backplanes r in
    ap (after_column K x n) (apart K x n c)
    ∙ ap (λ (k : List ℕ). with c k (advanced K r)) (kept (eqb r.a c.subaddress) (put_rows m (bank_row m r.i) (m * n) x) r.p l)

-- a byte
pub byte-apart : (K : Part) (x : ℕ) (c : Chip)
    → chip_data K x c ≡ with c (columns_after K c.subaddress x c.registers (width_of (backplanes c.registers)) c.columns) (advanced_by K (width_of (backplanes c.registers)) c.registers)
unfolding chip_data
byte-apart K x c = apart K x (width_of (backplanes c.registers)) c

pub length-after : (K : Part) (s x : ℕ) (r : Registers) (n : ℕ) (l : List ℕ) → length (columns_after K s x r n l) ≡ length l
unfolding columns_after
length-after K s x r zero l = refl
length-after K s x r (suc n) l = simp length-set (length-after K s x r n l)

-- ---- the registers n columns on

module _ (K : Part) (n : ℕ) (r : Registers) (h : InRange K r) where
  pub on_in : InRange K (advanced_by K n r)
  on_in = subst (InRange K) (sym (many K n r h.p-in h.a_in)) (stays_in K _ r h)

  pub on-planes : backplanes (advanced_by K n r) ≡ backplanes r
  unfolding at_position backplanes
  on-planes = ap backplanes (many K n r h.p-in h.a_in)
