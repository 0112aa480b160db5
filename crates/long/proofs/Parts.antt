-- A group's part of the RAM, a byte a column or packed, as the code takes it and puts it back, for any part with an even number of columns.
-- Assumes nothing.
use mathlib.Core.Path.{◌≡◌, ap, ap₂, ◌∙◌, subst, sym}
use mathlib.Core.Bool.{Bool, true, false, cond}
use mathlib.Core.List.{List, ◌++◌}
use Prim.Native.Nat.{ℕ, ◌-◌, ◌*◌, ◌/◌, ◌%◌, ◌<◌, ◌≤◌}
use native.Mathlib.Nat.{add-sub_cancel_left}
use native.Mathlib.Omega.{arith}
use lib.ListN.{length, take, drop}
use lib.Seq.{drop-drop}
use Rattle.sheet.specs.declared.Both.{Both}
use Rattle.sheet.specs.declared.Chips.{Chips}
use Rattle.sheet.specs.declared.Registers.{Registers}
use Rattle.std.specs.Prelude.{Ok}
use Rattle.sheet.specs.Parts.{Part, part_of}
use Rattle.sheet.specs.Registers.{registers_of}
use Rattle.sheet.specs.Protocol.{chips_in}
use Rattle.sheet.specs.Checks.{check_state}
use Rattle.sheet.specs.Long.{start_of, end_of, columns_of, with_columns}
use Rattle.packed_sheet.specs.Packed.{unpacked, columns_in}
use Rattle.laws.proofs.Named.{columns-even, ram-small, by_eighty}
use Rattle.laws.proofs.Ranges.{InRange}
use Rattle.laws.proofs.Fits.{Fits, fits-of}
use Rattle.laws.proofs.Lens.{ends_in_ram, range-of-group, few-chips-in, length-columns}
use Rattle.laws.proofs.Packed.{ordered, end-in-bytes, part-unpacked, back-unpacked}

module _ (K : Part) (half : ℕ) (even : K.columns ≡ 2 * half) (n : Chips) (ram : List ℕ) (g start end : ℕ) where
  part-taken : (packed : Bool) → start ≡ cond packed (start_of K n g / 2) (start_of K n g) → end ≡ cond packed (end_of K n g / 2) (end_of K n g)
      → columns_in packed (take (end - start) (drop start ram)) ≡ columns_of K n g (columns_in packed ram)
  part-taken true es ee = ap₂ (λ (s e : ℕ). unpacked (take (e - s) (drop s ram))) es ee ∙ part-unpacked K half even n g ram
  part-taken false es ee = rw (es, ee, add-sub_cancel_left (start_of K n g) (K.columns * chips_in g n))

  pub put_back : (packed : Bool) → start ≡ cond packed (start_of K n g / 2) (start_of K n g) → end ≡ cond packed (end_of K n g / 2) (end_of K n g)
      → (last after : List ℕ) → columns_in packed last ≡ after
      → columns_in packed (take start ram ++ (last ++ drop (end - start) (drop start ram))) ≡ with_columns K n g after (columns_in packed ram)
  put_back true es ee last after e =
      ap₂ (λ (s t : ℕ). unpacked (take s ram ++ (last ++ drop (t - s) (drop s ram)))) es ee
      ∙ ap (λ (l : List ℕ). unpacked (take (start_of K n g / 2) ram ++ (last ++ l))) (drop-drop (end_of K n g / 2 - start_of K n g / 2) (start_of K n g / 2) ram ∙ ap (λ (k : ℕ). drop k ram) (ordered K half even n g))
      ∙ back-unpacked K half even n g ram last
      ∙ ap (λ (l : List ℕ). with_columns K n g l (unpacked ram)) e
  put_back false es ee last after e =
      rw (es, ee, e, add-sub_cancel_left (start_of K n g) (K.columns * chips_in g n), drop-drop (K.columns * chips_in g n) (start_of K n g) ram)

  -- it begins before it ends, and ends in the RAM
  in_order : (packed : Bool) → start ≡ cond packed (start_of K n g / 2) (start_of K n g) → end ≡ cond packed (end_of K n g / 2) (end_of K n g) → start ≤ end
  in_order true es ee = rw (es, ee) (omega (arith, ordered K half even n g))
  in_order false es ee = omega (arith, es, ee)

  end-in : (packed : Bool) → end ≡ cond packed (end_of K n g / 2) (end_of K n g) → end_of K n g ≤ length (columns_in packed ram) → end ≤ length ram
  end-in true ee l = subst (λ (k : ℕ). k ≤ length ram) (sym ee) (end-in-bytes K half even n g ram l)
  end-in false ee l = subst (λ (k : ℕ). k ≤ length ram) (sym ee) l

-- a group's part of a RAM that passed its checks
pub record Cut (K : Part) (n : Chips) (both : Both) (g : ℕ) (packed : Bool) (ram : List ℕ) (start end : ℕ) : Type 0 where
  pub fits : Fits K n both (columns_in packed ram)
  pub part : columns_in packed (take (end - start) (drop start ram)) ≡ columns_of K n g (columns_in packed ram)
  pub begins : start ≤ end
  pub ends : end ≤ length ram

pub cut : (part : ℕ) (n : Chips) (both : Both) (g : ℕ) (packed : Bool) (ram : List ℕ) (start end : ℕ) → let K = part_of part in
    check_state K n both (columns_in packed ram) ≡ Ok tt → start ≡ cond packed (start_of K n g / 2) (start_of K n g) → end ≡ cond packed (end_of K n g / 2) (end_of K n g)
    → Cut K n both g packed ram start end
cut part n both g packed ram start end e es ee = let K = part_of part in
    let f = fits-of K n both (columns_in packed ram) e in
    record {
      fits = f;
      part = part-taken K _ (columns-even part) n ram g start end packed es ee;
      begins = in_order K _ (columns-even part) n ram g start end packed es ee;
      ends = end-in K _ (columns-even part) n ram g start end packed ee (ends_in_ram K n both (columns_in packed ram) f g);
    }

-- it can be shown in a buffer of its length by the group's own registers
pub showable : (part : ℕ) (n : Chips) (both : Both) (g : ℕ) (packed : Bool) (ram : List ℕ) (start end : ℕ) (own : Registers) (size : ℕ) → let K = part_of part in
    Cut K n both g packed ram start end → registers_of g both ≡ own → size ≡ K.columns * chips_in g n
    → (size ≡ length (columns_in packed (take (end - start) (drop start ram)))) × (size ≤ 1280) × (size % 80 ≡ 0) × (own.m < 4) × (own.o < 2)
showable part n both g packed ram start end own size c e es = let K = part_of part in
    let columns = columns_in packed ram in
    let f = c.fits in
    let range = subst (InRange K) e (range-of-group K n both columns f g) in (
      es ∙ sym (ap length c.part ∙ length-columns K n both columns f g),
      omega (arith, es, ram-small part (chips_in g n) (few-chips-in K n both columns f g)),
      ap (λ (k : ℕ). k % 80) es ∙ by_eighty part (chips_in g n),
      range.m-in,
      range.o-in,
    )
