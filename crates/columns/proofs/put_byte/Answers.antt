-- put_byte: by whether its columns are all of the chip that A names, and this is it.
-- Assumes nothing.
use mathlib.Core.Path.{◌≡◌, sym, ap, ap₂, ◌∙◌}
use mathlib.Core.Bool.{true, ◌&&◌}
use Prim.Native.Nat.{ℕ, ◌+◌, ◌≤◌}
use native.Mathlib.Nat.{div-le_self}
use native.Mathlib.Omega.{arith}
use lib.Dec.{eqb, leb}
use Rattle.sheet.specs.declared.Registers.{Registers}
use borrow.Author.Tests.{leb-true}
use Rattle.lemmas.proofs.Tests.{both_true}
use Rattle.sheet.specs.Parts.{Part, part_of}
use Rattle.sheet.specs.Registers.{backplanes, bank_row}
use Rattle.sheet.specs.Data.{width_of, put_bits}
use Rattle.laws.proofs.Ranges.{range-of, planes_pos, rows_fit}
use Rattle.laws.proofs.Named.{columns-small}
use Rattle.columns.proofs.Inside.{stored-inside}
use Rattle.columns.proofs.put_byte.Goals as goal

pub width-requires : goal.width-requires
width-requires c = rw c.backplanes-m.ensures (planes_pos _)

pub overflow_add-inside : goal.overflow_add-inside
overflow_add-inside c = omega (arith, (range-of (part_of c.args.part) c.args.start c.requires.1).p-in, columns-small c.args.part, c.width.ensures, div-le_self 7 c.backplanes-m.result)

-- the columns are there, and A is the subaddress
told : (K : Part) (start : Registers) (subaddress m w columns : ℕ) → m ≡ backplanes start → w ≡ width_of m → columns ≡ K.columns
    → (leb (start.p + w) columns && eqb start.a subaddress) ≡ true
    → (start.p + width_of (backplanes start) ≤ K.columns) × (eqb start.a subaddress ≡ true)
told K start subaddress m w columns em ew ec e =
    let t = both_true _ _ e in
    let l : start.p + w ≤ columns = leb-true _ _ t.0 in
    let wide : w ≡ width_of (backplanes start) = ew ∙ ap width_of em in
    (omega arith, t.1)

pub put_inside-requires : goal.put_inside-requires
put_inside-requires c = let r = c.args.start in
    let h = range-of (part_of c.args.part) r c.requires.1 in
    let t = told (part_of c.args.part) c.args.start c.args.subaddress _ _ _ c.backplanes-m.ensures c.width.ensures c.columns.ensures c.if-inside-start.true in
    rw (c.bank_row.ensures, c.backplanes-m.ensures)
    (planes_pos r, (rows_fit r r.i h.m-in h.i-in).1, omega (arith, t.0, c.requires.0))

pub returns-then-inside-start : goal.returns-then-inside-start
returns-then-inside-start c = let a = c.args in
    let t = told (part_of c.args.part) c.args.start c.args.subaddress _ _ _ c.backplanes-m.ensures c.width.ensures c.columns.ensures c.if-inside-start.true in
    let r = a.start in
    c.put_inside.ensures
    ∙ ap₂ (λ (m b : ℕ). put_bits 8 m b r.p a.byte a.columns.now) c.backplanes-m.ensures (c.bank_row.ensures ∙ ap (λ (m : ℕ). bank_row m r.i) c.backplanes-m.ensures)
    ∙ sym (stored-inside (part_of a.part) a.subaddress a.byte r a.columns.now t.1 t.0)
