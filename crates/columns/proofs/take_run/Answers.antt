-- take_run: bytes that end in the columns of another chip only move P and A.
-- Assumes nothing.
use mathlib.Core.Path.{◌≡◌, refl, sym, ap, ◌∙◌, subst}
use mathlib.Core.Bool.{Bool, true, false, not, ◌&&◌}
use Prim.Native.Nat.{ℕ, ◌-◌, ◌≤◌}
use native.Mathlib.Nat.{div-le_self}
use native.Mathlib.Omega.{arith}
use lib.Dec.{eqb, leb}
use Rattle.sheet.specs.declared.Registers.{Registers}
use lib.ListN.{length}
use borrow.Author.Tests.{leb-true}
use Rattle.lemmas.proofs.Tests.{both_true}
use Rattle.sheet.specs.Parts.{Part, part_of}
use Rattle.sheet.specs.Registers.{backplanes}
use Rattle.sheet.specs.Data.{width_of}
use Rattle.laws.proofs.Ranges.{range-of}
use Rattle.laws.proofs.Named.{columns-small}
use Rattle.columns.specs.Stored.{room_in}
use Rattle.columns.proofs.Apart.{with}
use Rattle.columns.proofs.Inside.{has_room, passed}
use Rattle.columns.proofs.take_run.Goals as goal

not-true : (t : Bool) → not t ≡ true → t ≡ false
not-true true e = sym e
not-true false e = refl

-- there is room for the bytes, and A is another chip's
told : (K : Part) (r : Registers) (subaddress n room : ℕ) → room ≡ room_in K r → (leb n room && not (eqb r.a subaddress)) ≡ true
    → (n ≤ room_in K r) × (eqb r.a subaddress ≡ false)
told K r subaddress n room er e = let t = both_true _ _ e in
    (subst (λ (k : ℕ). n ≤ k) er (leb-true _ _ t.0), not-true _ t.1)

pub pass-requires : goal.pass-requires
pass-requires c = let r = c.args.chip.registers in
    let t = told (part_of c.args.part) r c.args.chip.subaddress _ _ c.room.ensures c.if-inside-chip.true in
    (c.requires, omega (arith, t.0, div-le_self ((part_of c.args.part).columns - r.p) (width_of (backplanes r)), columns-small c.args.part))

pub returns-then-inside-chip : goal.returns-then-inside-chip
returns-then-inside-chip c = let a = c.args in
    let K = part_of a.part in
    let h = range-of K a.chip.registers c.requires in
    let t = told K a.chip.registers a.chip.subaddress _ _ c.room.ensures c.if-inside-chip.true in
    ap (with a.chip a.chip.columns) c.pass.ensures ∙ sym (passed K a.bytes.now a.chip h t.1 (has_room K a.chip.registers (length a.bytes.now) h t.0))
