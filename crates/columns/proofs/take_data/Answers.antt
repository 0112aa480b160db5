-- take_data: columns and registers apart.
-- Assumes nothing.
use mathlib.Core.Path.{◌≡◌, sym, ap, ap₂, ◌∙◌}
use Prim.Native.Nat.{ℕ}
use native.Mathlib.Nat.{mul-one}
use native.Mathlib.Omega.{arith}
use lib.ListN.{length}
use Rattle.sheet.specs.Parts.{part_of}
use Rattle.sheet.specs.Registers.{backplanes}
use Rattle.sheet.specs.Places.{advanced_by}
use Rattle.sheet.specs.Data.{width_of}
use Rattle.laws.proofs.Named.{columns-small}
use borrow.Author.Rules.{rules}
use Rattle.columns.proofs.Apart.{with, byte-apart}
use Rattle.columns.proofs.take_data.Goals as goal

pub put_byte-requires : goal.put_byte-requires
put_byte-requires c = let all : length c.args.chip.columns ≡ 160 = search rules in
    (omega (arith, all, columns-small c.args.part), c.requires)

pub returns : goal.returns
returns c = let a = c.args in
    let K = part_of a.part in
    let r = a.chip.registers in
    ap₂ (with a.chip) c.put_byte.ensures (c.pass.ensures ∙ ap (λ (n : ℕ). advanced_by K n r) (mul-one (width_of (backplanes r)))) ∙ sym (byte-apart K a.byte a.chip)
