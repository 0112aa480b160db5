-- `refused::check_ram` meets its contract, in either form.
-- Assumes nothing.
use mathlib.Core.Path.{◌≡◌, sym, ap, ◌∙◌, subst}
use Prim.Native.Nat.{ℕ, ◌*◌, ◌/◌}
use Rattle.sheet.specs.Parts.{part_of}
use Rattle.sheet.specs.Checks.{check_columns, check_ram}
use Rattle.packed_sheet.specs.Packed.{unpacked}
use Rattle.laws.proofs.Named.{columns-even}
use Rattle.laws.proofs.Packed.{even-columns}
use Rattle.refused.proofs.check_ram.Goals as goal

pub check_packed-requires : goal.check_packed-requires
check_packed-requires c = let K = part_of c.args.bus.now.part in
    subst (λ (size : ℕ). size ≡ 2 * (size / 2)) (sym c.columns_in-size.ensures) (even-columns K (K.columns / 2) (columns-even _) _)

pub returns-then-bus : goal.returns-then-bus
unfolding check_ram
returns-then-bus c = let a = c.args in
    rw c.if-bus.true (c.check_packed.ensures ∙ ap (λ (size : ℕ). check_columns size (unpacked a.ram.now)) c.columns_in-size.ensures)

pub returns-else-bus : goal.returns-else-bus
unfolding check_ram
returns-else-bus c = let a = c.args in
    rw c.if-bus.false (c.check_columns.ensures ∙ ap (λ (size : ℕ). check_columns size a.ram.now) c.columns_in-size.ensures)
