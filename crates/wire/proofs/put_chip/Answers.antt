-- `wire::put_chip` meets its contract: the columns, the registers, and the two bytes between them.
-- Assumes nothing.
use mathlib.Core.Path.{◌≡◌, ap, ap₂, ◌∙◌}
use mathlib.Core.List.{List, ◌∷◌, ◌++◌}
use Prim.Native.Nat.{ℕ}
use native.Mathlib.Omega.{arith}
use lib.ListN.{length, drop, length-take, length-drop, length-set}
use Rattle.wire.proofs.Parts.{chip-put}
use borrow.Author.Rules.{rules}
use Rattle.wire.proofs.put_chip.Goals as goal

pub copy_from_slice-requires : goal.copy_from_slice-requires
copy_from_slice-requires c = let columns : length c.args.chip.columns ≡ 160 = search rules in
    simp length-take (omega (arith, c.requires))

pub returns : goal.returns
returns c = let out = c.args.out.now in
    let columns : length c.args.chip.columns ≡ 160 = search rules in
    chip-put c.copy_from_slice.new.self (drop 160 out) c.put_registers.new.out c.args.chip.sa0 c.args.chip.subaddress
    (ap length c.copy_from_slice.ensures.after ∙ columns)
    (omega (arith, length-drop 160 out, c.requires))
    ∙ ap₂ (λ (x y : List ℕ). x ++ (c.args.chip.sa0 ∷ c.args.chip.subaddress ∷ y)) c.copy_from_slice.ensures.after c.put_registers.ensures

pub bounds-out-161 : goal.bounds-out-161
bounds-out-161 c = simp length-set (omega arith)

pub shape_of-out : goal.shape_of-out
shape_of-out c = simp length-set (omega arith)

pub slice_bounds-copy_from_slice-end-2 : goal.slice_bounds-copy_from_slice-end-2
slice_bounds-copy_from_slice-end-2 c = simp length-take (omega (arith, c.requires))
