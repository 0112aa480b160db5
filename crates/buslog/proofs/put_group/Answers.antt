-- `buslog::put_group` meets its contract: the lit columns of the group's picture are written.
-- Assumes nothing.
use mathlib.Core.Path.{◌≡◌, sym, ap, ◌∙◌}
use Prim.Native.Nat.{ℕ, ◌≤◌}
use native.Mathlib.Omega.{arith}
use lib.ListN.{length, take, drop}
use lib.Seq.{length-take-le}
use mathlib.Core.List.{List, ◌++◌}
use Rattle.sheet.specs.declared.Both.{Both}
use Rattle.sheet.specs.declared.Chips.{Chips}
use Rattle.sheet.specs.Registers.{registers_of}
use Rattle.buslog.specs.Asked.{Listable}
use Rattle.sheet.specs.declared.Registers.{Registers}
use Rattle.sheet.specs.Parts.{pcf8532, part_of}
use Rattle.sheet.specs.Pictures.{picture_of, lit_in}
use Rattle.sheet.specs.Long.{state_of, columns_of}
use Rattle.log_sheet.specs.Logs.{shown_at}
use Rattle.laws.proofs.Fits.{fits-of}
use Rattle.laws.proofs.Lens.{few-chips-in}
use Rattle.buslog.proofs.States.{Held, pictured}
use Rattle.buslog.proofs.put_group.Goals as goal

-- the group's columns fit into the array
small : (n : Chips) (r : Both) (ram : List ℕ) (g size at : ℕ) (out blank : List ℕ) → Listable n (state_of r ram) g size at out → length blank ≡ 640 → size ≤ length blank
small n r ram g size at out blank l e = omega (arith, l.size, e, few-chips-in pcf8532 n r ram (fits-of pcf8532 n r ram l.valid) g)

-- by the group's own registers its picture is shown
own : (n : Chips) (r : Both) (ram : List ℕ) (g : ℕ) (k : Registers) → k ≡ registers_of g r → picture_of k 0 (columns_of (part_of 0) n g ram) ≡ shown_at n (state_of r ram) g
unfolding part_of
own n r ram g k e = ap (λ (k : Registers). picture_of k 0 (columns_of (part_of 0) n g ram)) e

shown : (n : Chips) (r : Both) (ram : List ℕ) (g size at : ℕ) (out blank picture : List ℕ) (k : Registers) → Listable n (state_of r ram) g size at out → length blank ≡ 640
    → k ≡ registers_of g r → length picture ≡ length (take size blank) → picture ≡ picture_of k 0 (columns_of (part_of 0) n g ram) → Held n (state_of r ram) g size (picture ++ drop size blank)
shown n r ram g size at out blank picture k l e ek kept is = pictured n (state_of r ram) g size blank picture (small n r ram g size at out blank l e) kept (is ∙ own n r ram g k ek)

pub show_in-lit-requires : goal.show_in-lit-requires
unfolding part_of
show_in-lit-requires c = let a = c.args in
    (record { both = a.registers; same = sym c.registers_of-shown.ensures; state = c.requires.valid }, length-take-le _ _ (small a.chips a.registers a.ram.now a.group a.size a.at a.out.now c.blank_picture-picture.result c.requires c.blank_picture-picture.ensures) ∙ c.requires.size)

pub put_columns-after-requires : goal.put_columns-after-requires
put_columns-after-requires c = let a = c.args in
    rw (shown a.chips a.registers a.ram.now a.group a.size a.at a.out.now c.blank_picture-picture.result _ _ c.requires c.blank_picture-picture.ensures c.registers_of-shown.ensures c.show_in-lit.auto.out c.show_in-lit.ensures.out_after).held c.requires.room

pub returns : goal.returns
returns c = let a = c.args in
    let held = shown a.chips a.registers a.ram.now a.group a.size a.at a.out.now c.blank_picture-picture.result _ _ c.requires c.blank_picture-picture.ensures c.registers_of-shown.ensures c.show_in-lit.auto.out c.show_in-lit.ensures.out_after in
    record { puts = rw (← held.held) c.put_columns-after.ensures; lit_value = c.show_in-lit.ensures.value ∙ ap lit_in (own a.chips a.registers a.ram.now a.group _ c.registers_of-shown.ensures) }

pub slice_bounds-picture-end : goal.slice_bounds-picture-end
slice_bounds-picture-end c = let a = c.args in
    small a.chips a.registers a.ram.now a.group a.size a.at a.out.now c.blank_picture-picture.result c.requires c.blank_picture-picture.ensures

pub slice_bounds-show_in-end : goal.slice_bounds-show_in-end
slice_bounds-show_in-end c = let a = c.args in
    sym (length-take-le _ _ (small a.chips a.registers a.ram.now a.group a.size a.at a.out.now c.blank_picture-picture.result c.requires c.blank_picture-picture.ensures))

pub slice_bounds-picture-end-2 : goal.slice_bounds-picture-end-2
slice_bounds-picture-end-2 c = let a = c.args in
    (shown a.chips a.registers a.ram.now a.group a.size a.at a.out.now c.blank_picture-picture.result _ _ c.requires c.blank_picture-picture.ensures c.registers_of-shown.ensures c.show_in-lit.auto.out c.show_in-lit.ensures.out_after).enough

pub slice_bounds-put_columns-end : goal.slice_bounds-put_columns-end
slice_bounds-put_columns-end c = let a = c.args in
    sym (length-take-le _ _ (shown a.chips a.registers a.ram.now a.group a.size a.at a.out.now c.blank_picture-picture.result _ _ c.requires c.blank_picture-picture.ensures c.registers_of-shown.ensures c.show_in-lit.auto.out c.show_in-lit.ensures.out_after).enough)
