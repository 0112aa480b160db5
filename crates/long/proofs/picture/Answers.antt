-- `long::picture` meets its contract: refused, or what the group shows and how many elements are lit.
-- Assumes nothing.
use Rattle.std.proofs.lemmas.Result.{err_from_is_err_and}
use mathlib.Core.Path.{◌≡◌, sym, ap, ◌∙◌}
use mathlib.Core.List.{List}
use Prim.Native.Nat.{ℕ}
use lib.ListN.{length}
use Rattle.sheet.specs.declared.Registers.{Registers}
use Rattle.std.specs.Prelude.{Ok}
use Rattle.sheet.specs.Results.{Check}
use Rattle.sheet.specs.declared.Both.{Both}
use Rattle.sheet.specs.declared.Chips.{Chips}
use Rattle.refused.specs.Fitting.{fitting, picture_by}
use mathlib.Core.Bool.{Bool}
use Rattle.sheet.specs.Parts.{part_of}
use Rattle.sheet.specs.Checks.{or_else, check_part, check_picture}
use Rattle.sheet.specs.Pictures.{picture_of, lit_in}
use Rattle.sheet.specs.Long.{columns_of}
use Rattle.packed_sheet.specs.Packed.{columns_in}
use Rattle.laws.proofs.Numbered.{numbered-picture}
use Rattle.laws.proofs.Fits.{both_pass, picture-passed}
use Rattle.refused.proofs.Fitted.{picture-by}
use Rattle.long.proofs.Checked.{shown-by-check}
use Rattle.long.proofs.picture.Goals as goal

-- what the checks answer, told of the registers
asked : (part : ℕ) (n : Chips) (r : Both) (fit : Bool) (columns : List ℕ) (g phase size : ℕ) (check : Check) → fit ≡ fitting (part_of part) r
    → check ≡ or_else (check_part part) (picture_by (part_of part) n fit columns g phase size) → check ≡ or_else (check_part part) (check_picture (part_of part) n r columns g phase size)
asked part n r fit columns g phase size check e told = told ∙ ap (or_else (check_part part)) (picture-by (part_of part) n r fit e columns g phase size)

pub show_in-requires : goal.show_in-requires
show_in-requires c = let a = c.args in
    let columns = columns_in a.bus.packed a.ram.now in
    let p = picture-passed (part_of a.bus.part) a.bus.chips a.registers columns a.group a.phase (length a.out.now) (both_pass (check_part a.bus.part) _ (sym (asked a.bus.part a.bus.chips a.registers _ columns a.group a.phase _ _ c.registers_fit-fit.ensures c.check_picture.ensures) ∙ c.in_ok-check_picture.was)).1 in
    (record { both = a.registers; same = sym c.registers_of-shown.ensures; state = p.0 }, p.1)

pub returns-in_err-check_picture : goal.returns-in_err-check_picture
returns-in_err-check_picture c = let a = c.args in
    let columns = columns_in a.bus.packed a.ram.now in
    let p = numbered-picture (sym (shown-by-check a.bus.part a.bus.chips a.registers columns a.group a.phase a.out.now _ (sym (asked a.bus.part a.bus.chips a.registers _ columns a.group a.phase _ _ c.registers_fit-fit.ensures c.check_picture.ensures) ∙ c.in_err-check_picture.was))) in
    let e = err_from_is_err_and c.from_residual.result c.from_residual.ensures.1 in rw (e.1, e.2) (record { out_after = p.0; result_value = p.1 })

pub returns : goal.returns
returns c =
    let a = c.args in
    let columns = columns_in a.bus.packed a.ram.now in
    let same = ap (λ (r : Registers). picture_of r a.phase (columns_of (part_of a.bus.part) a.bus.chips a.group columns)) c.registers_of-shown.ensures in
    let lit = c.show_in.ensures.value ∙ ap lit_in same in
    let p = numbered-picture
    ((λ j. record { result = Ok (lit j); out = (c.show_in.ensures.out_after ∙ same) j })
    ∙ sym (shown-by-check a.bus.part a.bus.chips a.registers columns a.group a.phase a.out.now _ (sym (asked a.bus.part a.bus.chips a.registers _ columns a.group a.phase _ _ c.registers_fit-fit.ensures c.check_picture.ensures) ∙ c.in_ok-check_picture.was))) in
    record { out_after = p.0; result_value = p.1 }
