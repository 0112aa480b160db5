-- `lent_long::pictured` meets its contract: refused, or what the group shows and how many elements are lit.
-- Assumes nothing.
use Rattle.std.proofs.lemmas.Result.{err_from_is_err_and}
use mathlib.Core.Path.{◌≡◌, sym, ap, ap₂, ◌∙◌}
use mathlib.Core.List.{List}
use Prim.Native.Nat.{ℕ, ◌+◌, ◌-◌, ◌*◌, ◌<◌}
use native.Mathlib.Nat.{add-sub_cancel_left}
use native.Mathlib.Omega.{arith}
use lib.ListN.{length, take, drop}
use Rattle.sheet.specs.declared.Registers.{Registers}
use Rattle.sheet.specs.declared.Both.{Both}
use Rattle.sheet.specs.declared.Chips.{Chips}
use Rattle.std.specs.Prelude.{Ok}
use Rattle.sheet.specs.Results.{Check}
use Rattle.refused.specs.Fitting.{fitting, picture_by}
use mathlib.Core.Bool.{Bool}
use Rattle.sheet.specs.Parts.{part_of}
use Rattle.sheet.specs.Registers.{registers_of}
use Rattle.sheet.specs.Protocol.{chips_in}
use Rattle.sheet.specs.Checks.{or_else, check_part, check_state, check_picture}
use Rattle.sheet.specs.Pictures.{picture_of, lit_in}
use Rattle.packed_sheet.specs.Packed.{columns_in}
use Rattle.laws.proofs.Fits.{both_pass, picture-passed}
use Rattle.refused.proofs.Fitted.{picture-by}
use Rattle.long.proofs.Checked.{shown-by-check}
use Rattle.long.proofs.Parts.{cut, showable}
use Rattle.wire.specs.Bytes.{registers_in, both_of}
use Rattle.wire.proofs.Given.{own-bytes}
use Rattle.lent_long.proofs.Sending.{shown-small}
use Rattle.lent_long.proofs.pictured.Goals as goal

-- what the checks answer, told of the registers
asked : (part : ℕ) (n : Chips) (r : Both) (fit : Bool) (columns : List ℕ) (g phase size : ℕ) (check : Check) → fit ≡ fitting (part_of part) r
    → check ≡ or_else (check_part part) (picture_by (part_of part) n fit columns g phase size) → check ≡ or_else (check_part part) (check_picture (part_of part) n r columns g phase size)
asked part n r fit columns g phase size check e told = told ∙ ap (or_else (check_part part)) (picture-by (part_of part) n r fit e columns g phase size)

-- where they have passed, the state is in range, the buffer as long as the group's columns, and the group 0 or 1
record Passes (part : ℕ) (n : Chips) (r : Both) (columns : List ℕ) (g phase size : ℕ) : Type 0 where
  all : or_else (check_part part) (check_picture (part_of part) n r columns g phase size) ≡ Ok tt
  state : check_state (part_of part) n r columns ≡ Ok tt
  long : size ≡ (part_of part).columns * chips_in g n
  small : g < 2

passes : (part : ℕ) (n : Chips) (r : Both) (columns : List ℕ) (g phase size : ℕ) (check : Check) → check ≡ or_else (check_part part) (check_picture (part_of part) n r columns g phase size) → check ≡ Ok tt
    → Passes part n r columns g phase size
passes part n r columns g phase size check e passed = let all = sym e ∙ passed in
    let own = (both_pass (check_part part) _ all).1 in
    let fit = picture-passed (part_of part) n r columns g phase size own in
    record { all = all; state = fit.0; long = fit.1; small = shown-small (part_of part) n r columns g phase size own }

-- the registers that are read are the group's own
own : (g : ℕ) (l : List ℕ) (r : Registers) → g < 2 → length l ≡ 24 → r ≡ registers_in (take (12 * g + 12 - 12 * g) (drop (12 * g) l)) → r ≡ registers_of g (both_of l)
own g l r small size e = e ∙ ap (λ (n : ℕ). registers_in (take n (drop (12 * g) l))) (add-sub_cancel_left (12 * g) 12) ∙ own-bytes g small l size

pub slice_bounds-registers_of-end : goal.slice_bounds-registers_of-end
slice_bounds-registers_of-end c = let a = c.args in
    let columns = columns_in a.bus.packed a.ram.now in
    let asked = asked a.bus.part a.bus.chips (both_of a.registers.now) _ columns a.group a.phase (length a.out.now) _ c.fits-fit.ensures c.check_picture.ensures in
    let passed = passes a.bus.part a.bus.chips (both_of a.registers.now) columns a.group a.phase (length a.out.now) _ asked c.in_ok-check_picture.was in
    omega (arith, c.requires, passed.small)

pub show-requires : goal.show-requires
show-requires c = let a = c.args in
    let columns = columns_in a.bus.packed a.ram.now in
    let asked = asked a.bus.part a.bus.chips (both_of a.registers.now) _ columns a.group a.phase (length a.out.now) _ c.fits-fit.ensures c.check_picture.ensures in
    let passed = passes a.bus.part a.bus.chips (both_of a.registers.now) columns a.group a.phase (length a.out.now) _ asked c.in_ok-check_picture.was in
    let own = own a.group a.registers.now _ passed.small c.requires c.registers_of-shown.ensures in
    let part = cut a.bus.part a.bus.chips (both_of a.registers.now) a.group a.bus.packed a.ram.now _ _ passed.state c.start_in-start.ensures c.end_in-end.ensures in
    showable a.bus.part a.bus.chips (both_of a.registers.now) a.group a.bus.packed a.ram.now _ _ _ _ part (sym own) passed.long

pub returns-in_err-check_picture : goal.returns-in_err-check_picture
returns-in_err-check_picture c = let a = c.args in
    let columns = columns_in a.bus.packed a.ram.now in
    let asked = asked a.bus.part a.bus.chips (both_of a.registers.now) _ columns a.group a.phase (length a.out.now) _ c.fits-fit.ensures c.check_picture.ensures in
    let e = err_from_is_err_and c.from_residual.result c.from_residual.ensures.1 in
    rw (e.1, e.2) (sym (shown-by-check a.bus.part a.bus.chips (both_of a.registers.now) columns a.group a.phase a.out.now _ (sym asked ∙ c.in_err-check_picture.was)))

pub returns : goal.returns
returns c = let put = c.show.ensures in
    let a = c.args in
    let columns = columns_in a.bus.packed a.ram.now in
    let asked = asked a.bus.part a.bus.chips (both_of a.registers.now) _ columns a.group a.phase (length a.out.now) _ c.fits-fit.ensures c.check_picture.ensures in
    let passed = passes a.bus.part a.bus.chips (both_of a.registers.now) columns a.group a.phase (length a.out.now) _ asked c.in_ok-check_picture.was in
    let own = own a.group a.registers.now _ passed.small c.requires c.registers_of-shown.ensures in
    let part = cut a.bus.part a.bus.chips (both_of a.registers.now) a.group a.bus.packed a.ram.now _ _ passed.state c.start_in-start.ensures c.end_in-end.ensures in
    let same = ap₂ (λ (r : Registers) (shown : List ℕ). picture_of r a.phase shown) own part.part in
    let lit = put.value ∙ ap lit_in same in
    (λ j. record { result = Ok (lit j); out = (put.out_after ∙ same) j })
    ∙ sym (shown-by-check a.bus.part a.bus.chips (both_of a.registers.now) columns a.group a.phase a.out.now _ passed.all)

pub slice_bounds-show-count : goal.slice_bounds-show-count
slice_bounds-show-count c = let a = c.args in
    let columns = columns_in a.bus.packed a.ram.now in
    let asked = asked a.bus.part a.bus.chips (both_of a.registers.now) _ columns a.group a.phase (length a.out.now) _ c.fits-fit.ensures c.check_picture.ensures in
    let passed = passes a.bus.part a.bus.chips (both_of a.registers.now) columns a.group a.phase (length a.out.now) _ asked c.in_ok-check_picture.was in
    let part = cut a.bus.part a.bus.chips (both_of a.registers.now) a.group a.bus.packed a.ram.now _ _ passed.state c.start_in-start.ensures c.end_in-end.ensures in
    part.begins

pub slice_bounds-show-start : goal.slice_bounds-show-start
slice_bounds-show-start c = let a = c.args in
    let columns = columns_in a.bus.packed a.ram.now in
    let asked = asked a.bus.part a.bus.chips (both_of a.registers.now) _ columns a.group a.phase (length a.out.now) _ c.fits-fit.ensures c.check_picture.ensures in
    let passed = passes a.bus.part a.bus.chips (both_of a.registers.now) columns a.group a.phase (length a.out.now) _ asked c.in_ok-check_picture.was in
    let part = cut a.bus.part a.bus.chips (both_of a.registers.now) a.group a.bus.packed a.ram.now _ _ passed.state c.start_in-start.ensures c.end_in-end.ensures in
    part.begins

pub slice_bounds-show-end : goal.slice_bounds-show-end
slice_bounds-show-end c = let a = c.args in
    let columns = columns_in a.bus.packed a.ram.now in
    let asked = asked a.bus.part a.bus.chips (both_of a.registers.now) _ columns a.group a.phase (length a.out.now) _ c.fits-fit.ensures c.check_picture.ensures in
    let passed = passes a.bus.part a.bus.chips (both_of a.registers.now) columns a.group a.phase (length a.out.now) _ asked c.in_ok-check_picture.was in
    let part = cut a.bus.part a.bus.chips (both_of a.registers.now) a.group a.bus.packed a.ram.now _ _ passed.state c.start_in-start.ensures c.end_in-end.ensures in
    part.ends
