-- `image::write` meets its contract: refused, too short an output, or the file at its start.
-- Assumes nothing.
use Rattle.std.proofs.lemmas.Result.{err_from_is_err_and}
use mathlib.Core.Path.{◌≡◌, sym, ap, ap₂, ◌∙◌}
use mathlib.Core.List.{List}
use Prim.Native.Nat.{ℕ, ◌≤◌}
use native.Mathlib.Omega.{arith}
use lib.ListN.{length}
use Rattle.sheet.specs.declared.Chips.{Chips}
use Rattle.std.specs.Prelude.{Ok}
use Rattle.sheet.specs.Results.{Check}
use Rattle.sheet.specs.Parts.{part_of}
use Rattle.sheet.specs.Checks.{or_else, check_part, check_power_on}
use Rattle.image_sheet.specs.Hex.{file_of, one_group, hex_write_part}
use Rattle.text.proofs.Writing.{at-start}
use Rattle.laws.proofs.Written as calls
use Rattle.imagelaws.proofs.Sizes.{group_of, length-file}
use Rattle.image.proofs.write.Goals as goal

-- what the checks found, of this group alone
checked : (part chips : ℕ) (ram : List ℕ) (n : Chips) (k l : Check) → n ≡ one_group chips → k ≡ or_else (check_part part) (check_power_on (part_of part) n ram) → k ≡ l
    → or_else (check_part part) (check_power_on (part_of part) (one_group chips) ram) ≡ l
checked part chips ram n k l g told e = ap (λ (m : Chips). or_else (check_part part) (check_power_on (part_of part) m ram)) (sym g) ∙ sym told ∙ e

pub file_size-size-requires : goal.file_size-size-requires
file_size-size-requires c = let a = c.args in
    let g = group_of a.part a.chips a.ram.now (checked a.part a.chips a.ram.now c.one_group.result _ (Ok tt) c.one_group.ensures c.check_power_on.ensures c.in_ok-check_power_on.was) in
    omega (arith, g.few)

pub returns-then-out-size : goal.returns-then-out-size
unfolding hex_write_part
returns-then-out-size c = let a = c.args in
    let passes = checked a.part a.chips a.ram.now c.one_group.result _ (Ok tt) c.one_group.ensures c.check_power_on.ensures c.in_ok-check_power_on.was in
    let size = c.file_size-size.ensures ∙ sym (length-file a.ram.now) in
    let n = calls.numbered (calls.too_short a.part (check_power_on (part_of a.part) (one_group a.chips) a.ram.now) (file_of a.ram.now) a.out.now passes (omega (arith, size, c.if-out-size.true))) in
    record { out_after = n.0; result_value = n.1 }

pub put_file-requires : goal.put_file-requires
put_file-requires c = let a = c.args in
    let g = group_of a.part a.chips a.ram.now (checked a.part a.chips a.ram.now c.one_group.result _ (Ok tt) c.one_group.ensures c.check_power_on.ensures c.in_ok-check_power_on.was) in
    let size = c.file_size-size.ensures ∙ sym (length-file a.ram.now) in
    record { sixteens = g.sixteens; near = omega (arith, g.few); room = omega (arith, size, c.if-out-size.false) }

pub returns-in_err-check_power_on : goal.returns-in_err-check_power_on
unfolding hex_write_part
returns-in_err-check_power_on c = let a = c.args in
    let n = calls.numbered (calls.refuses a.part (check_power_on (part_of a.part) (one_group a.chips) a.ram.now) (file_of a.ram.now) a.out.now _
    (checked a.part a.chips a.ram.now c.one_group.result _ _ c.one_group.ensures c.check_power_on.ensures c.in_err-check_power_on.was)) in
    let e = err_from_is_err_and c.from_residual.result c.from_residual.ensures.1 in rw (e.1, e.2) (record { out_after = n.0; result_value = n.1 })

pub returns : goal.returns
unfolding hex_write_part
returns c = let a = c.args in
    let file = file_of a.ram.now in
    let passes = checked a.part a.chips a.ram.now c.one_group.result _ (Ok tt) c.one_group.ensures c.check_power_on.ensures c.in_ok-check_power_on.was in
    let size = c.file_size-size.ensures ∙ sym (length-file a.ram.now) in
    let room : length file ≤ length a.out.now = omega (arith, size, c.if-out-size.false) in
    let n = calls.numbered
    (ap₂ (λ (k : ℕ) (l : List ℕ). record { result = Ok k; out = l }) size (c.put_file.ensures.out ∙ at-start file a.out.now room)
    ∙ calls.written a.part (check_power_on (part_of a.part) (one_group a.chips) a.ram.now) file a.out.now passes room) in
    record { out_after = n.0; result_value = n.1 }
