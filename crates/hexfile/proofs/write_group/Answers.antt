-- `hexfile::write_group` is safe: the columns of both groups are at most those of the array.
-- Assumes nothing.
use Rattle.std.proofs.Common.{◌≡◌, ℕ, ◌+◌, ◌*◌, ◌≤◌, List, ◌++◌, length, take, drop, arith, sym, Ok}
use lib.Seq.{length-take-le, length_front}
use Rattle.sheet.specs.declared.Chips.{Chips}
use Rattle.sheet.specs.Parts.{pcf8532}
use Rattle.sheet.specs.Checks.{check_chips}
use Rattle.log_sheet.specs.Logs.{check_log, log_chips}
use Rattle.laws.proofs.Fits.{few-chips}
use Rattle.buslog.proofs.Checked.{checked}
use Rattle.hexfile.proofs.write_group.Goals as goal

-- the columns of both groups are at most those of the array
few : (log : List ℕ) (chips : Chips) (ram : List ℕ) → check_log log ≡ Ok tt → chips ≡ log_chips log → length ram ≡ 1280 → 160 * chips.zero + 160 * chips.one ≤ length ram
few log chips ram passed e size =
    let fits : check_chips pcf8532 chips ≡ Ok tt = rw e (checked log passed).chips in
    let h = few-chips pcf8532 chips fits in
    omega (arith, h.0, h.1, size)

-- and so after the log
long : (ram after : List ℕ) (all : ℕ) → all ≤ length ram → length after ≡ length (take all ram) → all ≤ length (after ++ drop all ram)
long ram after all inside size = omega (arith, length_front ram after all size)

pub slice_bounds-ram-end : goal.slice_bounds-ram-end
slice_bounds-ram-end c = few c.args.log.now _ _ c.requires c.chips_of-chips.ensures c.blank_ram-ram.ensures

pub slice_bounds-leave-end : goal.slice_bounds-leave-end
slice_bounds-leave-end c = sym (length-take-le _ _ (few c.args.log.now _ _ c.requires c.chips_of-chips.ensures c.blank_ram-ram.ensures))

pub slice_bounds-ram-end-then-group-eq0 : goal.slice_bounds-ram-end-then-group-eq0
slice_bounds-ram-end-then-group-eq0 c =
    omega (arith, long c.blank_ram-ram.result c.leave.new.ram _ (few c.args.log.now _ _ c.requires c.chips_of-chips.ensures c.blank_ram-ram.ensures) c.leave.auto.ram)

pub slice_bounds-write_image-end : goal.slice_bounds-write_image-end
slice_bounds-write_image-end c =
    sym (length-take-le _ _ (omega (arith, long c.blank_ram-ram.result c.leave.new.ram _ (few c.args.log.now _ _ c.requires c.chips_of-chips.ensures c.blank_ram-ram.ensures) c.leave.auto.ram)))

pub slice_bounds-write_image-end-else-group-eq0 : goal.slice_bounds-write_image-end-else-group-eq0
slice_bounds-write_image-end-else-group-eq0 c =
    long c.blank_ram-ram.result c.leave.new.ram _ (few c.args.log.now _ _ c.requires c.chips_of-chips.ensures c.blank_ram-ram.ensures) c.leave.auto.ram
