-- `runs::write` meets its contract: the run of the registers' mode, bank and position.
-- Assumes nothing.
use mathlib.Core.Path.{ap₂, ◌∙◌}
use Prim.Native.Nat.{ℕ}
use Rattle.sheet.specs.Registers.{bank_row}
use Rattle.sheet.specs.Runs.{put_run}
use Rattle.packed_sheet.specs.Packed.{columns_in}
use Rattle.runs.proofs.Asked.{run-asked}
use Rattle.runs.proofs.write.Goals as goal

pub put_run-requires : goal.put_run-requires
put_run-requires c = let a = c.args in
    run-asked a.part a.registers a.bytes.now (columns_in a.packed a.ram.now) _ _ c.requires c.position-v.ensures c.backplanes-m.ensures

pub returns : goal.returns
returns c = let a = c.args in
    c.put_run.ensures
    ∙ ap₂ (λ (v m : ℕ). put_run m (bank_row m a.registers.i) v a.bytes.now (columns_in a.packed a.ram.now)) c.position-v.ensures c.backplanes-m.ensures
