-- `packed_ram::shifted_run` meets its contract, mode by mode.
-- Assumes nothing.
use mathlib.Core.Path.{ap, ◌∙◌}
use Prim.Native.Nat.{ℕ, ◌*◌}
use native.Mathlib.Omega.{arith}
use Rattle.sheet.specs.Registers.{bank_row}
use Rattle.sheet.specs.Runs.{put_run}
use Rattle.packed_sheet.specs.Packed.{unpacked}
use Rattle.packed_ram.specs.Stream.{stream}
use Rattle.packed_ram.proofs.Modes as modes
use Rattle.packed_ram.proofs.shifted_run.Goals as goal

pub stream_run-requires : goal.stream_run-requires
stream_run-requires g c = let a = c.args in modes.asked (unpacked a.ram.now) (2 * a.at) a.m a.bank a.bytes.now (c.requires.0, c.requires.1) 1 _ c.in-1.is (omega (arith, c.requires.2))

pub stream_run-requires-in-2 : goal.stream_run-requires-in-2
stream_run-requires-in-2 g c = let a = c.args in modes.asked (unpacked a.ram.now) (2 * a.at) a.m a.bank a.bytes.now (c.requires.0, c.requires.1) 2 _ c.in-2.is (omega (arith, c.requires.2))

pub stream_run-requires-in_default : goal.stream_run-requires-in_default
stream_run-requires-in_default g c = let a = c.args in modes.asked (unpacked a.ram.now) (2 * a.at) a.m a.bank a.bytes.now (c.requires.0, c.requires.1) 4 _ (omega arith) (omega (arith, c.requires.2))

pub returns-in-1 : goal.returns-in-1
returns-in-1 g c = let a = c.args in
    modes.told (unpacked a.ram.now) (2 * a.at) a.m a.bank a.bytes.now (c.requires.0, c.requires.1) 1 (λ i. stream (i * g.row.BACK) a.before a.bytes.now) _ c.in-1.is
    (c.stream_run.ensures ∙ ap (λ (s : ℕ). put_run 1 (bank_row 1 a.bank) (2 * a.at) (stream s a.before a.bytes.now) (unpacked a.ram.now)) {y = 1 * g.row.BACK} (omega arith))

pub returns-in-2 : goal.returns-in-2
returns-in-2 g c = let a = c.args in modes.told (unpacked a.ram.now) (2 * a.at) a.m a.bank a.bytes.now (c.requires.0, c.requires.1) 2 (λ i. stream (i * g.row.BACK) a.before a.bytes.now) _ c.in-2.is c.stream_run-in-2.ensures

pub returns-in_default : goal.returns-in_default
returns-in_default g c = let a = c.args in modes.told (unpacked a.ram.now) (2 * a.at) a.m a.bank a.bytes.now (c.requires.0, c.requires.1) 4 (λ i. stream (i * g.row.BACK) a.before a.bytes.now) _ (omega arith) c.stream_run-in_default.ensures
