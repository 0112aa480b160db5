-- `packed_ram::three_bytes` meets its contract: after i turns the first i bytes are written.
-- Assumes nothing.
use mathlib.Core.Path.{◌∙◌}
use Prim.Native.Nat.{◌+◌, ◌*◌}
use native.Mathlib.Omega.{arith}
use lib.ListN.{get_or}
use Rattle.packed_sheet.specs.Packed.{unpacked}
use Rattle.laws.proofs.Packed.{never-over}
use Rattle.ram.proofs.Runs.{begun, turn, small}
use Rattle.packed_ram.proofs.Bytes.{three-put}
use Rattle.packed_ram.proofs.three_bytes.Goals as goal

pub loop-i-preserved : goal.loop-i-preserved
loop-i-preserved c = let a = c.args in
    let i = c.loop-i.i in
    turn c.loop-i-test.true
    (c.put_columns.ensures
    ∙ three-put (get_or a.bytes.now i 0) (a.v + 3 * i) c.three_columns.result (unpacked c.loop-i.ram) (small (omega arith) (omega arith) (never-over a.ram.now (λ k. (c.slice_known-1.given k).fits)) c.loop-i.invariant) c.three_columns.ensures)
    c.loop-i.invariant

pub loop-i-init : goal.loop-i-init
loop-i-init c = begun
