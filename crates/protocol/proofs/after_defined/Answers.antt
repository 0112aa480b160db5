-- `protocol::after_defined` meets its contract: a block that is all commands is passed over.
-- Assumes nothing.
use mathlib.Core.Path.{◌≡◌, sym, ap, ◌∙◌}
use mathlib.Core.Bool.{true}
use Prim.Native.Nat.{ℕ}
use native.Mathlib.Nat.{add-sub_cancel_left}
use native.Mathlib.Omega.{arith}
use lib.ListN.{take, drop}
use Rattle.sheet.specs.Parts.{part_of}
use Rattle.protocol.specs.Left.{all_defined}
use Rattle.protocol.proofs.Commands.{block_passed}
use Rattle.protocol.proofs.after_defined.Goals as goal

pub loop-i-preserved : goal.loop-i-preserved
loop-i-preserved c = let a = c.args in
    let K = part_of a.part in
    let i = c.loop-i.i in
    let bytes = a.bytes.now in
    let passed : all_defined K (take 64 (drop i bytes)) ≡ true =
    ap (λ (n : ℕ). all_defined K (take n (drop i bytes))) (sym (add-sub_cancel_left i 64)) ∙ sym c.all_defined.ensures ∙ c.if-all_defined.true in
    (block_passed K bytes i 64 (omega arith) passed ∙ c.loop-i.invariant.0, omega arith)
