-- `packed_words::cut_columns` meets its contract: the bytes that are left have the columns that are left.
-- Assumes nothing.
use mathlib.Core.Path.{ap, ◌∙◌}
use Prim.Native.Nat.{◌+◌, ◌-◌, ◌*◌, ◌/◌}
use native.Mathlib.Nat.{div-add-mod', mod-lt}
use native.Mathlib.Omega.{arith}
use lib.ListN.{length}
use Rattle.packed_sheet.specs.Packed.{unpacked}
use Rattle.packed_words.proofs.Placed.{even-edge, odd-edge}
use Rattle.packed_words.proofs.cut_columns.Goals as goal

pub returns-then-v-eq0 : goal.returns-then-v-eq0
returns-then-v-eq0 c = let a = c.args in
    let left = length a.ram.now - a.v / 2 in
    λ w l. ap unpacked c.put_bytes.ensures
    ∙ even-edge w a.rows a.t a.v a.ram.now left (w - 2 * left) (omega (arith, c.requires.0, div-add-mod' a.v 2)) (omega (arith, c.requires.0, l, div-add-mod' a.v 2, c.if-v-eq0.true)) c.if-v-eq0.true

pub returns-else-v-eq0 : goal.returns-else-v-eq0
returns-else-v-eq0 c = let a = c.args in
    let left = length a.ram.now - a.v / 2 in
    let odd = div-add-mod' a.v 2 in
    λ w l. ap unpacked c.put_bytes-else-v-eq0.ensures
    ∙ odd-edge w a.rows a.t a.v a.ram.now left (w + 1 - 2 * left) (omega (arith, c.requires.0, odd)) (omega (arith, c.requires.0, odd)) (omega (arith, c.requires.0, l, odd, mod-lt a.v {m = 2} (omega arith), c.if-v-eq0.false)) c.if-v-eq0.false
