-- `packed_words::put_columns` meets its contract, from an even column on and from an odd one.
-- Assumes nothing.
use mathlib.Core.Path.{ap, ◌∙◌}
use Prim.Native.Nat.{◌+◌, ◌-◌, ◌*◌, ◌/◌}
use native.Mathlib.Nat.{div-add-mod', mod-lt}
use native.Mathlib.Omega.{arith}
use Rattle.packed_sheet.specs.Packed.{unpacked}
use Rattle.packed_words.proofs.Placed.{rows_lt, even-columns, odd-columns}
use Rattle.packed_words.proofs.put_columns.Goals as goal

pub overflow_mul-rows : goal.overflow_mul-rows
overflow_mul-rows c = omega (arith, rows_lt c.args.w c.args.rows c.requires.1 c.requires.2)

pub returns-then-v-eq0 : goal.returns-then-v-eq0
returns-then-v-eq0 c = let a = c.args in
    let n = (a.w + 1) / 2 in
    ap unpacked c.put_bytes.ensures
    ∙ even-columns a.w a.rows a.t a.v a.ram.now n (2 * n - a.w) (omega (arith, div-add-mod' (a.w + 1) 2, mod-lt (a.w + 1) {m = 2} (omega arith))) c.if-v-eq0.true c.requires.2

pub returns-else-v-eq0 : goal.returns-else-v-eq0
returns-else-v-eq0 c = let a = c.args in
    let n = a.w / 2 + 1 in
    ap unpacked c.put_bytes-else-v-eq0.ensures
    ∙ odd-columns a.w a.rows a.t a.v a.ram.now n (2 * n - (a.w + 1)) (omega (arith, div-add-mod' a.w 2, mod-lt a.w {m = 2} (omega arith))) c.if-v-eq0.false c.requires.2
