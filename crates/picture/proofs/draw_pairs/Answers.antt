-- `picture::draw_pairs` meets its contract: after i turns the first 2 i columns are written.
-- Assumes nothing.
use mathlib.Core.Path.{sym, ap, ◌∙◌}
use mathlib.Core.List.{List}
use Prim.Native.Nat.{ℕ, ◌+◌, ◌*◌, ◌<◌}
use native.Mathlib.Omega.{arith}
use lib.ListN.{length, length-set}
use Rattle.lemmas.proofs.Mapped.{mapped-all}
use Rattle.std.specs.Prelude.{Some}
use Rattle.sheet.specs.Pictures.{lit}
use Rattle.packed_sheet.specs.Packed.{unpacked}
use Rattle.laws.proofs.Packed.{length-unpacked, even-column, odd-column}
use Rattle.picture.proofs.Drawing.{pair_turn}
use Rattle.picture.proofs.draw_pairs.Goals as goal

-- a turn's two columns are there
there : (i : ℕ) (ram : List ℕ) → i < length ram → 2 * i + 1 < length (unpacked ram)
there i ram h = omega (arith, length-unpacked ram)

pub loop-i-preserved : goal.loop-i-preserved
loop-i-preserved c = let a = c.args in
    let i = c.loop-i.i in
    let rows : ℕ → ℕ = λ q. lit a.height (Some a.first) q in
    pair_turn i c.loop-i.invariant (there c.loop-i.i c.args.ram.now c.loop-i-test.true) (c.lit_rows.ensures ∙ ap rows (sym (even-column i a.ram.now))) (c.lit_rows-in-loop-i.ensures ∙ ap rows (sym (odd-column i a.ram.now)))

pub bounds-out-i : goal.bounds-out-i
bounds-out-i c = omega (arith, there c.loop-i.i c.args.ram.now c.loop-i-test.true, c.loop-i.invariant.size)

pub bounds-out-i-in-loop-i : goal.bounds-out-i-in-loop-i
bounds-out-i-in-loop-i c = simp length-set (omega (arith, there c.loop-i.i c.args.ram.now c.loop-i-test.true, c.loop-i.invariant.size))

pub returns : goal.returns
returns c = mapped-all _ _ _ _ (omega (arith, length-unpacked c.args.ram.now, c.loop-i-test.false)) c.loop-i.invariant
