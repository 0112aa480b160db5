-- `packed_ram::stream_run` meets its contract: after i turns the first i bytes of the stream are written.
-- Assumes nothing.
use Prim.Native.Nat.{◌+◌, ◌-◌, ◌*◌, ◌/◌, ◌≤◌, ◌<◌, ℕ}
use mathlib.Core.Logic.{◌≢◌}
use mathlib.Core.List.{List}
use mathlib.Core.Path.{◌≡◌, sym, ap, ◌∙◌}
use native.Mathlib.Nat.{mul-add, mul_assoc}
use native.Mathlib.Omega.{arith}
use lib.ListN.{length}
use Rattle.sheet.specs.Data.{width_of}
use Rattle.packed_sheet.specs.Packed.{unpacked}
use Rattle.laws.proofs.Packed.{length-unpacked}
use Rattle.packed_ram.proofs.Bytes.{as_long, room}
use Rattle.packed_ram.proofs.Stream.{halves, stream-begun, stream-done, packed-turn}
use Rattle.packed_ram.proofs.stream_run.Goals as goal

-- a byte covers twice as many columns as packed bytes
twice : (m : ℕ) {w : ℕ} → w ≡ width_of m → 0 < m → m < 5 → m ≢ 3 → 2 * (w / 2) ≡ width_of m
twice m e some four odd = ap (λ n. 2 * (n / 2)) e ∙ halves m some four odd

-- the bytes of this turn are there, where the RAM is as long as it was
there : (at m i w n : ℕ) (ram₀ ram : List ℕ) → 2 * (w / 2) ≡ width_of m → width_of m * n ≤ length (unpacked ram₀) - 2 * at → i < n → length ram ≡ length ram₀
    → 2 * (at + w / 2 * i) + width_of m ≤ 2 * length ram
there at m i w n ram₀ ram double fit l long =
    omega (
      arith,
      room (width_of m) n i (2 * at) (length (unpacked ram₀)) (omega arith) fit l,
      mul-add 2 at (w / 2 * i) ∙ ap (λ k. 2 * at + k) (sym (mul_assoc 2 (w / 2) i) ∙ ap (λ k. k * i) double),
      length-unpacked ram₀,
      long,
    )

pub stream_byte-requires : goal.stream_byte-requires
stream_byte-requires c = (c.requires.0.some, c.requires.0.four, c.requires.1, c.requires.0.two, there c.args.at c.args.m c.loop-i.i c.width-each.result (length c.args.bytes.now) c.args.ram.now c.loop-i.ram (twice c.args.m c.width-each.ensures c.requires.0.some c.requires.0.four c.requires.1) c.requires.0.fit c.loop-i-test.true (as_long c.args.ram.now c.loop-i.ram c.loop-i.invariant.run))

pub loop-i-preserved : goal.loop-i-preserved
loop-i-preserved c = packed-turn (c.width-each.result / 2) c.args.at c.loop-i.ram _ (twice c.args.m c.width-each.ensures c.requires.0.some c.requires.0.four c.requires.1) c.loop-i-test.true c.earlier_byte.ensures c.stream_byte.ensures c.loop-i.invariant

pub loop-i-init : goal.loop-i-init
loop-i-init c = stream-begun

pub overflow_mul-each : goal.overflow_mul-each
overflow_mul-each c = omega (arith, there c.args.at c.args.m c.loop-i.i c.width-each.result (length c.args.bytes.now) c.args.ram.now c.loop-i.ram (twice c.args.m c.width-each.ensures c.requires.0.some c.requires.0.four c.requires.1) c.requires.0.fit c.loop-i-test.true (as_long c.args.ram.now c.loop-i.ram c.loop-i.invariant.run), as_long c.args.ram.now c.loop-i.ram c.loop-i.invariant.run)

pub overflow_add-at : goal.overflow_add-at
overflow_add-at c = omega (arith, there c.args.at c.args.m c.loop-i.i c.width-each.result (length c.args.bytes.now) c.args.ram.now c.loop-i.ram (twice c.args.m c.width-each.ensures c.requires.0.some c.requires.0.four c.requires.1) c.requires.0.fit c.loop-i-test.true (as_long c.args.ram.now c.loop-i.ram c.loop-i.invariant.run), as_long c.args.ram.now c.loop-i.ram c.loop-i.invariant.run)

pub returns : goal.returns
returns c = stream-done c.loop-i-test.false c.loop-i.invariant
