-- `packed_ram::whole_bytes` meets its contract: 1:3, an even column, an odd one, and no byte.
-- Assumes nothing.
use mathlib.Core.Path.{◌≡◌, sym, ap, ap₂, ◌∙◌, subst}
use mathlib.Core.List.{List}
use Prim.Native.Nat.{ℕ, ◌-◌, ◌*◌, ◌/◌, ◌%◌, ◌≤◌}
use native.Mathlib.Nat.{div-add-mod', mul-zero}
use native.Mathlib.Omega.{arith}
use lib.ListN.{length, drop_of_length-le}
use Rattle.sheet.specs.Registers.{bank_row}
use Rattle.sheet.specs.Data.{width_of}
use Rattle.sheet.specs.Runs.{put_run}
use Rattle.packed_sheet.specs.Packed.{unpacked}
use Rattle.laws.proofs.Packed.{length-unpacked}
use Rattle.packed_ram.specs.Stream.{stream}
use Rattle.packed_ram.proofs.Stream.{stream-none}
use Rattle.packed_ram.proofs.whole_bytes.Goals as goal

pub three_run-requires : goal.three_run-requires
three_run-requires c = let a = c.args in
    let fit = subst (λ (m : ℕ). width_of m * length a.bytes.now ≤ length (unpacked a.ram.now) - a.v) c.if-m-eq3.true c.requires.0.fit in
    (omega (arith, fit, length-unpacked a.ram.now), c.requires.1)

even : (v : ℕ) → v % 2 ≡ 0 → 2 * (v / 2) ≡ v
even v e = omega (arith, div-add-mod' v 2, e)

pub shifted_run-requires : goal.shifted_run-requires
shifted_run-requires c = let h = c.requires.0 in
    (record { some = h.some; four = h.four; two = h.two; fit = omega (arith, h.fit, even c.args.v c.if-v-eq0.true); nibbles = h.nibbles }, c.if-m-eq3.false, omega arith)

pub returns-then-m-eq3 : goal.returns-then-m-eq3
unfolding bank_row
returns-then-m-eq3 c = let a = c.args in
    c.three_run.ensures ∙ ap (λ (m : ℕ). put_run m (bank_row m a.bank) a.v a.bytes.now (unpacked a.ram.now)) (sym c.if-m-eq3.true)

pub returns-then-v-eq0 : goal.returns-then-v-eq0
returns-then-v-eq0 c = let a = c.args in
    c.shifted_run.ensures
    ∙ ap (λ (s : ℕ). put_run a.m (bank_row a.m a.bank) (2 * (a.v / 2)) (stream s 0 a.bytes.now) (unpacked a.ram.now)) (mul-zero a.m)
    ∙ ap₂ (λ (v : ℕ) (xs : List ℕ). put_run a.m (bank_row a.m a.bank) v xs (unpacked a.ram.now)) (even a.v c.if-v-eq0.true) (stream-none 0 a.bytes.now (λ i. (c.shared_slice_known-1.given i).fits))

pub returns-else-bytes-gt0 : goal.returns-else-bytes-gt0
unfolding put_run
returns-else-bytes-gt0 c = let a = c.args in
    sym (ap (λ (xs : List ℕ). put_run a.m (bank_row a.m a.bank) a.v xs (unpacked a.ram.now)) (drop_of_length-le a.bytes.now {i = 0} c.if-bytes-gt0.false))
