-- `packed_ram::three_run` meets its contract: from an even column on, or the byte that begins at an odd one and then the others.
-- Assumes nothing.
use mathlib.Core.Path.{◌≡◌, sym, ap, ap₂, ◌∙◌}
use mathlib.Core.Logic.{◌≢◌}
use mathlib.Core.List.{List}
use Prim.Native.Nat.{ℕ, ◌+◌, ◌*◌, ◌/◌, ◌%◌, ◌<◌}
use native.Mathlib.Nat.{div-add-mod', mod-lt}
use native.Mathlib.Omega.{arith}
use lib.ListN.{length, take, drop, length-drop, take-append-drop, drop_of_length-le}
use lib.Seq.{length-take-le}
use Rattle.lemmas.proofs.Lists.{part-rest}
use Rattle.sheet.specs.Runs.{put_run}
use Rattle.packed_sheet.specs.Packed.{unpacked}
use Rattle.laws.proofs.Packed.{length-unpacked}
use Rattle.laws.proofs.Runs.{length_run}
use Rattle.ram.proofs.Runs.{run-append}
use Rattle.packed_ram.proofs.three_run.Goals as goal

even : (v : ℕ) → v % 2 ≡ 0 → 2 * (v / 2) ≡ v
even v e = omega (arith, div-add-mod' v 2, e)

-- three columns past an odd one
odd : (v : ℕ) → v % 2 ≢ 0 → 2 * (v / 2 + 2) ≡ v + 3
odd v e = omega (arith, div-add-mod' v 2, mod-lt v {m = 2} (omega arith), e)

one : (bytes : List ℕ) → 0 < length bytes → length (take 1 bytes) ≡ 1
one bytes h = length-take-le 1 bytes (omega arith)

-- the RAM is as long as it was
same : (v : ℕ) (xs ram after : List ℕ) → unpacked after ≡ put_run 3 0 v xs (unpacked ram) → length after ≡ length ram
same v xs ram after e = omega (arith, ap length e ∙ length_run 3 0 v xs (unpacked ram), length-unpacked after, length-unpacked ram)

pub three_even-requires-then-bytes-gt0 : goal.three_even-requires-then-bytes-gt0
three_even-requires-then-bytes-gt0 c = let bytes = c.args.bytes.now in
    (omega (arith, c.requires.0, same c.args.v (take 1 c.args.bytes.now) c.args.ram.now c.three_bytes.new.ram c.three_bytes.ensures, odd c.args.v c.if-v-eq0.false, ap length (part-rest bytes 1), length-drop 1 bytes), omega (arith, c.requires.1, same c.args.v (take 1 c.args.bytes.now) c.args.ram.now c.three_bytes.new.ram c.three_bytes.ensures))

pub returns-then-bytes-gt0 : goal.returns-then-bytes-gt0
returns-then-bytes-gt0 c = let a = c.args in
    let bytes = a.bytes.now in
    let ram = unpacked a.ram.now in
    c.three_even-then-bytes-gt0.ensures
    ∙ ap₂ (λ (xs l : List ℕ). put_run 3 0 (2 * (a.v / 2 + 2)) xs l) (part-rest bytes 1) c.three_bytes.ensures
    ∙ ap (λ (k : ℕ). put_run 3 0 k (drop 1 bytes) (put_run 3 0 a.v (take 1 bytes) ram)) (odd a.v c.if-v-eq0.false)
    ∙ ap (λ (n : ℕ). put_run 3 0 (a.v + 3 * n) (drop 1 bytes) (put_run 3 0 a.v (take 1 bytes) ram)) (sym (one c.args.bytes.now c.if-bytes-gt0.true))
    ∙ sym (run-append 3 0 a.v (take 1 bytes) (drop 1 bytes) ram)
    ∙ ap (λ (xs : List ℕ). put_run 3 0 a.v xs ram) (take-append-drop 1 bytes)

pub returns-else-bytes-gt0 : goal.returns-else-bytes-gt0
unfolding put_run
returns-else-bytes-gt0 c = let a = c.args in
    sym (ap (λ (xs : List ℕ). put_run 3 0 a.v xs (unpacked a.ram.now)) (drop_of_length-le a.bytes.now {i = 0} c.if-bytes-gt0.false))

pub three_even-requires : goal.three_even-requires
three_even-requires c = (omega (arith, c.requires.0, even c.args.v c.if-v-eq0.true), c.requires.1)

pub slice_bounds-three_bytes-end : goal.slice_bounds-three_bytes-end
slice_bounds-three_bytes-end c = sym (one c.args.bytes.now c.if-bytes-gt0.true)

pub three_bytes-requires : goal.three_bytes-requires
three_bytes-requires c = (omega (arith, c.requires.0, c.if-bytes-gt0.true, one c.args.bytes.now c.if-bytes-gt0.true), c.requires.1)

pub returns-then-v-eq0 : goal.returns-then-v-eq0
returns-then-v-eq0 c = let a = c.args in c.three_even.ensures ∙ ap (λ (k : ℕ). put_run 3 0 k a.bytes.now (unpacked a.ram.now)) (even a.v c.if-v-eq0.true)
