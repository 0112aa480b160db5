-- `packed_ram::three_even` meets its contract: the bytes by fours, and those that are left.
-- Assumes nothing.
use mathlib.Core.Path.{◌≡◌, sym, ap, ap₂, ◌∙◌}
use mathlib.Core.List.{List}
use Prim.Native.Nat.{ℕ, ◌+◌, ◌-◌, ◌*◌, ◌/◌, ◌<◌, ◌≤◌}
use native.Mathlib.Omega.{arith}
use lib.ListN.{length, take, drop, length-drop, take-append-drop}
use lib.Seq.{length-take-le, take_all}
use Rattle.lemmas.proofs.Lists.{part-rest}
use Rattle.sheet.specs.Runs.{put_run}
use Rattle.packed_sheet.specs.Packed.{unpacked}
use Rattle.laws.proofs.Packed.{length-unpacked}
use Rattle.laws.proofs.Runs.{length_run}
use Rattle.ram.proofs.Runs.{run-append}
use Rattle.packed_ram.proofs.three_even.Goals as goal

-- the bytes by fours
abbrev fours : List ℕ → ℕ
fours bytes = length bytes / 4 * 4

long : (bytes : List ℕ) → length (take (fours bytes) bytes) ≡ fours bytes
long bytes = length-take-le (fours bytes) bytes (omega arith)

pub three_fours-requires : goal.three_fours-requires
three_fours-requires c = (omega (arith, long c.args.bytes.now, c.requires.0), c.requires.1, rw (long c.args.bytes.now) (omega arith))

-- the RAM is as long as it was
same : (v : ℕ) (xs ram after : List ℕ) → unpacked after ≡ put_run 3 0 v xs (unpacked ram) → length after ≡ length ram
same v xs ram after e = omega (arith, ap length e ∙ length_run 3 0 v xs (unpacked ram), length-unpacked after, length-unpacked ram)

pub three_bytes-requires : goal.three_bytes-requires
three_bytes-requires c = let bytes = c.args.bytes.now in
    (omega (arith, c.requires.0, same (2 * c.args.at) (take (fours c.args.bytes.now) c.args.bytes.now) c.args.ram.now c.three_fours.new.ram c.three_fours.ensures, ap length (part-rest bytes (fours c.args.bytes.now)), length-drop (fours c.args.bytes.now) bytes), omega (arith, c.requires.1, same (2 * c.args.at) (take (fours c.args.bytes.now) c.args.bytes.now) c.args.ram.now c.three_fours.new.ram c.three_fours.ensures))

pub returns-then-fours-bytes : goal.returns-then-fours-bytes
returns-then-fours-bytes c = let bytes = c.args.bytes.now in
    let v = 2 * c.args.at in
    let ram = unpacked c.args.ram.now in
    c.three_bytes.ensures
    ∙ ap₂ (λ (xs l : List ℕ). put_run 3 0 (v + 3 * fours c.args.bytes.now) xs l) (part-rest bytes (fours c.args.bytes.now)) c.three_fours.ensures
    ∙ ap (λ (n : ℕ). put_run 3 0 (v + 3 * n) (drop (fours c.args.bytes.now) bytes) (put_run 3 0 v (take (fours c.args.bytes.now) bytes) ram)) (sym (long c.args.bytes.now))
    ∙ sym (run-append 3 0 v (take (fours c.args.bytes.now) bytes) (drop (fours c.args.bytes.now) bytes) ram)
    ∙ ap (λ (xs : List ℕ). put_run 3 0 v xs ram) (take-append-drop (fours c.args.bytes.now) bytes)

pub returns-else-fours-bytes : goal.returns-else-fours-bytes
returns-else-fours-bytes c = let a = c.args in
    c.three_fours.ensures ∙ ap (λ (xs : List ℕ). put_run 3 0 (2 * a.at) xs (unpacked a.ram.now)) (take_all _ a.bytes.now c.if-fours-bytes.false)

-- where bytes are left, the columns of all of them are there
few : (at n size : ℕ) → n / 4 * 4 < n → 3 * n ≤ 2 * size - 2 * at → size < 65536 → 2 * at + 3 * (n / 4 * 4) < 131072
few at n size l h s = omega arith

pub slice_bounds-three_fours-end : goal.slice_bounds-three_fours-end
slice_bounds-three_fours-end c = sym (long c.args.bytes.now)

pub overflow_mul-at : goal.overflow_mul-at
overflow_mul-at c = omega (arith, few c.args.at (length c.args.bytes.now) (length c.args.ram.now) c.if-fours-bytes.true c.requires.0 c.requires.1)

pub overflow_mul-fours-then-fours-bytes : goal.overflow_mul-fours-then-fours-bytes
overflow_mul-fours-then-fours-bytes c = omega (arith, few c.args.at (length c.args.bytes.now) (length c.args.ram.now) c.if-fours-bytes.true c.requires.0 c.requires.1)

pub overflow_add-at : goal.overflow_add-at
overflow_add-at c = omega (arith, few c.args.at (length c.args.bytes.now) (length c.args.ram.now) c.if-fours-bytes.true c.requires.0 c.requires.1)

pub shape_of-ram-else-fours-bytes : goal.shape_of-ram-else-fours-bytes
shape_of-ram-else-fours-bytes c = same (2 * c.args.at) (take (fours c.args.bytes.now) c.args.bytes.now) c.args.ram.now c.three_fours.new.ram c.three_fours.ensures
