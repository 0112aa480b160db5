-- `ram::three_run` meets its contract: the bytes by fours, and those that are left.
-- Assumes nothing.
use mathlib.Core.Path.{◌≡◌, sym, ap, ap₂, ◌∙◌}
use mathlib.Core.List.{List}
use Prim.Native.Nat.{ℕ, ◌+◌, ◌*◌, ◌/◌}
use native.Mathlib.Omega.{arith}
use lib.ListN.{length, take, drop, length-drop, take-append-drop}
use lib.Seq.{length-take-le}
use Rattle.lemmas.proofs.Lists.{part-rest}
use Rattle.sheet.specs.Runs.{put_run}
use Rattle.laws.proofs.Runs.{length_run}
use Rattle.ram.proofs.Runs.{run-append}
use Rattle.ram.proofs.three_run.Goals as goal

-- the bytes by fours
abbrev fours : List ℕ → ℕ
fours bytes = length bytes / 4 * 4

long : (bytes : List ℕ) → length (take (fours bytes) bytes) ≡ fours bytes
long bytes = length-take-le (fours bytes) bytes (omega arith)

pub slice_bounds-three_fours-end : goal.slice_bounds-three_fours-end
slice_bounds-three_fours-end c = sym (long c.args.bytes.now)

pub three_fours-requires : goal.three_fours-requires
three_fours-requires c = (omega (arith, long c.args.bytes.now, c.requires.0), c.requires.1, rw (long c.args.bytes.now) (omega arith))

pub three_bytes-requires : goal.three_bytes-requires
three_bytes-requires c = let bytes = c.args.bytes.now in
    omega (arith, c.requires.0, ap length c.three_fours.ensures ∙ length_run 3 0 c.args.v (take (fours c.args.bytes.now) bytes) c.args.ram.now, ap length (part-rest bytes (fours c.args.bytes.now)), length-drop (fours c.args.bytes.now) bytes)

pub returns : goal.returns
returns c = let bytes = c.args.bytes.now in
    let ram = c.args.ram.now in
    c.three_bytes.ensures
    ∙ ap₂ (λ (xs l : List ℕ). put_run 3 0 (c.args.v + 3 * fours c.args.bytes.now) xs l) (part-rest bytes (fours c.args.bytes.now)) c.three_fours.ensures
    ∙ ap (λ (n : ℕ). put_run 3 0 (c.args.v + 3 * n) (drop (fours c.args.bytes.now) bytes) (put_run 3 0 c.args.v (take (fours c.args.bytes.now) bytes) ram)) (sym (long c.args.bytes.now))
    ∙ sym (run-append 3 0 c.args.v (take (fours c.args.bytes.now) bytes) (drop (fours c.args.bytes.now) bytes) ram)
    ∙ ap (λ (xs : List ℕ). put_run 3 0 c.args.v xs ram) (take-append-drop (fours c.args.bytes.now) bytes)
