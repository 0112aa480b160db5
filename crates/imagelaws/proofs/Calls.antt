-- The same by the calls: what a call wrote, a call reads back; and a refused file changes nothing.
-- Assumes nothing.
use mathlib.Core.Path.{◌≡◌, refl, sym, ap, ◌∙◌}
use mathlib.Core.Bool.{Bool, true, false, true≢false}
use mathlib.Core.List.{List}
use Prim.Native.Nat.{ℕ, ◌*◌, ◌≤◌}
use native.Mathlib.Omega.{arith}
use lib.ListN.{length, take, drop}
use lib.Seq.{take_at}
use borrow.Author.Tests.{le-leb, leb-true, eq-eqb}
use Rattle.std.specs.Prelude.{Err, Ok}
use Rattle.sheet.specs.Results.{Written, Check}
use Rattle.sheet.specs.declared.Refusal.{Refusal}
use Rattle.sheet.specs.declared.Refusal.TheVariants.{OutputLength}
use Rattle.sheet.specs.Parts.{part_of}
use Rattle.sheet.specs.Checks.{or_else, check_part, check_power_on}
use Rattle.sheet.specs.Written.{written_by, check_room}
use Rattle.image_sheet.specs.Hex.{file_of, one_group, hex_write_part}
use Rattle.image_sheet.specs.Images.{image_of, check_file, hex_read_part}
use Rattle.image_sheet.specs.Covered.{GivesBack, Untouched}
use Rattle.laws.proofs.Fits.{both_pass, unless-passes}
use Rattle.laws.proofs.First.{or-else}
use Rattle.imagelaws.proofs.Sizes.{Group, group_of, length-file}
use Rattle.imagelaws.proofs.Answers.{all_read}
use Rattle.imagelaws.proofs.Back.{file-back}

is-taken : Written → Bool
is-taken (Ok n) = true
is-taken (Err r) = false

bytes-in : Written → ℕ
bytes-in (Ok n) = n
bytes-in (Err r) = 0

-- a writer's call that says how many bytes it wrote passed its checks, and wrote its text
wrote : (k : Check) (text out : List ℕ) (size : ℕ) → (written_by k text out).result ≡ Ok size → (k ≡ Ok tt) × (take size (written_by k text out).out ≡ text)
unfolding is-taken bytes-in
wrote (Ok _) text out size e = (refl, take_at text (drop (length text) out) size (ap bytes-in e))
wrote (Err r) text out size e = absurd (true≢false (sym (ap is-taken e)))

-- and what it wrote lies inside the output
pub written-inside : (part n : ℕ) (ram out : List ℕ) (size : ℕ) → (hex_write_part part n ram out).result ≡ Ok size → size ≤ length out
unfolding hex_write_part is-taken bytes-in
written-inside part n ram out size e =
    let wants = check_power_on (part_of part) (one_group n) ram in
    let room = check_room (file_of ram) (length out) in
    let k = or_else (check_part part) (or_else wants room) in
    let passes = (wrote k (file_of ram) out size e).0 in
    let fits = leb-true (length (file_of ram)) (length out) (unless-passes _ OutputLength (both_pass wants room (both_pass (check_part part) (or_else wants room) passes).1).1) in
    let same : length (file_of ram) ≡ size = ap bytes-in (sym (ap (λ (c : Check). (written_by c (file_of ram) out).result) passes) ∙ e) in
    omega arith

-- a group's file is short enough to be read, for as many columns
can_read : (part n : ℕ) (ram back : List ℕ) → check_part part ≡ Ok tt → Group part n ram → length back ≡ length ram → check_file part n (length (file_of ram)) (length back) ≡ Ok tt
unfolding check_file
can_read part n ram back p g size =
    rw (p, g.chips, le-leb (length (file_of ram)) 65536 (omega (arith, length-file ram, g.few)), eq-eqb (length back) ((part_of part).columns * n) (size ∙ g.size))

pub gives_back : (part n : ℕ) (ram out back : List ℕ) → GivesBack part n ram out back
unfolding hex_write_part
gives_back part n ram out back size taken same =
    let wants = check_power_on (part_of part) (one_group n) ram in
    let room = check_room (file_of ram) (length out) in
    let w = wrote (or_else (check_part part) (or_else wants room)) (file_of ram) out size taken in
    let passes = (both_pass (or_else (check_part part) wants) room (sym (or-else (check_part part) wants room) ∙ w.0)).0 in
    let g = group_of part n ram passes in
    ap (λ (l : List ℕ). hex_read_part part n l back) w.1
    ∙ sym (all_read part n (file_of ram) back (can_read part n ram back (both_pass (check_part part) wants passes).0 g same) ram
    (sym (file-back ram g.low (omega (arith, g.few))) ∙ ap (λ (k : ℕ). image_of k (file_of ram)) g.size) (sym same))
    ∙ ap (λ (k : ℕ). record { result = Ok k; out = ram }) same

-- whatever refuses a file, and wherever
untouched-by : (k : Check) (columns out : List ℕ) (r : Refusal) → (written_by k columns out).result ≡ Err r → (written_by k columns out).out ≡ out
unfolding is-taken
untouched-by (Ok _) columns out r e = absurd (true≢false (ap is-taken e))
untouched-by (Err x) columns out r e = refl

pub untouched : (part n : ℕ) (file out : List ℕ) → Untouched part n file out
unfolding hex_read_part
untouched part n file out r e =
    let read = image_of ((part_of part).columns * n) file in
    untouched-by (or_else (check_file part n (length file) (length out)) read.check) read.columns out r e
