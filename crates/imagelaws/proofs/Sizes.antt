-- How long a file is, and its data lines one after the other; what the checks leave of a group's RAM.
-- Assumes nothing.
use mathlib.Core.Path.{◌≡◌, ap, ◌∙◌}
use mathlib.Core.List.{List, [], ◌++◌}
use Prim.Native.Nat.{ℕ, zero, suc, ◌+◌, ◌-◌, ◌*◌, ◌/◌, ◌%◌, ◌≤◌, ◌<◌}
use native.Mathlib.Nat.{add-zero}
use native.Mathlib.Omega.{arith}
use lib.Dec.{eqb, leb}
use lib.ListN.{length, take, drop, length-take, length-drop, length-append}
use lib.Seq.{drop-drop}
use borrow.Author.Tests.{eqb-true, leb-true}
use Rattle.std.specs.Prelude.{Ok}
use Rattle.sheet.specs.declared.Refusal.TheVariants.{RamLength, LongLog}
use Rattle.sheet.specs.Parts.{part_of}
use Rattle.sheet.specs.Checks.{unless, or_else, over_in, check_part, check_chips, check_ram, check_power_on}
use Rattle.image_sheet.specs.Hex.{record_of, line_of, data_lines, file_of, one_group}
use Rattle.image_sheet.specs.Images.{check_file}
use Rattle.laws.proofs.Fits.{both_pass, unless-passes, few-chips}
use Rattle.laws.proofs.Named.{ram-small, by-sixteen}
use Rattle.laws.proofs.Nibbles.{Nibbles, nibbles-of}
use Rattle.laws.proofs.Hexadecimal.{length-line}

-- ---- the file

-- two digits a column, and twelve characters a record
length_data : (k address : ℕ) (columns : List ℕ) → length columns ≤ 16 * k → 16 * k < length columns + 16 → length (data_lines k address columns) ≡ 2 * length columns + 12 * k
unfolding data_lines
length_data zero address columns h l = omega arith
length_data (suc k) address columns h l =
    let line = line_of (record_of 0 address (take 16 columns)) in
    omega (arith, length-append line (data_lines k (address + 16) (drop 16 columns)), length-line 0 address (take 16 columns), length-take 16 columns, length-drop 16 columns, length_data k (address + 16) (drop 16 columns) (omega (arith, length-drop 16 columns)) (omega (arith, length-drop 16 columns)))

pub length-file : (ram : List ℕ) → length (file_of ram) ≡ 2 * length ram + 12 * ((length ram + 15) / 16) + 12
unfolding file_of
length-file ram =
    omega (arith, length-append (data_lines ((length ram + 15) / 16) 0 ram) (line_of (record_of 1 0 [])), length_data ((length ram + 15) / 16) 0 ram (omega arith) (omega arith), length-line 1 0 [])

-- the data lines from an address on
abbrev pub lines_from : List ℕ → ℕ → List ℕ
lines_from ram address = data_lines ((length ram - address + 15) / 16) address (drop address ram)

pub one_line : (ram : List ℕ) (address : ℕ) → address < length ram → lines_from ram address ≡ line_of (record_of 0 address (take (address + 16 - address) (drop address ram))) ++ lines_from ram (address + 16)
unfolding data_lines
one_line ram address h =
    let count : (length ram - address + 15) / 16 ≡ suc ((length ram - (address + 16) + 15) / 16) = omega arith in
    let sixteen : address + 16 - address ≡ 16 = omega arith in
    rw (count, sixteen, drop-drop 16 address ram)

pub no_line : (ram : List ℕ) (address : ℕ) → length ram ≤ address → lines_from ram address ≡ []
unfolding data_lines
no_line ram address h = let none : (length ram - address + 15) / 16 ≡ 0 = omega arith in rw none

-- ---- a group's RAM that passed: whole sixteens, and 640 columns at most

pub record Group (part n : ℕ) (ram : List ℕ) : Type 0 where
  pub chips : check_chips (part_of part) (one_group n) ≡ Ok tt
  pub size : length ram ≡ (part_of part).columns * n
  pub low : Nibbles ram
  pub sixteens : length ram % 16 ≡ 0
  pub few : length ram ≤ 640

pub group_of : (part n : ℕ) (ram : List ℕ) → or_else (check_part part) (check_power_on (part_of part) (one_group n) ram) ≡ Ok tt → Group part n ram
unfolding check_power_on check_ram
group_of part n ram e =
    let K = part_of part in
    let s = (both_pass (check_part part) _ e).1 in
    let t = both_pass (check_chips K (one_group n)) _ s in
    let u = both_pass (unless (eqb (length ram) (K.columns * (n + 0))) RamLength) (over_in 0 ram) t.1 in
    let size : length ram ≡ K.columns * n = eqb-true (length ram) (K.columns * (n + 0)) (unless-passes _ RamLength u.0) ∙ ap (λ (k : ℕ). K.columns * k) (add-zero n) in
    record {
      chips = t.0;
      size = size;
      low = nibbles-of 0 ram u.1;
      sixteens = ap (λ (k : ℕ). k % 16) size ∙ by-sixteen part n;
      few = omega (arith, size, ram-small part n (few-chips K (one_group n) t.0).0);
    }

-- ---- a file that is to be read: its length, and the output's

pub record Asked (part n file out : ℕ) : Type 0 where
  pub short : file ≤ 65536
  pub size : out ≡ (part_of part).columns * n
  pub few : out ≤ 640

pub asked_of : (part n file out : ℕ) → check_file part n file out ≡ Ok tt → Asked part n file out
unfolding check_file
asked_of part n file out e =
    let K = part_of part in
    let s = (both_pass (check_part part) _ e).1 in
    let t = both_pass (check_chips K (one_group n)) _ s in
    let u = both_pass (unless (leb file 65536) LongLog) (unless (eqb out (K.columns * n)) RamLength) t.1 in
    let size = eqb-true out (K.columns * n) (unless-passes _ RamLength u.1) in
    record { short = leb-true file 65536 (unless-passes _ LongLog u.0); size = size; few = omega (arith, size, ram-small part n (few-chips K (one_group n) t.0).0) }
