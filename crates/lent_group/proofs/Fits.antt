-- A run of data all of whose columns are there: every byte is stored and acknowledged, the last by the chip that has the last column.
-- Assumes nothing.
use mathlib.Core.Path.{◌≡◌, sym, ap, ◌∙◌}
use mathlib.Core.Bool.{true, ◌&&◌}
use mathlib.Core.List.{List}
use Prim.Native.Nat.{ℕ, zero, suc, ◌+◌, ◌-◌, ◌*◌, ◌/◌, ◌≤◌, ◌<◌, min}
use native.Mathlib.Nat.{not-suc-le-zero, le-div_iff_mul-le, mul_comm, mul-suc}
use native.Mathlib.Omega.{arith}
use lib.Dec.{eqb, ltb}
use lib.ListN.{length, get_or, drop, length-drop}
use borrow.Author.Tests.{eqb-true, ltb-true, leb-true, lt-ltb}
use Rattle.lemmas.proofs.Tests.{both_true}
use Rattle.sheet.specs.declared.Registers.{Registers}
use Rattle.sheet.specs.declared.Chips.{Chips}
use Rattle.sheet.specs.declared.Counts.{Counts}
use Rattle.std.specs.Prelude.{None, Some}
use Rattle.sheet.specs.Results.{Acknowledger}
use Rattle.sheet.specs.declared.Expect.TheVariants.{Control}
use Rattle.sheet.specs.Parts.{Part}
use Rattle.sheet.specs.Registers.{backplanes}
use Rattle.sheet.specs.Places.{position}
use Rattle.sheet.specs.Data.{width_of, acknowledger}
use Rattle.sheet.specs.Runs.{counted_run, last_run, written_by, moved_by}
use Rattle.sheet.specs.Protocol.{whole, whole_of}
use Rattle.sheet.specs.Long.{Group, heard, columns_of, with_columns}
use Rattle.laws.proofs.Counts.{stored_of, counted-at-once}
use Rattle.laws.proofs.Runs.{run-at-once, last-at-once}
use Rattle.laws.proofs.Ranges.{InRange, planes_pos}
use Rattle.laws.proofs.Nibbles.{Nibbles}
use Rattle.opening.specs.Opened.{opened_at}
use Rattle.hearing.proofs.Hearing.{at-run}
use Rattle.long.specs.Heard.{heard_in_ram}
use Rattle.lent_group.specs.Sets.{run_end, is_fitting}

-- what the test tells
pub record Told (K : Part) (size : ℕ) (r : Registers) (bytes : List ℕ) (bits from : ℕ) : Type 0 where
  pub eight : bits ≡ 8
  pub more : from + 1 < length bytes
  pub run : get_or bytes from 0 ≡ 64
  pub fit : run_end K r bytes from ≤ size

pub told : (K : Part) (size : ℕ) (r : Registers) (bytes : List ℕ) (bits from : ℕ) → is_fitting K size r bytes bits from ≡ true → Told K size r bytes bits from
told K size r bytes bits from e =
    let first = both_true (eqb bits 8 && (ltb (from + 1) (length bytes) && eqb (get_or bytes from 0) 64)) _ e in
    let bit = both_true (eqb bits 8) _ first.0 in
    let byte = both_true (ltb (from + 1) (length bytes)) _ bit.1 in
    record {
      eight = eqb-true bits 8 bit.0;
      more = ltb-true (from + 1) (length bytes) byte.0;
      run = eqb-true (get_or bytes from 0) 64 byte.1;
      fit = leb-true (run_end K r bytes from) size first.1;
    }

counted-whole : (n m v size : ℕ) (t : Counts) → 0 < m → v + width_of m * n ≤ size
    → counted_run n m v size t ≡ record { acknowledged = t.acknowledged + n; stored = t.stored + 8 * n; discarded = t.discarded }
counted-whole n m v size t p h =
    let le : n ≤ (size - v) / width_of m = (le-div_iff_mul-le {k = width_of m} (omega arith)).1 (omega (arith, mul_comm n (width_of m))) in
    let a : min n ((size - v) / width_of m) ≡ n = omega arith in
    let s : stored_of n m (size - v) ≡ 8 * n = omega arith in
    let d : t.discarded + (8 * n - stored_of n m (size - v)) ≡ t.discarded = omega arith in
    counted-at-once n m v size t p ∙ (λ i. record { acknowledged = t.acknowledged + a i; stored = t.stored + s i; discarded = d i })

last-whole : (K : Part) (n m v size : ℕ) (before : Acknowledger) → 0 < n → v + width_of m * n ≤ size
    → last_run K n m v size before ≡ Some ((v + width_of m * n - 1) / K.columns)
unfolding acknowledger
last-whole K zero m v size before p h = absurd (not-suc-le-zero p)
last-whole K (suc n) m v size before p h =
    let e : v + width_of m * n + 7 / m ≡ v + width_of m * suc n - 1 = omega (arith, mul-suc (width_of m) n) in
    let there : v + width_of m * n + 7 / m < size = omega (arith, mul-suc (width_of m) n) in
    last-at-once K n m v size before ∙ rw (lt-ltb _ size there, e)

-- what the group is after it
pub fitting-heard : (K : Part) (r : Registers) (ram bytes : List ℕ) (from : ℕ) → InRange K r → Nibbles ram → length ram ≤ K.columns * K.limit
    → from + 1 < length bytes → get_or bytes from 0 ≡ 64 → run_end K r bytes from ≤ length ram
    → heard K Control (drop from bytes) (opened_at from r ram) ≡ record {
      registers = moved_by K (length bytes - (from + 1)) r;
      ram = written_by K r (drop (from + 1) bytes) ram;
      counts = record { acknowledged = length bytes; stored = 8 * (length bytes - (from + 1)); discarded = 0 };
      last = Some ((run_end K r bytes from - 1) / K.columns);
    }
fitting-heard K r ram bytes from range nibbles few more run fit =
    let n = length bytes - (from + 1) in
    let m = backplanes r in
    let v = position K r in
    let some : 0 < n = omega arith in
    let all : from + 1 + n ≡ length bytes = omega arith in
    let none : 0 + 8 * n ≡ 8 * n = omega arith in
    let el : length (drop (from + 1) bytes) ≡ n = length-drop (from + 1) bytes in
    let counts = counted-whole n m v (length ram) (record { acknowledged = from + 1; stored = 0; discarded = 0 }) (planes_pos r) fit in
    sym (at-run K ram bytes r from range nibbles (omega arith) run).rest
    ∙ run-at-once K (drop (from + 1) bytes) (opened_at (from + 1) r ram) range.p-in range.a_in few
    ∙ (λ i. record {
      registers = moved_by K (el i) r;
      ram = written_by K r (drop (from + 1) bytes) ram;
      counts = (ap (λ (k : ℕ). counted_run k m v (length ram) (record { acknowledged = from + 1; stored = 0; discarded = 0 })) el ∙ counts ∙ (λ j. record { acknowledged = all j; stored = none j; discarded = 0 })) i;
      last = (ap (λ (k : ℕ). last_run K k m v (length ram) None) el ∙ last-whole K n m v (length ram) None some fit) i;
    })

-- and in the RAM of both groups
pub fitting_in_ram : (K : Part) (n : Chips) (g : ℕ) (r : Registers) (ram bytes : List ℕ) (from : ℕ) → let own = columns_of K n g ram in
    InRange K r → Nibbles own → length own ≤ K.columns * K.limit → from + 1 < length bytes → get_or bytes from 0 ≡ 64 → run_end K r bytes from ≤ length own
    → ◌≡◌ {A = Group}
    (record {
      registers = moved_by K (length bytes - (from + 1)) r;
      ram = with_columns K n g (written_by K r (drop (from + 1) bytes) own) ram;
      counts = record { acknowledged = length bytes; stored = 8 * (length bytes - (from + 1)); discarded = 0 };
      last = Some ((run_end K r bytes from - 1) / K.columns);
    })
    (heard_in_ram K n g r ram (whole bytes) from)
unfolding whole_of
fitting_in_ram K n g r ram bytes from range nibbles few more run fit =
    let h = sym (fitting-heard K r (columns_of K n g ram) bytes from range nibbles few more run fit) in
    λ i. record { registers = (h i).registers; ram = with_columns K n g (h i).ram ram; counts = (h i).counts; last = (h i).last }
