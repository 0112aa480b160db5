-- The transfer for wanted rows puts them there: it is taken from any valid registers, its run lands on the rows that it reaches, and everything else stays.
-- Assumes nothing.
use mathlib.Core.Path.{◌≡◌, refl, sym, ap, ap₂, subst, ◌∙◌}
use mathlib.Core.Logic.{◌≢◌}
use mathlib.Core.Bool.{true, false, cond, ◌&&◌, true≢false}
use mathlib.Core.List.{List, [], ◌∷◌, ◌++◌}
use Prim.Native.Nat.{ℕ, ◌+◌, ◌-◌, ◌*◌, ◌/◌, ◌%◌, ◌≤◌, ◌<◌, zero-le}
use native.Mathlib.Nat.{zero-add, mul-zero, mul-le-mul_left, div-le_self}
use native.Mathlib.Omega.{arith}
use lib.Dec.{eqb}
use lib.ListN.{length, get_or, length-append}
use borrow.Author.Tests.{ne_eqb}
use Rattle.sheet.specs.declared.Registers.{Registers}
use Rattle.sheet.specs.declared.Both.{Both}
use Rattle.sheet.specs.declared.Chips.{Chips}
use Rattle.sheet.specs.declared.Counts.{Counts}
use Rattle.std.specs.Prelude.{None, Ok}
use Rattle.sheet.specs.Results.{Acknowledger, Answer}
use Rattle.sheet.specs.declared.Command.TheVariants.{ModeSet, BankSelect}
use Rattle.sheet.specs.Parts.{Part, part_of}
use Rattle.sheet.specs.Registers.{backplanes, bank_row, registers_of}
use Rattle.sheet.specs.Commands.{defined, obeyed, obeyed_all, all_defined}
use Rattle.sheet.specs.Protocol.{address_of, chips_in, whole}
use Rattle.sheet.specs.Checks.{check_state}
use Rattle.sheet.specs.Places.{position, at_position}
use Rattle.sheet.specs.Data.{bit_of, row_of, width_of}
use Rattle.sheet.specs.Runs.{put_run, last_run, counted_run}
use Rattle.sheet.specs.Long.{After, replaced, columns_of, heard_in, transfer_call}
use Rattle.writer_sheet.specs.Writer.{each_after80, settings, mode_set_of, bank_select_of, set_to, bytes_for, data_from, data_of, rows_transfer, check_wanted}
use Rattle.writer_sheet.specs.Puts.{Settable, reaches, put_counts, put_last, Puts, AlikeWhere, WritesRows, ClaimRows}
use Rattle.laws.proofs.Ranges.{planes_pos}
use Rattle.laws.proofs.Fits.{Fits, fits-of}
use Rattle.laws.proofs.Lens.{length-columns, own-columns, other-columns, length-with}
use Rattle.laws.proofs.Runs.{length_run, ran, run-at-once}
use Rattle.laws.proofs.Rows.{run-lands}
use Rattle.laws.proofs.Asked.{Asked, asked_of, few_wanted}
use Rattle.laws.proofs.Sending.{ready, sent-to}
use Rattle.laws.proofs.Enough.{run-counts, run-last}
use Rattle.laws.proofs.Settables.{part_settable}
use Rattle.laws.proofs.Named.{pointer-bytes}
use Rattle.laws.proofs.Wanted.{length_data, data_at, bit_at, Bit, reached, reached-by, byte-there, same_data}

-- ---- the commands make the registers

module _ (K : Part) (u : Settable K) (mode bank : ℕ) (r : Registers) (le : r.e < 2) (lb : r.b < 2) (lo : r.o < 2) (lm : mode < 4) (li : bank < 2) (pl : 0 < K.limit) where
  is-mode : K.command (mode_set_of r mode) ≡ ModeSet (record { e = r.e; b = r.b; m = mode })
  is-mode = u.mode-set r.e r.b mode le lb lm

  is-bank : K.command (bank_select_of r bank) ≡ BankSelect bank r.o
  is-bank = u.bank-select bank r.o li lo

  set_all : obeyed_all K (settings K r mode bank) r ≡ set_to mode bank r
  set_all = (λ i. obeyed_all K (K.pointer 0) (obeyed (obeyed (obeyed r (is-mode i)) (is-bank i)) (u.device-select 0 pl i))) ∙ u.pointer 0 u.columns _

  all-defined : all_defined K (settings K r mode bank) ≡ true
  all-defined = (λ i. defined (is-mode i) && (defined (is-bank i) && (defined (u.device-select 0 pl i) && all_defined K (K.pointer 0)))) ∙ u.defined 0 u.columns

-- ---- how long it is

pub length-each : (xs : List ℕ) → length (each_after80 xs) ≡ 2 * length xs
length-each [] = refl
length-each (x ∷ xs) = omega (arith, length-each xs)

length-of : (K : Part) (r : Registers) (mode bank address : ℕ) (ys : List ℕ) → length (address ∷ each_after80 (settings K r mode bank) ++ (0x40 ∷ ys)) ≡ 8 + 2 * length (K.pointer 0) + length ys
length-of K r mode bank address ys = omega (arith, length-append (each_after80 (settings K r mode bank)) (0x40 ∷ ys), length-each (settings K r mode bank))

-- to a group with a chip
pub is-rows : (K : Part) (n : Chips) (r : Both) (g mode bank : ℕ) (wanted : List ℕ) → 0 < chips_in g n
    → rows_transfer K n r g mode bank wanted ≡ address_of g ∷ each_after80 (settings K (registers_of g r) mode bank) ++ (0x40 ∷ data_of (set_to mode bank (registers_of g r)) wanted)
unfolding rows_transfer
is-rows K n r g mode bank wanted some = rw (ne_eqb (chips_in g n) 0 (omega arith))

pub length-rows : (K : Part) (n : Chips) (r : Both) (g mode bank : ℕ) (wanted : List ℕ) → 0 < chips_in g n
    → length (rows_transfer K n r g mode bank wanted) ≡ 8 + 2 * length (K.pointer 0) + bytes_for (backplanes (set_to mode bank (registers_of g r))) (length wanted)
length-rows K n r g mode bank wanted some =
    let s = set_to mode bank (registers_of g r) in
    ap length (is-rows K n r g mode bank wanted some) ∙ (length-of K (registers_of g r) mode bank (address_of g) (data_of s wanted) ∙ ap (λ (k : ℕ). 8 + 2 * length (K.pointer 0) + k) (length_data (bytes_for (backplanes s) (length wanted)) (backplanes s) _ wanted))

-- ---- the law

module _ (K : Part) (u : Settable K) (n : Chips) (r : Both) (ram : List ℕ) (g mode bank : ℕ) (wanted : List ℕ) (es : check_state K n r ram ≡ Ok tt)
    (ew : check_wanted K n r g mode bank wanted ≡ Ok tt) (some : 0 < chips_in g n) where
  abbrev own : Registers
  own = registers_of g r

  abbrev columns : List ℕ
  columns = columns_of K n g ram

  abbrev s : Registers
  s = set_to mode bank own

  abbrev m : ℕ
  m = backplanes s

  abbrev b : ℕ
  b = bank_row m bank

  abbrev commands : List ℕ
  commands = settings K own mode bank

  abbrev rows : List ℕ
  rows = data_of s wanted

  abbrev bytes : List ℕ
  bytes = address_of g ∷ each_after80 commands ++ (0x40 ∷ rows)

  asked : Asked K n r g mode bank wanted
  asked = asked_of K n r g mode bank wanted ew

  fits : Fits K n r ram
  fits = fits-of K n r ram es

  as_many : length columns ≡ length wanted
  as_many = length-columns K n r ram fits g ∙ sym asked.columns

  at_zero : position K s ≡ 0
  unfolding position
  at_zero = omega (arith, mul-zero K.columns)

  is-bytes : rows_transfer K n r g mode bank wanted ≡ bytes
  is-bytes = is-rows K n r g mode bank wanted some

  length_data_rows : length rows ≡ bytes_for m (length wanted)
  length_data_rows = length_data (bytes_for m (length wanted)) m b wanted

  length-bytes : 0 + 1 + 2 * length commands + 1 + bytes_for m (length wanted) ≡ length bytes
  length-bytes = omega (arith, length-append (each_after80 commands) (0x40 ∷ rows), length-each commands, length_data_rows)

  few-columns : length columns ≤ K.columns * K.limit
  few-columns = omega (arith, length-columns K n r ram fits g, mul-le-mul_left K.columns asked.few)

  -- the run from column 0
  abbrev run : List ℕ
  run = put_run m b (position K s) rows columns

  length-own : length run ≡ K.columns * chips_in g n
  length-own = length_run m b (position K s) rows columns ∙ length-columns K n r ram fits g

  module _ (few : length bytes ≤ 4096) where
    abbrev called : After
    called = transfer_call K n r ram (whole bytes)

    is-called : called ≡ heard_in K n g r ram (ran K rows (ready K n r ram g commands s))
    is-called =
        let range = asked.own_in in
        let some-subaddress : 0 < K.limit = omega (arith, asked.few, some) in
        sent-to K n r ram es g asked.group-in some commands rows s
        (all-defined K u mode bank own range.e-in range.b-in range.o-in asked.mode-in asked.bank-in some-subaddress)
        (set_all K u mode bank own range.e-in range.b-in range.o-in asked.mode-in asked.bank-in some-subaddress)
        refl few
        ∙ ap (heard_in K n g r ram) (run-at-once K rows (ready K n r ram g commands s) u.columns zero-le few-columns)

    answers : called.result.answer ≡ Ok (record { counts = put_counts m (length wanted) (length bytes); last = put_last m (length wanted) (chips_in g n) })
    answers =
        (λ i. (is-called i).result.answer)
        ∙ (λ i. Ok (record {
          counts = counted_run (length_data_rows i) m (at_zero i) (as_many i) (record { acknowledged = 0 + 1 + 2 * length commands + 1; stored = 0; discarded = 0 });
          last = last_run K (length_data_rows i) m (at_zero i) (as_many i) None;
        }))
        ∙ ap₂ (λ (t : Counts) (l : Acknowledger). Ok (record { counts = t; last = l }))
        (run-counts m (length wanted) (planes_pos s) (0 + 1 + 2 * length commands + 1) ∙ ap (put_counts m (length wanted)) length-bytes)
        (run-last m (length wanted) (planes_pos s) K (chips_in g n) u.columns some asked.columns)

    registers : called.result.registers ≡ replaced g (at_position K s (width_of m * bytes_for m (length wanted))) r
    registers =
        (λ i. (is-called i).result.registers)
        ∙ (λ i. replaced g (at_position K s (at_zero i + width_of m * length_data_rows i)) r)
        ∙ ap (λ (v : ℕ). replaced g (at_position K s v) r) (zero-add (width_of m * bytes_for m (length wanted)))

    own-after : columns_of K n g called.ram ≡ run
    own-after = (λ i. columns_of K n g (is-called i).ram) ∙ own-columns K n r ram fits g run length-own

    -- bit k of byte j lands on the row that it came from
    lands : (j k : ℕ) → j < bytes_for m (length wanted) → k < 8 → width_of m * j + k / m < length wanted
        → row_of (get_or run (width_of m * j + k / m) 0) (b + k % m) ≡ row_of (get_or wanted (width_of m * j + k / m) 0) (b + k % m)
    lands j k lj lk lc =
        let at : position K s + width_of m * j + k / m ≡ width_of m * j + k / m = omega (arith, at_zero) in
        sym (ap (λ (c : ℕ). row_of (get_or run c 0) (b + k % m)) at)
        ∙ (run-lands m b (position K s) rows columns (planes_pos s)).lands j k (rw length_data_rows lj) lk (rw (at, as_many) lc)
        ∙ ap (λ (x : ℕ). bit_of x k) (data_at (bytes_for m (length wanted)) m b wanted j lj)
        ∙ bit_at m b (width_of m * j) wanted k lk

    wanted_there : (c q : ℕ) → c < length wanted → reaches m b c q ≡ true → row_of (get_or (columns_of K n g called.ram) c 0) q ≡ row_of (get_or wanted c 0) q
    wanted_there c q lc e =
        let x : Bit m b c q = reached m b c q (planes_pos s) e in
        (λ i. row_of (get_or (own-after i) (x.column i) 0) (x.row i))
        ∙ lands x.byte x.bit (rw x.byte-is (byte-there m c (length wanted) lc)) x.eight (rw (← x.column) lc)
        ∙ sym (ap₂ (λ (i h : ℕ). row_of (get_or wanted i 0) h) x.column x.row)

    others_stay : (c q : ℕ) → reaches m b c q ≡ false → row_of (get_or (columns_of K n g called.ram) c 0) q ≡ row_of (get_or columns c 0) q
    others_stay c q e =
        (λ i. row_of (get_or (own-after i) c 0) q)
        ∙ (run-lands m b (position K s) rows columns (planes_pos s)).stays c q
        (λ j k lj lk ec eq. true≢false
        (sym (reached-by m b j k (planes_pos s) lk)
        ∙ ap₂ (λ (i h : ℕ). reaches m b i h) (sym (ec ∙ omega (arith, at_zero))) (sym eq) ∙ e))

    puts : Puts K n r ram g mode bank wanted m b bytes called
    puts = record {
      answer = answers;
      registers = registers;
      wanted_there = wanted_there;
      others_stay = others_stay;
      other-group = λ h ph ne. (λ i. columns_of K n h (is-called i).ram) ∙ other-columns K n r ram fits g h asked.group-in ph ne run length-own;
      size = (λ i. length (is-called i).ram) ∙ length-with K n r ram fits g run length-own;
    }

  pub law : length (rows_transfer K n r g mode bank wanted) ≤ 4096
      → Puts K n r ram g mode bank wanted m b (rows_transfer K n r g mode bank wanted) (transfer_call K n r ram (whole (rows_transfer K n r g mode bank wanted)))
  law few = subst (λ (x : List ℕ). Puts K n r ram g mode bank wanted m b x (transfer_call K n r ram (whole x))) (sym is-bytes) (puts (subst (λ (x : List ℕ). length x ≤ 4096) is-bytes few))

-- rows that the run does not reach are ignored
ignored : (K : Part) (n : Chips) (r : Both) (g mode bank : ℕ) (one other : List ℕ) → let s = set_to mode bank (registers_of g r) in
    length one ≡ length other → AlikeWhere (backplanes s) (bank_row (backplanes s) bank) one other → rows_transfer K n r g mode bank one ≡ rows_transfer K n r g mode bank other
unfolding rows_transfer
ignored K n r g mode bank one other e alike =
    let s = set_to mode bank (registers_of g r) in
    ap (λ (xs : List ℕ). cond (eqb (chips_in g n) 0) [] (address_of g ∷ each_after80 (settings K (registers_of g r) mode bank) ++ (0x40 ∷ xs)))
    (ap (λ (k : ℕ). data_from (bytes_for (backplanes s) k) (backplanes s) (bank_row (backplanes s) bank) one) e
    ∙ same_data (bytes_for (backplanes s) (length other)) (backplanes s) (bank_row (backplanes s) bank) one other (planes_pos s) alike)

pub writes-rows : ClaimRows
writes-rows K u = record {
  bytes = length-rows K;
  puts = λ n r ram g mode bank wanted es ew some few. law K u n r ram g mode bank wanted es ew some few;
  ignored = λ n r g mode bank one other e alike. ignored K n r g mode bank one other e alike;
}

-- each part's commands set what is sent
pub part-writes-rows : (part : ℕ) → WritesRows (part_of part)
part-writes-rows part = writes-rows (part_of part) (part_settable part)

-- and a transfer to at most 640 columns is short
short : (part m size : ℕ) → size ≤ 640 → 8 + 2 * length ((part_of part).pointer 0) + bytes_for m size ≤ 4096
short part m size h = omega (arith, (pointer-bytes part).1, div-le_self (size + (width_of m - 1)) (width_of m), div-le_self 7 m)

pub part-puts : (part : ℕ) (n : Chips) (r : Both) (ram : List ℕ) (g mode bank : ℕ) (wanted : List ℕ) → check_state (part_of part) n r ram ≡ Ok tt
    → check_wanted (part_of part) n r g mode bank wanted ≡ Ok tt → 0 < chips_in g n
    → let s = set_to mode bank (registers_of g r) in
    let transfer = rows_transfer (part_of part) n r g mode bank wanted in
    Puts (part_of part) n r ram g mode bank wanted (backplanes s) (bank_row (backplanes s) bank) transfer (transfer_call (part_of part) n r ram (whole transfer))
part-puts part n r ram g mode bank wanted es ew some =
    let asked = asked_of (part_of part) n r g mode bank wanted ew in
    (part-writes-rows part).puts n r ram g mode bank wanted es ew some
    (rw (length-rows (part_of part) n r g mode bank wanted some)
    (short part _ (length wanted) (few_wanted part asked)))
