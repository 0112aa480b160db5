-- Request 12's law: the bytes at each even column, from the address on.
-- Assumes nothing.
use mathlib.Core.Path.{◌≡◌, refl, sym, ap, ap₂, subst, ◌∙◌}
use mathlib.Core.Bool.{true, false, ◌&&◌}
use mathlib.Core.List.{List, [], ◌∷◌, ◌++◌, append-nil}
use Prim.Native.Nat.{ℕ, zero, suc, ◌+◌, ◌-◌, ◌*◌, ◌/◌, ◌%◌, ◌≤◌, ◌<◌}
use native.Mathlib.Nat.{mul_assoc, mul-zero, mul-suc, mul-le-mul, mul-le-mul_left, mod-lt}
use native.Mathlib.Omega.{arith}
use lib.ListN.{length, get_or, length-append}
use borrow.Author.Tests.{ne_eqb}
use Rattle.sheet.specs.declared.Registers.{Registers}
use Rattle.sheet.specs.declared.Both.{Both}
use Rattle.sheet.specs.declared.Chips.{Chips}
use Rattle.sheet.specs.declared.Counts.{Counts}
use Rattle.std.specs.Prelude.{Ok}
use Rattle.sheet.specs.Results.{Acknowledger, Answer}
use Rattle.sheet.specs.declared.Command.TheVariants.{ModeSet}
use Rattle.sheet.specs.declared.Expect.TheVariants.{Control}
use Rattle.sheet.specs.Parts.{Part, part_of}
use Rattle.sheet.specs.Registers.{registers_of}
use Rattle.sheet.specs.Commands.{defined, obeyed, obeyed_all}
use Rattle.sheet.specs.Protocol.{address_of, chips_in, whole}
use Rattle.sheet.specs.Checks.{fault_in, check_state}
use Rattle.sheet.specs.Places.{at_position}
use Rattle.sheet.specs.Data.{row_of}
use Rattle.sheet.specs.Long.{Group, After, heard, replaced, columns_of, heard_in, transfer_call}
use Rattle.writer_sheet.specs.Writer.{each_after80, mode_set_of, set_to, check_wanted}
use Rattle.writer_sheet.specs.Puts.{Settable}
use Rattle.writer_sheet.specs.Three.{pair_of, byte_at, pairs_from, three_transfer, PutsThree, WritesThree, ClaimThree}
use Rattle.laws.proofs.Fits.{Fits, fits-of}
use Rattle.laws.proofs.Lens.{length-columns, own-columns, other-columns, length-with}
use Rattle.laws.proofs.Commanded.{on, heard-commands, fault-commands}
use Rattle.laws.proofs.Asked.{Asked, asked_of, few_wanted}
use Rattle.laws.proofs.Sending.{called, taken-by}
use Rattle.laws.proofs.Pairs.{pairs_more}
use Rattle.laws.proofs.Threes.{after, after_all, heard-byte, heard_all, fault-all, Done, steps, rows-after, others-after, size-after, last-counts, last-by, last-registers}
use Rattle.laws.proofs.Settables.{part_settable}
use Rattle.laws.proofs.Named.{of-both, has_columns, pointer-bytes}
use Rattle.laws.proofs.Puts.{length-each}

-- to a group with a chip
pub is-three : (K : Part) (n : Chips) (r : Both) (g : ℕ) (wanted : List ℕ) → 0 < chips_in g n
    → three_transfer K n r g wanted ≡ address_of g ∷ each_after80 (mode_set_of (registers_of g r) 3 ∷ []) ++ pairs_from K (length wanted / 2) 0 wanted
unfolding three_transfer
is-three K n r g wanted some = rw (ne_eqb (chips_in g n) 0 (omega arith))

module _ (K : Part) (u : Settable K) (even : K.columns % 2 ≡ 0) (n : Chips) (r : Both) (ram : List ℕ) (g : ℕ) (wanted : List ℕ) (es : check_state K n r ram ≡ Ok tt)
    (ew : check_wanted K n r g 3 0 wanted ≡ Ok tt) (some : 0 < chips_in g n) where
  abbrev own : Registers
  own = registers_of g r

  abbrev columns : List ℕ
  columns = columns_of K n g ram

  abbrev base : Registers
  base = set_to 3 own.i own

  abbrev mode : List ℕ
  mode = mode_set_of own 3 ∷ []

  -- the bytes, and all but the last
  abbrev N : ℕ
  N = length wanted / 2

  abbrev bytes : List ℕ
  bytes = each_after80 mode ++ pairs_from K N 0 wanted

  asked : Asked K n r g 3 0 wanted
  asked = asked_of K n r g 3 0 wanted ew

  fits : Fits K n r ram
  fits = fits-of K n r ram es

  as_many : length columns ≡ length wanted
  as_many = length-columns K n r ram fits g ∙ sym asked.columns

  whole_pairs : 2 * N ≡ length wanted
  whole_pairs =
      let h : ℕ = K.columns / 2 in
      let e : K.columns ≡ 2 * h = omega arith in
      let s : length wanted ≡ 2 * (h * chips_in g n) = asked.columns ∙ ap (λ (k : ℕ). k * chips_in g n) e ∙ mul_assoc 2 h (chips_in g n) in
      omega (arith, s)

  some-columns : 0 < length wanted
  some-columns = omega (arith, asked.columns, mul-le-mul_left {m = 1} {n = chips_in g n} K.columns some, u.columns)

  few-columns : length wanted ≤ K.columns * K.limit
  few-columns = omega (arith, asked.columns, mul-le-mul_left K.columns asked.few)

  is-mode : K.command (mode_set_of own 3) ≡ ModeSet (record { e = own.e; b = own.b; m = 3 })
  is-mode = u.mode-set own.e own.b 3 asked.own_in.e-in asked.own_in.b-in (omega arith)

  clean : fault_in K false own.unknown Control 1 bytes ≡ Ok tt
  clean =
      fault-commands K mode (pairs_from K N 0 wanted) own 1 (λ i. defined (is-mode i) && true)
      ∙ fault-all K u wanted N 0 _ (obeyed_all K mode own) (omega (arith, whole_pairs, few-columns))

  -- the group in 1:3, and after all bytes but the last
  abbrev begins : Group
  begins = on (2 * length mode) (obeyed_all K mode own) (called K n r ram g)

  done-at-first : Done K u wanted columns base 0 (0 + 1 + 2 * length mode) begins
  done-at-first = record {
    size = as_many;
    rows = λ i q l lq. absurd (omega arith);
    others = λ i q l. refl;
    registers = λ i. let s = obeyed own (is-mode i) in set_to s.m s.i s;
    counts = refl;
  }

  -- the last byte begins at the last even column
  abbrev last : ℕ
  last = 0 + 2 * (N - 1)

  ends : last + 2 ≡ length wanted
  ends = omega (arith, whole_pairs, some-columns)

  abbrev before : Group
  before = after_all K u wanted (N - 1) 0 begins

  done-before : Done K u wanted columns base last (0 + 1 + 2 * length mode + length (pairs_from K (N - 1) 0 wanted)) before
  done-before = steps K u wanted columns base refl (N - 1) 0 (0 + 1 + 2 * length mode) begins done-at-first (omega (arith, ends))

  abbrev finished : Group
  finished = after K u wanted last before

  is_all : pairs_from K N 0 wanted ≡ pairs_from K (N - 1) 0 wanted ++ byte_at K last (pair_of wanted last)
  is_all = let e : N ≡ suc (N - 1) = omega (arith, whole_pairs, some-columns) in ap (λ (k : ℕ). pairs_from K k 0 wanted) e ∙ pairs_more K (N - 1) 0 wanted

  heard-is : heard K Control bytes (called K n r ram g) ≡ finished
  unfolding heard
  heard-is =
      heard-commands K mode (pairs_from K N 0 wanted) (called K n r ram g)
      ∙ ap (λ (l : List ℕ). heard K Control l begins) is_all
      ∙ heard_all K u wanted (byte_at K last (pair_of wanted last)) (N - 1) 0 begins (omega (arith, ends, few-columns))
      ∙ ap (λ (l : List ℕ). heard K Control l before) (sym (append-nil (byte_at K last (pair_of wanted last))))
      ∙ heard-byte K u wanted [] last before (omega (arith, ends, few-columns))

  length-bytes : 0 + 1 + 2 * length mode + length (pairs_from K (N - 1) 0 wanted) + length (byte_at K last (pair_of wanted last)) ≡ length (address_of g ∷ bytes)
  length-bytes =
      omega (arith, length-append (each_after80 mode) (pairs_from K N 0 wanted), ap length is_all, length-append (pairs_from K (N - 1) 0 wanted) (byte_at K last (pair_of wanted last)))

  length-own : length finished.ram ≡ K.columns * chips_in g n
  length-own = size-after K u wanted columns base refl last _ before done-before ∙ asked.columns

  module _ (few : length (address_of g ∷ bytes) ≤ 4096) where
    abbrev sends : After
    sends = transfer_call K n r ram (whole (address_of g ∷ bytes))

    is-sent : sends ≡ heard_in K n g r ram finished
    is-sent = taken-by K n r ram es g asked.group-in some bytes clean few ∙ ap (heard_in K n g r ram) heard-is

    own-after : columns_of K n g sends.ram ≡ finished.ram
    own-after = (λ i. columns_of K n g (is-sent i).ram) ∙ own-columns K n r ram fits g finished.ram length-own

    puts : PutsThree K n r ram g wanted (address_of g ∷ bytes) sends
    puts = record {
      answer =
          (λ i. (is-sent i).result.answer)
          ∙ ap₂ (λ (t : Counts) (l : Acknowledger). Ok (record { counts = t; last = l }))
          (last-counts K u wanted columns base refl last _ before done-before ends ∙ ap (λ (k : ℕ). record { acknowledged = k - 1; stored = 4 * length wanted - 2; discarded = 2 }) length-bytes)
          (last-by K u wanted columns base refl last _ before done-before ends);
      registers =
          (λ i. (is-sent i).result.registers)
          ∙ ap (λ (s : Registers). replaced g s r) (last-registers K u wanted columns base refl last _ before done-before ∙ ap (at_position K base) (omega (arith, ends)));
      wanted_there = λ c q lc lq. (λ i. row_of (get_or (own-after i) c 0) q) ∙ rows-after K u wanted columns base refl last _ before done-before (omega (arith, ends)) c q (omega (arith, ends, lc)) lq;
      others_stay = λ c q l. (λ i. row_of (get_or (own-after i) c 0) q) ∙ others-after K u wanted columns base refl last _ before done-before c q l;
      other-group = λ h ph ne. (λ i. columns_of K n h (is-sent i).ram) ∙ other-columns K n r ram fits g h asked.group-in ph ne finished.ram length-own;
      size = (λ i. length (is-sent i).ram) ∙ length-with K n r ram fits g finished.ram length-own;
    }

  pub law : length (three_transfer K n r g wanted) ≤ 4096 → PutsThree K n r ram g wanted (three_transfer K n r g wanted) (transfer_call K n r ram (whole (three_transfer K n r g wanted)))
  law few =
      subst (λ (x : List ℕ). PutsThree K n r ram g wanted x (transfer_call K n r ram (whole x))) (sym (is-three K n r g wanted some))
      (puts (subst (λ (x : List ℕ). length x ≤ 4096) (is-three K n r g wanted some) few))

-- ---- how long it is

module _ (K : Part) (pc : 0 < K.columns) (pointers : ℕ) (same : (p : ℕ) → p < K.columns → length (K.pointer p) ≡ pointers) where
  pub length-byte : (c x : ℕ) → length (byte_at K c x) ≡ 4 + 2 * pointers
  length-byte c x =
      omega (arith, length-append (each_after80 ((0xE0 + c / K.columns) ∷ K.pointer (c % K.columns))) (0xC0 ∷ x ∷ []), length-each (K.pointer (c % K.columns)), same (c % K.columns) (mod-lt c pc))

  pub length_pairs : (n c : ℕ) (wanted : List ℕ) → length (pairs_from K n c wanted) ≡ (4 + 2 * pointers) * n
  unfolding pairs_from
  length_pairs zero c wanted = sym (mul-zero (4 + 2 * pointers))
  length_pairs (suc n) c wanted =
      omega (arith, length-append (byte_at K c (pair_of wanted c)) (pairs_from K n (c + 2) wanted), length-byte c (pair_of wanted c), length_pairs n (c + 2) wanted, mul-suc (4 + 2 * pointers) n)

  pub length_three : (n : Chips) (r : Both) (g : ℕ) (wanted : List ℕ) → 0 < chips_in g n → length (three_transfer K n r g wanted) ≡ 3 + (4 + 2 * pointers) * (length wanted / 2)
  length_three n r g wanted some = ap length (is-three K n r g wanted some) ∙ omega (arith, length_pairs (length wanted / 2) 0 wanted)

-- ---- the claim, and each part's

pub writes-three : ClaimThree
writes-three K u even = record {
  bytes = λ n r g wanted pointers some same. length_three K u.columns pointers same n r g wanted some;
  puts = λ n r ram g wanted es ew some few. law K u even n r ram g wanted es ew some few;
}

pub part-writes-three : (part : ℕ) → WritesThree (part_of part)
part-writes-three part = writes-three (part_of part) (part_settable part) (of-both (λ K. K.columns % 2 ≡ 0) part refl refl)

-- a part's pointer commands are as many at each column
pub same_pointers : (part : ℕ) (p : ℕ) → length ((part_of part).pointer p) ≡ length ((part_of part).pointer 0)
same_pointers part p = of-both (λ K. length (K.pointer p) ≡ length (K.pointer 0)) part refl refl

pub length-of-part : (part : ℕ) (n : Chips) (r : Both) (g : ℕ) (wanted : List ℕ) → 0 < chips_in g n
    → length (three_transfer (part_of part) n r g wanted) ≡ 3 + (4 + 2 * length ((part_of part).pointer 0)) * (length wanted / 2)
length-of-part part n r g wanted some = length_three (part_of part) (has_columns part) (length ((part_of part).pointer 0)) (λ p l. same_pointers part p) n r g wanted some

-- and the bytes of at most 640 columns are few
pub pairs_small : (part size : ℕ) → size ≤ 640 → (4 + 2 * length ((part_of part).pointer 0)) * (size / 2) ≤ 2560
pairs_small part size h = mul-le-mul {n₁ = 4 + 2 * length ((part_of part).pointer 0)} {m₁ = size / 2} {n₂ = 8} {m₂ = 320} (omega (arith, (pointer-bytes part).1)) (omega (arith, h))

pub part-puts-three : (part : ℕ) (n : Chips) (r : Both) (ram : List ℕ) (g : ℕ) (wanted : List ℕ) → check_state (part_of part) n r ram ≡ Ok tt → check_wanted (part_of part) n r g 3 0 wanted ≡ Ok tt
    → 0 < chips_in g n
    → PutsThree (part_of part) n r ram g wanted (three_transfer (part_of part) n r g wanted) (transfer_call (part_of part) n r ram (whole (three_transfer (part_of part) n r g wanted)))
part-puts-three part n r ram g wanted es ew some =
    let asked = asked_of (part_of part) n r g 3 0 wanted ew in
    let small = pairs_small part (length wanted) (few_wanted part asked) in
    (part-writes-three part).puts n r ram g wanted es ew some (omega (arith, length-of-part part n r g wanted some, small))
