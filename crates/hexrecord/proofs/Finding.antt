-- What stands at a place of a file, character by character: a line, or none.
-- Assumes nothing.
use mathlib.Core.Path.{◌≡◌, refl, sym, ap, ap₂, subst, ◌∙◌}
use mathlib.Core.Bool.{Bool, true, false, cond, ◌&&◌, true≢false}
use mathlib.Core.List.{List}
use mathlib.Core.Logic.{⊎_elim}
use Prim.Native.Nat.{ℕ, ◌+◌, ◌-◌, ◌*◌, ◌≤◌, ◌<◌}
use native.Mathlib.Nat.{add-zero}
use native.Mathlib.Omega.{arith}
use lib.Dec.{eqb, ltb}
use lib.ListN.{length, get_or, take, drop, length-drop, get_or-eq_default}
use lib.Seq.{get_or-drop, get_or-take, length-take-le, drop-drop}
use borrow.Author.Tests.{ltb-true}
use Rattle.lemmas.proofs.Tests.{both_true}
use Rattle.lemmas.proofs.Order.{lt_or_le}
use Rattle.std.specs.Prelude.{Option, Some, None, Err}
use Rattle.sheet.specs.declared.Refusal.TheVariants.{RecordForm}
use Rattle.image_sheet.specs.Images.{pair_of, are_digits, bytes_of, count_in, digits_in, line_end, end_in, is_line, size_in, count_of, fault_of, fault_in}
use Rattle.hexadecimal.proofs.Digits.{digit_at, one_pair}
use Rattle.hexrecord.specs.declared.Line.{Line}
use Rattle.hexrecord.specs.Lines.{line_at}

-- a line ends inside the file: what is past it is 0
pub ends-inside : (i : ℕ) (file : List ℕ) → 0 < line_end i file → i < length file
unfolding line_end
ends-inside i file h =
    ⊎_elim (λ (l : i < length file). l)
    (λ (l : length file ≤ i). absurd (omega (arith, rw (get_or-eq_default file 0 {n = i} l) at h)))
    (lt_or_le i (length file))

-- a line, by its first character, its end and its digits
abbrev found : ℕ → ℕ → List ℕ → ℕ → ℕ → Option Line
found x over digits count next = cond (eqb x 58 && (ltb 0 over && are_digits digits)) (Some (record { count = count; next = next })) None

not-both : (a b c : Bool) (l : Option Line) → (a && b) ≡ false → cond (a && (b && c)) l None ≡ None
not-both true true c l e = absurd (true≢false e)
not-both true false c l e = refl
not-both false b c l e = refl

-- the head of what is left, seen from the file's start
module _ (file : List ℕ) (at : ℕ) where
  first : get_or (drop at file) 0 0 ≡ get_or file at 0
  first = get_or-drop at file 0 0 ∙ ap (λ (k : ℕ). get_or file k 0) (add-zero at)

  ends : (i : ℕ) → line_end i (drop at file) ≡ line_end (at + i) file
  unfolding line_end
  ends i = rw (get_or-drop at file i 0, get_or-drop at file (i + 1) 0) (ap (λ (k : ℕ). line_end' k) {x = at + (i + 1)} {y = at + i + 1} (omega arith))
    where
      line_end' : ℕ → ℕ
      line_end' k = cond (eqb (get_or file (at + i) 0) 10) 1 (cond (eqb (get_or file (at + i) 0) 13 && eqb (get_or file k 0) 10) 2 0)

  module _ (count end over : ℕ) (counted : count ≡ pair_of (get_or file (at + 1) 0) (get_or file (at + 2) 0)) (at-end : end ≡ at + 11 + 2 * count) (ended : over ≡ line_end end file) where
    count-is : count_in (drop at file) ≡ count
    count-is = ap₂ pair_of (get_or-drop at file 1 0) (get_or-drop at file 2 0) ∙ sym counted

    pub end_is : end_in (drop at file) ≡ over
    unfolding end_in
    end_is = ap (λ (k : ℕ). line_end (11 + 2 * k) (drop at file)) count-is ∙ ends (11 + 2 * count) ∙ ap (λ (k : ℕ). line_end k file) {x = at + (11 + 2 * count)} {y = end} (omega (arith, at-end)) ∙ sym ended

    digits_are : digits_in (drop at file) ≡ take (end - (at + 1)) (drop (at + 1) file)
    unfolding digits_in
    digits_are =
        ap₂ take {x = 10 + 2 * count_in (drop at file)} {y = end - (at + 1)} (omega (arith, count-is, at-end)) (drop-drop 1 at file)

    size_is : at + size_in (drop at file) ≡ end + over
    unfolding size_in
    size_is = omega (arith, count-is, end_is, at-end)

    seen : line_at at (drop at file) ≡ found (get_or file at 0) over (take (end - (at + 1)) (drop (at + 1) file)) count (end + over)
    unfolding line_at is_line
    seen = λ i. found (first i) (end_is i) (digits_are i) (count-is i) (size_is i)

    -- a colon and a line's end, and digits between
    pub is-line : (t : Bool) → (eqb (get_or file at 0) 58 && ltb 0 over) ≡ true → are_digits (take (end - (at + 1)) (drop (at + 1) file)) ≡ t
        → line_at at (drop at file) ≡ cond t (Some (record { count = count; next = end + over })) None
    is-line t e d = let both = both_true (eqb (get_or file at 0) 58) (ltb 0 over) e in seen ∙ rw (both.0, both.1, d)

    -- or not both
    pub no_line : (eqb (get_or file at 0) 58 && ltb 0 over) ≡ false → line_at at (drop at file) ≡ None
    no_line e = seen ∙ not-both (eqb (get_or file at 0) 58) (ltb 0 over) (are_digits (take (end - (at + 1)) (drop (at + 1) file))) (Some (record { count = count; next = end + over })) e

-- ---- what was found is the line that stands there

pub record Lined (at : ℕ) (text : List ℕ) (count next : ℕ) : Type 0 where
  pub is : is_line text ≡ true
  pub counts : count ≡ count_in text
  pub goes : next ≡ at + size_in text

abbrev pub Found : ℕ → List ℕ → Option Line → Type 0
Found at text (Some l) = Lined at text l.count l.next
Found at text None = is_line text ≡ false

pub found-line : (at : ℕ) (text : List ℕ) (l : Option Line) → l ≡ line_at at text → Found at text l
unfolding line_at
found-line at text l e = subst (Found at text) (sym e) (by-test (is_line text) refl)
  where
    by-test : (t : Bool) → is_line text ≡ t → Found at text (cond t (Some (record { count = count_in text; next = at + size_in text })) None)
    by-test true t = record { is = t; counts = refl; goes = refl }
    by-test false t = t

-- of a line: it has all its digits, and they say its bytes
module _ (text : List ℕ) (line : is_line text ≡ true) where
  pub digits : are_digits (digits_in text) ≡ true
  unfolding is_line
  digits = (both_true (ltb 0 (end_in text)) (are_digits (digits_in text)) (both_true (eqb (get_or text 0 0) 58) (ltb 0 (end_in text) && are_digits (digits_in text)) line).1).1

  pub all_there : 11 + 2 * count_in text < length text
  unfolding is_line end_in
  all_there = ends-inside (11 + 2 * count_in text) text (ltb-true 0 (end_in text) (both_true (ltb 0 (end_in text)) (are_digits (digits_in text)) (both_true (eqb (get_or text 0 0) 58) (ltb 0 (end_in text) && are_digits (digits_in text)) line).1).0)

  pub length_digits : length (digits_in text) ≡ 10 + 2 * count_in text
  unfolding digits_in
  length_digits = length-take-le (10 + 2 * count_in text) (drop 1 text) (omega (arith, length-drop 1 text, all_there))

  -- its first two digits
  two : (i : ℕ) → i < 2 → get_or (digits_in text) i 0 ≡ get_or text (1 + i) 0
  unfolding digits_in
  two i h = get_or-take (10 + 2 * count_in text) (drop 1 text) i 0 (omega arith) ∙ get_or-drop 1 text i 0

  -- LL is a byte
  pub count_small : count_in text < 256
  count_small =
      let h = rw (two 0 (omega arith)) at (digit_at (digits_in text) 0 digits (omega (arith, length_digits))) in
      let l = rw (two 1 (omega arith)) at (digit_at (digits_in text) 1 digits (omega (arith, length_digits))) in
      omega arith

  -- and the first of the bytes
  pub count-first : count_of (bytes_of (digits_in text)) ≡ count_in text
  count-first =
      ap (λ (l : List ℕ). get_or l 0 0) (one_pair (digits_in text) 0 (omega (arith, length_digits)))
      ∙ ap₂ pair_of (two 0 (omega arith)) (two 1 (omega arith))

-- the digits of a line as a part of the file
pub part-is : (file : List ℕ) (at count : ℕ) → count ≡ count_in (drop at file) → take (at + 1 + 2 * (count + 5) - (at + 1)) (drop (at + 1) file) ≡ digits_in (drop at file)
unfolding digits_in
part-is file at count e = ap₂ take {x = at + 1 + 2 * (count + 5) - (at + 1)} {y = 10 + 2 * count_in (drop at file)} (omega (arith, e)) (sym (drop-drop 1 at file))

-- the fault at a place, by whether a line stands there
pub fault-line : (given : List ℕ) (at : ℕ) (text : List ℕ) → is_line text ≡ true → fault_in given at text ≡ fault_of given at (bytes_of (digits_in text))
fault-line given at text e = rw e

pub fault-none : (given : List ℕ) (at : ℕ) (text : List ℕ) → is_line text ≡ false → fault_in given at text ≡ Err (RecordForm at)
fault-none given at text e = rw e
