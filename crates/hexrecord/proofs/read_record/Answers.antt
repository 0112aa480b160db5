-- `hexrecord::read_record` meets its contract: no line, or the record of the line's digits.
-- Assumes nothing.
use mathlib.Core.Path.{◌≡◌, refl, sym, ap, subst, ◌∙◌}
use mathlib.Core.Bool.{true}
use mathlib.Core.List.{List, ◌++◌}
use Prim.Native.Nat.{ℕ, ◌+◌, ◌*◌, ◌-◌, ◌≤◌, ◌<◌}
use native.Mathlib.Omega.{arith}
use Rattle.std.specs.Prelude.{replicate}
use lib.ListN.{length, take, drop, length-drop, length-append}
use lib.Seq.{length-take-le, take_at}
use Rattle.sheet.specs.Results.{Check}
use Rattle.image_sheet.specs.Images.{are_digits, bytes_of, digits_in, kind_of, fault_of, size_in}
use Rattle.hexrecord.specs.declared.Line.{Line}
use Rattle.std.specs.Prelude.{Option, Some, None}
use Rattle.hexrecord.specs.Lines.{line_at, step_of, given_after, Whole}
use Rattle.hexrecord.proofs.Finding.{Lined, Found, found-line, digits, all_there, length_digits, count_small, count-first, part-is, fault-line, fault-none}
use Rattle.hexrecord.proofs.read_record.Goals as goal

-- what was found at a place
found_there : (file : List ℕ) (at : ℕ) (l k : Option Line) → l ≡ line_at at (drop at file) → l ≡ k → Found at (drop at file) k
found_there file at l k e i = subst (Found at (drop at file)) i (found-line at (drop at file) l e)

module _ (file : List ℕ) (at count next : ℕ) (l : Lined at (drop at file) count next) where
  -- it is inside the file, and its record is no longer than the longest
  inside : at + 11 + 2 * count < length file
  inside = omega (arith, all_there (drop at file) l.is, length-drop at file, l.counts)

  short : count + 5 ≤ 260
  short = omega (arith, count_small (drop at file) l.is, l.counts)

  -- the part of the file that is read
  abbrev part : List ℕ
  part = take (at + 1 + 2 * (count + 5) - (at + 1)) (drop (at + 1) file)

  part-is-digits : part ≡ digits_in (drop at file)
  part-is-digits = part-is file at count l.counts

  -- into the room of the longest record
  module _ (longest : List ℕ) (long : length longest ≡ 260) where
    room : length (take (count + 5) longest) ≡ count + 5
    room = length-take-le (count + 5) longest (omega (arith, short, long))

    fills : length part ≡ 2 * length (take (count + 5) longest)
    fills = ap length part-is-digits ∙ length_digits (drop at file) l.is ∙ omega (arith, room, l.counts)

    all-digits : are_digits part ≡ true
    all-digits = ap are_digits part-is-digits ∙ digits (drop at file) l.is

    -- what was read are the bytes of the line's digits
    module _ (read : List ℕ) (size : length read ≡ length (take (count + 5) longest)) (says : read ≡ bytes_of part) where
      there : count + 5 ≤ length (read ++ drop (count + 5) longest)
      there = simp length-append (omega (arith, size, room))

      same : take (count + 5) (read ++ drop (count + 5) longest) ≡ read
      same = take_at read (drop (count + 5) longest) (count + 5) (size ∙ room)

      bytes-are : take (count + 5) (read ++ drop (count + 5) longest) ≡ bytes_of (digits_in (drop at file))
      bytes-are = same ∙ says ∙ ap bytes_of part-is-digits

      -- and so the record's own
      whole : Whole (take (count + 5) (read ++ drop (count + 5) longest))
      whole = rw bytes-are (ap length (sym bytes-are ∙ same) ∙ omega (arith, size, room, l.counts, count-first (drop at file) l.is))

pub overflow_add-size : goal.overflow_add-size
overflow_add-size c = let l = found_there c.args.file.now c.args.at c.line_at.result (Some c.in-Some.line) c.line_at.ensures c.in-Some.is in
    omega (arith, short c.args.file.now c.args.at c.in-Some.line.count c.in-Some.line.next l)

pub overflow_mul-end : goal.overflow_mul-end
overflow_mul-end c = let l = found_there c.args.file.now c.args.at c.line_at.result (Some c.in-Some.line) c.line_at.ensures c.in-Some.is in
    omega (arith, short c.args.file.now c.args.at c.in-Some.line.count c.in-Some.line.next l)

pub overflow_add-end : goal.overflow_add-end
overflow_add-end c = let l = found_there c.args.file.now c.args.at c.line_at.result (Some c.in-Some.line) c.line_at.ensures c.in-Some.is in
    omega (arith, inside c.args.file.now c.args.at c.in-Some.line.count c.in-Some.line.next l)

pub slice_bounds-read-end : goal.slice_bounds-read-end
slice_bounds-read-end c = let l = found_there c.args.file.now c.args.at c.line_at.result (Some c.in-Some.line) c.line_at.ensures c.in-Some.is in
    omega (arith, inside c.args.file.now c.args.at c.in-Some.line.count c.in-Some.line.next l)

pub slice_bounds-bytes-end : goal.slice_bounds-bytes-end
slice_bounds-bytes-end c = let l = found_there c.args.file.now c.args.at c.line_at.result (Some c.in-Some.line) c.line_at.ensures c.in-Some.is in
    omega (arith, short c.args.file.now c.args.at c.in-Some.line.count c.in-Some.line.next l)

pub slice_bounds-read-end-in-Some : goal.slice_bounds-read-end-in-Some
slice_bounds-read-end-in-Some c = let l = found_there c.args.file.now c.args.at c.line_at.result (Some c.in-Some.line) c.line_at.ensures c.in-Some.is in
    sym (room c.args.file.now c.args.at c.in-Some.line.count c.in-Some.line.next l (replicate 260 0) refl)

pub read-requires : goal.read-requires
read-requires c = let l = found_there c.args.file.now c.args.at c.line_at.result (Some c.in-Some.line) c.line_at.ensures c.in-Some.is in
    (fills c.args.file.now c.args.at c.in-Some.line.count c.in-Some.line.next l (replicate 260 0) refl, all-digits c.args.file.now c.args.at c.in-Some.line.count c.in-Some.line.next l (replicate 260 0) refl)

pub slice_bounds-bytes-end-in-Some : goal.slice_bounds-bytes-end-in-Some
slice_bounds-bytes-end-in-Some c = let l = found_there c.args.file.now c.args.at c.line_at.result (Some c.in-Some.line) c.line_at.ensures c.in-Some.is in
    there c.args.file.now c.args.at c.in-Some.line.count c.in-Some.line.next l (replicate 260 0) refl c.read.new.bytes c.read.auto.bytes c.read.ensures

pub slice_bounds-take-end : goal.slice_bounds-take-end
slice_bounds-take-end c = let l = found_there c.args.file.now c.args.at c.line_at.result (Some c.in-Some.line) c.line_at.ensures c.in-Some.is in
    sym (length-take-le _ _ (there c.args.file.now c.args.at c.in-Some.line.count c.in-Some.line.next l (replicate 260 0) refl c.read.new.bytes c.read.auto.bytes c.read.ensures))

pub take-requires : goal.take-requires
take-requires c = let l = found_there c.args.file.now c.args.at c.line_at.result (Some c.in-Some.line) c.line_at.ensures c.in-Some.is in
    whole c.args.file.now c.args.at c.in-Some.line.count c.in-Some.line.next l (replicate 260 0) refl c.read.new.bytes c.read.auto.bytes c.read.ensures

pub returns-in-None : goal.returns-in-None
returns-in-None c = let text = drop c.args.at c.args.file.now in
    let e = fault-none c.args.given.now c.args.at text (found_there c.args.file.now c.args.at c.line_at.result None c.line_at.ensures c.in-None.is) in
    record {
      value = sym (ap (λ (k : Check). step_of k (kind_of (bytes_of (digits_in text))) (c.args.at + size_in text)) e);
      given_after = sym (ap (λ (k : Check). given_after k c.args.given.now (bytes_of (digits_in text))) e);
    }

pub returns-in-Some : goal.returns-in-Some
returns-in-Some c = let l = found_there c.args.file.now c.args.at c.line_at.result (Some c.in-Some.line) c.line_at.ensures c.in-Some.is in
    let text = drop c.args.at c.args.file.now in
    let given = c.args.given.now in
    let at = c.args.at in
    let e = fault-line given at text l.is in
    let are = bytes-are c.args.file.now c.args.at c.in-Some.line.count c.in-Some.line.next l (replicate 260 0) refl c.read.new.bytes c.read.auto.bytes c.read.ensures in
    record {
      value = c.take.ensures.value
          ∙ (λ i. step_of (fault_of given at (are i)) (kind_of (are i)) (l.goes i))
          ∙ sym (ap (λ (k : Check). step_of k (kind_of (bytes_of (digits_in text))) (at + size_in text)) e);
      given_after = c.take.ensures.given_after
          ∙ (λ i. given_after (fault_of given at (are i)) given (are i))
          ∙ sym (ap (λ (k : Check). given_after k given (bytes_of (digits_in text))) e);
    }
