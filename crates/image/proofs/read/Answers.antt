-- `image::read` meets its contract: refused before the file, by the file, or what it gives copied to the output.
-- Assumes nothing.
use Rattle.std.proofs.lemmas.Result.{err_from_is_err_and}
use mathlib.Core.Path.{◌≡◌, sym, ap, ◌∙◌}
use mathlib.Core.List.{List, ◌++◌}
use Prim.Native.Nat.{ℕ, ◌*◌, ◌≤◌}
use native.Mathlib.Omega.{arith}
use lib.ListN.{length, take, drop, replicate, length-replicate, length-append}
use lib.Seq.{length-take-le, take_at}
use Rattle.std.specs.Prelude.{Ok}
use Rattle.sheet.specs.Results.{Check}
use Rattle.sheet.specs.Parts.{part_of}
use Rattle.image_sheet.specs.Images.{image, image_from, image_of, check_file}
use Rattle.laws.proofs.Written.{numbered}
use Rattle.imagelaws.proofs.Sizes.{Asked, asked_of}
use Rattle.imagelaws.proofs.Answers.{take-replicate, not-read, faulty, all_read}
use Rattle.image.proofs.read.Goals as goal

-- a call that passed
module _ (part chips : ℕ) (file ram : List ℕ) (k : Check) (told : k ≡ check_file part chips (length file) (length ram)) (passed : k ≡ Ok tt) where
  passes : check_file part chips (length file) (length ram) ≡ Ok tt
  passes = sym told ∙ passed

  asked : Asked part chips (length file) (length ram)
  asked = asked_of part chips (length file) (length ram) passes

  -- as many columns as the output has are not given yet
  module _ (none : List ℕ) (is : none ≡ replicate 640 16) where
    blank : take (length ram) none ≡ replicate (length ram) 16
    blank = ap (take (length ram)) is ∙ take-replicate (length ram) 640 16 asked.few

    enough : length ram ≤ length none
    enough = omega (arith, asked.few, ap length is ∙ length-replicate {A = ℕ} 640 16)

    -- what the file gives is as long as the output, and is what is copied
    module _ (given : List ℕ) (size : length given ≡ length (take (length ram) none)) where
      long : length given ≡ length ram
      long = size ∙ length-take-le _ _ enough

      copied : take (length ram) (given ++ drop (length ram) none) ≡ given
      copied = take_at given _ _ long

      there : length ram ≤ length (given ++ drop (length ram) none)
      there = simp length-append (omega (arith, long))

      given_is : (r l : Check) → image r given ≡ image_from 0 (take (length ram) none) file → r ≡ l → image l given ≡ image_of ((part_of part).columns * chips) file
      unfolding image_of
      given_is r l e i = ap (λ (x : Check). image x given) (sym i) ∙ e ∙ ap (λ (m : List ℕ). image_from 0 m file) (blank ∙ ap (λ (n : ℕ). replicate n 16) asked.size)

pub slice_bounds-given-end : goal.slice_bounds-given-end
slice_bounds-given-end c = enough c.args.part c.args.chips c.args.file.now c.args.ram.now c.check_file.result c.check_file.ensures c.in_ok-check_file.was c.none_given-given.result c.none_given-given.ensures

pub slice_bounds-read_records-end : goal.slice_bounds-read_records-end
slice_bounds-read_records-end c =
    sym (length-take-le _ _ (enough c.args.part c.args.chips c.args.file.now c.args.ram.now c.check_file.result c.check_file.ensures c.in_ok-check_file.was c.none_given-given.result c.none_given-given.ensures))

pub read_records-requires : goal.read_records-requires
read_records-requires c = (asked c.args.part c.args.chips c.args.file.now c.args.ram.now c.check_file.result c.check_file.ensures c.in_ok-check_file.was).short

pub slice_bounds-given-end-2 : goal.slice_bounds-given-end-2
slice_bounds-given-end-2 c =
    there c.args.part c.args.chips c.args.file.now c.args.ram.now c.check_file.result c.check_file.ensures c.in_ok-check_file.was c.none_given-given.result c.none_given-given.ensures c.read_records.new.given c.read_records.auto.given

pub slice_bounds-copy_from_slice-end : goal.slice_bounds-copy_from_slice-end
slice_bounds-copy_from_slice-end c = sym (length-take-le _ _
    (there c.args.part c.args.chips c.args.file.now c.args.ram.now c.check_file.result c.check_file.ensures c.in_ok-check_file.was c.none_given-given.result c.none_given-given.ensures c.read_records.new.given c.read_records.auto.given))

pub copy_from_slice-requires : goal.copy_from_slice-requires
copy_from_slice-requires c = sym (length-take-le _ _
    (there c.args.part c.args.chips c.args.file.now c.args.ram.now c.check_file.result c.check_file.ensures c.in_ok-check_file.was c.none_given-given.result c.none_given-given.ensures c.read_records.new.given c.read_records.auto.given))

pub returns-in_err-check_file : goal.returns-in_err-check_file
returns-in_err-check_file c = let a = c.args in
    let n = numbered (not-read a.part a.chips a.file.now a.ram.now _ (sym c.check_file.ensures ∙ c.in_err-check_file.was)) in
    let e = err_from_is_err_and c.from_residual.result c.from_residual.ensures.1 in rw (e.1, e.2) (record { ram_after = n.0; result_value = n.1 })

pub returns-in_err-read_records : goal.returns-in_err-read_records
returns-in_err-read_records c = let a = c.args in
    let is = given_is a.part a.chips a.file.now a.ram.now c.check_file.result c.check_file.ensures c.in_ok-check_file.was c.none_given-given.result c.none_given-given.ensures c.read_records.new.given c.read_records.auto.given
    c.read_records.result _ c.read_records.ensures c.in_err-read_records.was in
    let n = numbered (faulty a.part a.chips a.file.now a.ram.now (sym c.check_file.ensures ∙ c.in_ok-check_file.was) c.read_records.new.given _ is) in
    let e = err_from_is_err_and c.from_residual-in_err-read_records.result c.from_residual-in_err-read_records.ensures.1 in rw (e.1, e.2) (record { ram_after = n.0; result_value = n.1 })

pub returns : goal.returns
returns c = let a = c.args in
    let given = c.read_records.new.given in
    let is = given_is a.part a.chips a.file.now a.ram.now c.check_file.result c.check_file.ensures c.in_ok-check_file.was c.none_given-given.result c.none_given-given.ensures given c.read_records.auto.given
    c.read_records.result (Ok tt) c.read_records.ensures c.in_ok-read_records.was in
    let same = copied a.part a.chips a.file.now a.ram.now c.check_file.result c.check_file.ensures c.in_ok-check_file.was c.none_given-given.result c.none_given-given.ensures given c.read_records.auto.given in
    let size = long a.part a.chips a.file.now a.ram.now c.check_file.result c.check_file.ensures c.in_ok-check_file.was c.none_given-given.result c.none_given-given.ensures given c.read_records.auto.given in
    let n = numbered
    (ap (λ (l : List ℕ). record { result = Ok (length a.ram.now); out = l }) (c.copy_from_slice.ensures.after ∙ same)
    ∙ all_read a.part a.chips a.file.now a.ram.now (sym c.check_file.ensures ∙ c.in_ok-check_file.was) given is size) in
    record { ram_after = n.0; result_value = n.1 }
