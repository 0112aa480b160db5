-- `chip::picture` meets its contract, by the case of the check; one that passes lets the chip be shown.
-- Assumes nothing.
use Rattle.std.proofs.lemmas.Result.{err_from_is_err_and}
use mathlib.Core.Path.{◌≡◌, sym, ap, ◌∙◌}
use mathlib.Core.Bool.{true}
use mathlib.Core.List.{List}
use Prim.Native.Nat.{ℕ}
use lib.ListN.{length}
use Rattle.sheet.specs.declared.Chip.{Chip}
use Rattle.std.specs.Prelude.{Ok}
use Rattle.sheet.specs.Results.{Check}
use Rattle.sheet.specs.Parts.{part_of}
use Rattle.sheet.specs.Registers.{in_range}
use Rattle.sheet.specs.Checks.{or_else, check_part}
use Rattle.sheet.specs.Pictures.{Seen, picture_of, seen}
use Rattle.sheet.specs.Plain.{own_columns, check_chip_picture, chip_picture_call, chip_picture_part}
use Rattle.laws.proofs.Ranges.{range-of}
use Rattle.laws.proofs.Fits.{both_pass, chip-picture-passed}
use Rattle.laws.proofs.First.{seen_first}
use Rattle.laws.proofs.Numbered.{numbered-picture}
use Rattle.chip.proofs.picture.Goals as goal

-- what the call is, by what its checks answer
by-check : (part : ℕ) (c : Chip) (phase : ℕ) (out : List ℕ) (k : Check) → or_else (check_part part) (check_chip_picture (part_of part) c phase (length out)) ≡ k
    → chip_picture_part part c phase out ≡ seen k (picture_of c.registers phase (own_columns (part_of part) c)) out
unfolding chip_picture_part chip_picture_call
by-check part c phase out k e =
    seen_first (check_part part) (check_chip_picture (part_of part) c phase (length out)) _ out
    ∙ ap (λ (k : Check). seen k (picture_of c.registers phase (own_columns (part_of part) c)) out) e

-- the checks have passed, so the registers are in range, and the buffer is as long as the columns
known : (part : ℕ) (c : Chip) (phase : ℕ) (out : List ℕ) → or_else (check_part part) (check_chip_picture (part_of part) c phase (length out)) ≡ Ok tt
    → (in_range (part_of part) c.registers ≡ true) × (length out ≡ (part_of part).columns)
known part c phase out e = chip-picture-passed (part_of part) _ _ _ (both_pass (check_part part) _ e).1

pub show_own-requires : goal.show_own-requires
show_own-requires c = let a = c.args in
    let h = known a.part a.chip a.phase a.out.now (sym c.check_picture.ensures ∙ c.in_ok-check_picture.was) in
    let r = range-of (part_of a.part) a.chip.registers h.0 in
    (h.1, r.m-in, r.o-in)

pub returns-in_err-check_picture : goal.returns-in_err-check_picture
returns-in_err-check_picture c = let a = c.args in
    let h = numbered-picture (sym (by-check a.part a.chip a.phase a.out.now _ (sym c.check_picture.ensures ∙ c.in_err-check_picture.was))) in
    let p = err_from_is_err_and c.from_residual.result c.from_residual.ensures.1 in rw (p.1, p.2) (record { out_after = h.0; result_value = h.1 })

pub returns : goal.returns
returns c = let a = c.args in
    let e = c.show_own.ensures in
    let shown : ◌≡◌ {A = Seen} (record { result = Ok c.show_own.result; out = c.show_own.new.out }) (seen (Ok tt) (picture_of a.chip.registers a.phase (own_columns (part_of a.part) a.chip)) a.out.now) =
    λ j. record { result = Ok (e.value j); out = e.out_after j } in
    let h = numbered-picture (shown ∙ sym (by-check a.part a.chip a.phase a.out.now _ (sym c.check_picture.ensures ∙ c.in_ok-check_picture.was))) in
    record { out_after = h.0; result_value = h.1 }
