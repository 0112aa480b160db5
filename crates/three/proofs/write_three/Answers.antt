-- `three::write_three` meets its contract: refused, nothing for no chip, or the transfer at the start of the output.
-- Assumes nothing.
use Rattle.std.proofs.lemmas.Result.{err_from_is_err_and}
use mathlib.Core.Path.{◌≡◌, sym, ap, ap₂, ◌∙◌}
use mathlib.Core.List.{List, [], ◌∷◌, ◌++◌}
use Prim.Native.Nat.{ℕ, ◌+◌, ◌*◌, ◌/◌, ◌%◌, ◌≤◌, ◌<◌}
use native.Mathlib.Nat.{mul-le-mul_left}
use native.Mathlib.Omega.{arith}
use lib.ListN.{length, drop}
use lib.Seq.{length-take-le}
use borrow.Author.Tests.{eq-eqb}
use Rattle.sheet.specs.declared.Registers.{Registers}
use Rattle.sheet.specs.declared.Both.{Both}
use Rattle.sheet.specs.declared.Chips.{Chips}
use Rattle.std.specs.Prelude.{Ok}
use Rattle.sheet.specs.Parts.{Part, part_of}
use Rattle.sheet.specs.Protocol.{address_of, chips_in}
use Rattle.sheet.specs.Checks.{or_else, check_part}
use Rattle.writer_sheet.specs.Writer.{each_after80, mode_set_of, check_wanted}
use Rattle.writer_sheet.specs.Three.{pairs_from, three_transfer, write_three_part}
use Rattle.laws.proofs.Written.{numbered, refuses, too_short, written, none}
use Rattle.laws.proofs.Fits.{both_pass}
use Rattle.laws.proofs.Named.{of-both}
use Rattle.laws.proofs.Asked.{Asked, asked_of, few_wanted}
use Rattle.laws.proofs.PutsThree.{is-three, length-of-part, pairs_small}
use Rattle.three.proofs.write_three.Goals as goal

-- no chip, no bytes
is_none : (K : Part) (n : Chips) (r : Both) (g : ℕ) (wanted : List ℕ) → chips_in g n ≡ 0 → three_transfer K n r g wanted ≡ []
unfolding three_transfer
is_none K n r g wanted none = rw (eq-eqb (chips_in g n) 0 none)

asks : (part : ℕ) (n : Chips) (r : Both) (g : ℕ) (wanted : List ℕ) → or_else (check_part part) (check_wanted (part_of part) n r g 3 0 wanted) ≡ Ok tt → Asked (part_of part) n r g 3 0 wanted
asks part n r g wanted e = asked_of (part_of part) n r g 3 0 wanted (both_pass (check_part part) _ e).1

-- the columns are those of whole chips
whole-chips : (part chips : ℕ) → (part_of part).columns * chips % (part_of part).columns ≡ 0
whole-chips part chips = of-both (λ K. K.columns * chips % K.columns ≡ 0) part (omega arith) (omega arith)

-- the size is the transfer's
size_is : (part : ℕ) (n : Chips) (r : Both) (g : ℕ) (wanted : List ℕ) {byte : ℕ} → 0 < chips_in g n → byte ≡ 4 + 2 * length ((part_of part).pointer 0) → 3 + byte * (length wanted / 2) ≡ length (three_transfer (part_of part) n r g wanted)
size_is part n r g wanted some e = ap (λ (k : ℕ). 3 + k * (length wanted / 2)) e ∙ sym (length-of-part part n r g wanted some)

-- and small
size_small : (part n : ℕ) {byte : ℕ} → byte ≡ 4 + 2 * length ((part_of part).pointer 0) → n ≤ 640 → byte * (n / 2) ≤ 2560
size_small part n e few = rw e (pairs_small part n few)

pub returns-then-chips_in-eq0 : goal.returns-then-chips_in-eq0
unfolding write_three_part
returns-then-chips_in-eq0 c = let a = c.args in
    let both = numbered (none a.part (check_wanted (part_of a.part) a.chips a.registers a.group 3 0 a.wanted.now) (three_transfer (part_of a.part) a.chips a.registers a.group a.wanted.now) a.out.now (sym c.check_every.ensures ∙ c.in_ok-check_every.was) (is_none (part_of a.part) a.chips a.registers a.group a.wanted.now (sym c.chips_in.ensures ∙ c.if-chips_in-eq0.true))) in
    record { out_after = both.0; result_value = both.1 }

pub returns-then-out-size : goal.returns-then-out-size
unfolding write_three_part
returns-then-out-size c = let a = c.args in
    let both = numbered (too_short a.part (check_wanted (part_of a.part) a.chips a.registers a.group 3 0 a.wanted.now) (three_transfer (part_of a.part) a.chips a.registers a.group a.wanted.now) a.out.now (sym c.check_every.ensures ∙ c.in_ok-check_every.was) (omega (arith, size_is c.args.part c.args.chips c.args.registers c.args.group c.args.wanted.now (omega (arith, c.if-chips_in-eq0.false, c.chips_in.ensures)) c.byte_size.ensures, c.if-out-size.true))) in
    record { out_after = both.0; result_value = both.1 }

pub put_three-requires : goal.put_three-requires
put_three-requires c = let a = c.args in
    let asked = asks c.args.part c.args.chips c.args.registers c.args.group c.args.wanted.now (sym c.check_every.ensures ∙ c.in_ok-check_every.was) in
    let own = asked.own_in in
    let e = c.registers_of-own.ensures in (
      asked.group-in,
      rw e own.e-in,
      rw e own.b-in,
      record {
        there = rw asked.columns (mul-le-mul_left (part_of a.part).columns asked.few);
        chips = rw asked.columns (whole-chips a.part (chips_in a.group a.chips));
        room =
            length-take-le (3 + c.byte_size.result * (length a.wanted.now / 2)) a.out.now (omega (arith, c.if-out-size.false))
            ∙ ap (λ (k : ℕ). 3 + k * (length a.wanted.now / 2)) c.byte_size.ensures;
      },
    )

pub returns-in_err-check_every : goal.returns-in_err-check_every
unfolding write_three_part
returns-in_err-check_every c = let a = c.args in
    let both = numbered (refuses a.part (check_wanted (part_of a.part) a.chips a.registers a.group 3 0 a.wanted.now) (three_transfer (part_of a.part) a.chips a.registers a.group a.wanted.now) a.out.now _ (sym c.check_every.ensures ∙ c.in_err-check_every.was)) in
    let p = err_from_is_err_and c.from_residual.result c.from_residual.ensures.1 in rw (p.1, p.2) (record { out_after = both.0; result_value = both.1 })

pub returns : goal.returns
unfolding write_three_part
returns c = let a = c.args in
    let is = c.put_three.ensures
    ∙ ap (λ (r : Registers). address_of a.group ∷ each_after80 (mode_set_of r 3 ∷ []) ++ pairs_from (part_of a.part) (length a.wanted.now / 2) 0 a.wanted.now) c.registers_of-own.ensures
    ∙ sym (is-three (part_of a.part) a.chips a.registers a.group a.wanted.now (omega (arith, c.if-chips_in-eq0.false, c.chips_in.ensures))) in
    let both = numbered
    (ap₂ (λ (k : ℕ) (l : List ℕ). record { result = Ok k; out = l ++ drop k a.out.now }) (size_is c.args.part c.args.chips c.args.registers c.args.group c.args.wanted.now (omega (arith, c.if-chips_in-eq0.false, c.chips_in.ensures)) c.byte_size.ensures) is
    ∙ written a.part (check_wanted (part_of a.part) a.chips a.registers a.group 3 0 a.wanted.now) (three_transfer (part_of a.part) a.chips a.registers a.group a.wanted.now) a.out.now (sym c.check_every.ensures ∙ c.in_ok-check_every.was) (omega (arith, size_is c.args.part c.args.chips c.args.registers c.args.group c.args.wanted.now (omega (arith, c.if-chips_in-eq0.false, c.chips_in.ensures)) c.byte_size.ensures))) in
    record { out_after = both.0; result_value = both.1 }

pub overflow_mul-size : goal.overflow_mul-size
overflow_mul-size c = omega (arith, size_small c.args.part (length c.args.wanted.now) c.byte_size.ensures (few_wanted c.args.part (asks c.args.part c.args.chips c.args.registers c.args.group c.args.wanted.now (sym c.check_every.ensures ∙ c.in_ok-check_every.was))))

pub overflow_add-size : goal.overflow_add-size
overflow_add-size c = omega (arith, size_small c.args.part (length c.args.wanted.now) c.byte_size.ensures (few_wanted c.args.part (asks c.args.part c.args.chips c.args.registers c.args.group c.args.wanted.now (sym c.check_every.ensures ∙ c.in_ok-check_every.was))))
