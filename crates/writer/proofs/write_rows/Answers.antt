-- `writer::write_rows` meets its contract: refused, nothing for no chip, or the transfer at the start of the output.
-- Assumes nothing.
use Rattle.std.proofs.lemmas.Result.{err_from_is_err_and}
use mathlib.Core.Path.{◌≡◌, sym, ap, ap₂, ◌∙◌}
use mathlib.Core.List.{List, [], ◌∷◌, ◌++◌}
use Prim.Native.Nat.{ℕ, ◌+◌, ◌*◌, ◌<◌}
use native.Mathlib.Omega.{arith}
use lib.ListN.{length, drop}
use lib.Seq.{length-take-le}
use borrow.Author.Tests.{eq-eqb}
use Rattle.sheet.specs.declared.Registers.{Registers}
use Rattle.sheet.specs.declared.Both.{Both}
use Rattle.sheet.specs.declared.Chips.{Chips}
use Rattle.std.specs.Prelude.{Ok}
use Rattle.sheet.specs.Parts.{Part, part_of}
use Rattle.sheet.specs.Registers.{backplanes, registers_of}
use Rattle.sheet.specs.Protocol.{address_of, chips_in}
use Rattle.sheet.specs.Checks.{or_else, check_part}
use Rattle.writer_sheet.specs.Writer.{each_after80, settings, set_to, bytes_for, data_of, rows_transfer, check_wanted, write_rows_part}
use Rattle.laws.proofs.Written.{numbered, refuses, too_short, written, none}
use Rattle.laws.proofs.Fits.{both_pass}
use Rattle.laws.proofs.Named.{by-sixteen}
use Rattle.laws.proofs.Ranges.{rows_fit}
use Rattle.laws.proofs.Asked.{Asked, asked_of, few_wanted}
use Rattle.laws.proofs.Puts.{length-rows, is-rows}
use Rattle.writer.proofs.Planes.{by_mode}
use Rattle.writer.proofs.write_rows.Goals as goal

-- no chip, no bytes
is_none : (K : Part) (n : Chips) (r : Both) (g mode bank : ℕ) (wanted : List ℕ) → chips_in g n ≡ 0 → rows_transfer K n r g mode bank wanted ≡ []
unfolding rows_transfer
is_none K n r g mode bank wanted none = rw (eq-eqb (chips_in g n) 0 none)

asks : (part : ℕ) (n : Chips) (r : Both) (g mode bank : ℕ) (wanted : List ℕ) → or_else (check_part part) (check_wanted (part_of part) n r g mode bank wanted) ≡ Ok tt → Asked (part_of part) n r g mode bank wanted
asks part n r g mode bank wanted e = asked_of (part_of part) n r g mode bank wanted (both_pass (check_part part) _ e).1

-- the size is the transfer's
size_is : (part : ℕ) (n : Chips) (r : Both) (g mode bank : ℕ) (wanted : List ℕ) {own : Registers} {m size : ℕ} → 0 < chips_in g n → own ≡ registers_of g r → m ≡ backplanes (set_to mode 0 own)
    → size ≡ 8 + 2 * length ((part_of part).pointer 0) + bytes_for m (length wanted) → size ≡ length (rows_transfer (part_of part) n r g mode bank wanted)
size_is part n r g mode bank wanted some eo em es =
    es
    ∙ ap (λ (m : ℕ). 8 + 2 * length ((part_of part).pointer 0) + bytes_for m (length wanted)) (em ∙ ap (λ (o : Registers). backplanes (set_to mode 0 o)) eo ∙ by_mode mode bank (registers_of g r))
    ∙ sym (length-rows (part_of part) n r g mode bank wanted some)

pub returns-then-chips_in-eq0 : goal.returns-then-chips_in-eq0
unfolding write_rows_part
returns-then-chips_in-eq0 c = let a = c.args in
    let both = numbered (none a.part (check_wanted (part_of a.part) a.chips a.registers a.group a.mode a.bank a.wanted.now) (rows_transfer (part_of a.part) a.chips a.registers a.group a.mode a.bank a.wanted.now) a.out.now (sym c.check_wanted.ensures ∙ c.in_ok-check_wanted.was) (is_none (part_of a.part) a.chips a.registers a.group a.mode a.bank a.wanted.now (sym c.chips_in.ensures ∙ c.if-chips_in-eq0.true))) in
    record { out_after = both.0; result_value = both.1 }

pub rows_size-size-requires : goal.rows_size-size-requires
rows_size-size-requires c = let planes = rows_fit (set_to c.args.mode 0 c.registers_of-own.result) 0 (asks c.args.part c.args.chips c.args.registers c.args.group c.args.mode c.args.bank c.args.wanted.now (sym c.check_wanted.ensures ∙ c.in_ok-check_wanted.was)).mode-in (omega arith) in
    (rw c.backplanes_of.ensures planes.0, rw c.backplanes_of.ensures (omega (arith, planes.1)), omega (arith, few_wanted c.args.part (asks c.args.part c.args.chips c.args.registers c.args.group c.args.mode c.args.bank c.args.wanted.now (sym c.check_wanted.ensures ∙ c.in_ok-check_wanted.was))))

pub returns-then-out-size : goal.returns-then-out-size
unfolding write_rows_part
returns-then-out-size c = let a = c.args in
    let both = numbered (too_short a.part (check_wanted (part_of a.part) a.chips a.registers a.group a.mode a.bank a.wanted.now) (rows_transfer (part_of a.part) a.chips a.registers a.group a.mode a.bank a.wanted.now) a.out.now (sym c.check_wanted.ensures ∙ c.in_ok-check_wanted.was) (omega (arith, size_is c.args.part c.args.chips c.args.registers c.args.group c.args.mode c.args.bank c.args.wanted.now (omega (arith, c.chips_in.ensures)) c.registers_of-own.ensures c.backplanes_of.ensures c.rows_size-size.ensures, c.if-out-size.true))) in
    record { out_after = both.0; result_value = both.1 }

pub put_rows-requires : goal.put_rows-requires
put_rows-requires c = let a = c.args in
    let asked = asks c.args.part c.args.chips c.args.registers c.args.group c.args.mode c.args.bank c.args.wanted.now (sym c.check_wanted.ensures ∙ c.in_ok-check_wanted.was) in
    let own = asked.own_in in
    let e = c.registers_of-own.ensures in (
      record { group-in = asked.group-in; e-in = rw e own.e-in; b-in = rw e own.b-in; o-in = rw e own.o-in; mode-in = asked.mode-in; bank-in = asked.bank-in },
      record {
        size =
            length-take-le c.rows_size-size.result a.out.now (omega (arith, c.if-out-size.false)) ∙ c.rows_size-size.ensures
            ∙ ap (λ (m : ℕ). 8 + 2 * length ((part_of a.part).pointer 0) + bytes_for m (length a.wanted.now)) c.backplanes_of.ensures;
        sixteen = rw asked.columns (by-sixteen a.part (chips_in a.group a.chips));
        near = omega (arith, few_wanted c.args.part (asks c.args.part c.args.chips c.args.registers c.args.group c.args.mode c.args.bank c.args.wanted.now (sym c.check_wanted.ensures ∙ c.in_ok-check_wanted.was)));
      },
    )

pub returns-in_err-check_wanted : goal.returns-in_err-check_wanted
unfolding write_rows_part
returns-in_err-check_wanted c = let a = c.args in
    let both = numbered (refuses a.part (check_wanted (part_of a.part) a.chips a.registers a.group a.mode a.bank a.wanted.now) (rows_transfer (part_of a.part) a.chips a.registers a.group a.mode a.bank a.wanted.now) a.out.now _ (sym c.check_wanted.ensures ∙ c.in_err-check_wanted.was)) in
    let p = err_from_is_err_and c.from_residual.result c.from_residual.ensures.1 in rw (p.1, p.2) (record { out_after = both.0; result_value = both.1 })

pub returns : goal.returns
unfolding write_rows_part
returns c = let a = c.args in
    let is = c.put_rows.ensures
    ∙ ap (λ (r : Registers). address_of a.group ∷ each_after80 (settings (part_of a.part) r a.mode a.bank) ++ (0x40 ∷ data_of (set_to a.mode a.bank r) a.wanted.now)) c.registers_of-own.ensures
    ∙ sym (is-rows (part_of a.part) a.chips a.registers a.group a.mode a.bank a.wanted.now (omega (arith, c.chips_in.ensures))) in
    let both = numbered
    (ap₂ (λ (k : ℕ) (l : List ℕ). record { result = Ok k; out = l ++ drop k a.out.now }) (size_is c.args.part c.args.chips c.args.registers c.args.group c.args.mode c.args.bank c.args.wanted.now (omega (arith, c.chips_in.ensures)) c.registers_of-own.ensures c.backplanes_of.ensures c.rows_size-size.ensures) is
    ∙ written a.part (check_wanted (part_of a.part) a.chips a.registers a.group a.mode a.bank a.wanted.now) (rows_transfer (part_of a.part) a.chips a.registers a.group a.mode a.bank a.wanted.now) a.out.now (sym c.check_wanted.ensures ∙ c.in_ok-check_wanted.was) (omega (arith, size_is c.args.part c.args.chips c.args.registers c.args.group c.args.mode c.args.bank c.args.wanted.now (omega (arith, c.chips_in.ensures)) c.registers_of-own.ensures c.backplanes_of.ensures c.rows_size-size.ensures))) in
    record { out_after = both.0; result_value = both.1 }
