-- `long::transfer` meets its contract: refused, delivered to a group, or heard by nobody.
-- Assumes nothing.
use mathlib.Core.Path.{◌≡◌, sym, ap, ◌∙◌}
use Rattle.std.specs.Prelude.{Ok}
use Rattle.sheet.specs.Results.{Addressed, Check}
use Rattle.sheet.specs.Parts.{part_of}
use Rattle.sheet.specs.Protocol.{heard_by, sent, address_byte, Sent}
use Rattle.sheet.specs.Checks.{check_part, or_else, check_transfer}
use Rattle.sheet.specs.declared.Both.{Both}
use Rattle.sheet.specs.declared.Chips.{Chips}
use mathlib.Core.List.{List}
use Prim.Native.Nat.{ℕ}
use Rattle.sheet.specs.Long.{taken, transfer_part}
use Rattle.packed_sheet.specs.Packed.{columns_in}
use Rattle.laws.proofs.Numbered.{numbered}
use Rattle.laws.proofs.Fits.{both_pass, transfer-passed}
use Rattle.opening.proofs.Openings.{hearer_some}
use Rattle.long.proofs.Checked.{by-check}
use Rattle.long.proofs.transfer.Goals as goal

-- what is taken once the checks have passed, by who hears
takes : (part : ℕ) (n : Chips) (r : Both) (ram : List ℕ) (t : Sent) (check : Check) (heard to : Addressed) (address : ℕ)
    → check ≡ or_else (check_part part) (check_transfer (part_of part) n r ram t) → check ≡ Ok tt → address ≡ address_byte t → heard ≡ heard_by n address → heard ≡ to
    → transfer_part part n r ram t ≡ taken (part_of part) n r ram t to
takes part n r ram t check heard to address asked passed at hears told = by-check part n r ram t _ (sym asked ∙ passed) ∙ ap (λ (k : Addressed). taken (part_of part) n r ram t k) (sym (hears ∙ ap (heard_by n) at) ∙ told)

pub deliver-requires : goal.deliver-requires
deliver-requires c = let a = c.args in
    let e = (both_pass (check_part a.bus.part) _ (sym c.check_transfer.ensures ∙ c.in-Ok.is)).1 in
    let p = transfer-passed (part_of a.bus.part) a.bus.chips a.registers (columns_in a.bus.packed a.ram.now) (sent a.bytes.now a.bits) e in
    (p.0, p.1.1, hearer_some a.bus.chips (sent a.bytes.now a.bits) _ (sym (c.heard_by.ensures ∙ ap (heard_by a.bus.chips) c.address_byte.ensures) ∙ c.in-Some.is))

pub returns-in-Err : goal.returns-in-Err
returns-in-Err c = let a = c.args in
    let p = numbered (part_of a.bus.part) (sym (by-check a.bus.part a.bus.chips a.registers (columns_in a.bus.packed a.ram.now) (sent a.bytes.now a.bits) _ (sym c.check_transfer.ensures ∙ c.in-Err.is))) in
    record { ram_after = p.0; answer_value = p.1 }

pub returns-in-Some : goal.returns-in-Some
returns-in-Some c = let a = c.args in
    let p = numbered (part_of a.bus.part) (c.deliver.ensures ∙ sym (takes a.bus.part a.bus.chips a.registers (columns_in a.bus.packed a.ram.now) (sent a.bytes.now a.bits) _ _ _ _ c.check_transfer.ensures c.in-Ok.is c.address_byte.ensures c.heard_by.ensures c.in-Some.is)) in
    record { ram_after = p.0; answer_value = p.1 }

pub returns-in-None : goal.returns-in-None
returns-in-None c = let a = c.args in
    let p = numbered (part_of a.bus.part) ((λ j. record { result = record { answer = c.without_data.ensures j; registers = a.registers }; ram = columns_in a.bus.packed a.ram.now }) ∙ sym (takes a.bus.part a.bus.chips a.registers (columns_in a.bus.packed a.ram.now) (sent a.bytes.now a.bits) _ _ _ _ c.check_transfer.ensures c.in-Ok.is c.address_byte.ensures c.heard_by.ensures c.in-None.is)) in
    record { ram_after = p.0; answer_value = p.1 }
