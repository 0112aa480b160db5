-- `lent_long::answered` meets its contract: refused for the bus, or sent.
-- Assumes nothing.
use mathlib.Core.Path.{refl, sym, ap, ◌∙◌}
use native.Mathlib.Omega.{arith}
use Rattle.sheet.specs.Parts.{part_of}
use Rattle.sheet.specs.Protocol.{heard_by, sent, address_byte}
use Rattle.sheet.specs.Checks.{or_else, check_part, check_sent, check_bytes, check_state, check_transfer}
use Rattle.sheet.specs.Long.{After, taken}
use Rattle.packed_sheet.specs.Packed.{columns_in}
use Rattle.laws.proofs.Fits.{both_pass}
use Rattle.laws.proofs.First.{then-refused, then-passed}
use Rattle.refused.proofs.Fitted.{state-by}
use Rattle.long.proofs.Checked.{by-check}
use Rattle.wire.specs.Bytes.{both_of}
use Rattle.lent_long.specs.LongCalls.{lent_after, numbered}
use Rattle.lent_long.proofs.Sending.{nothing_written, said-numbers}
use Rattle.lent_long.proofs.answered.Goals as goal

pub send-requires : goal.send-requires
send-requires c = let a = c.args in
    let state = check_state (part_of a.bus.part) a.bus.chips (both_of a.registers.now) (columns_in a.bus.packed a.ram.now) in
    let asked = c.check_state.ensures ∙ ap (or_else (check_part a.bus.part)) (state-by (part_of a.bus.part) a.bus.chips (both_of a.registers.now) c.fits-fit.result c.fits-fit.ensures (columns_in a.bus.packed a.ram.now)) in
    (record { size = c.requires.0; state = (both_pass (check_part a.bus.part) state (sym asked ∙ c.in-Ok.is)).1 }, c.requires.1)

pub returns-in-Err : goal.returns-in-Err
unfolding check_transfer
returns-in-Err c = let a = c.args in
    let r = both_of a.registers.now in
    let ram = columns_in a.bus.packed a.ram.now in
    let t = sent a.bytes.now a.bits in
    let state = check_state (part_of a.bus.part) a.bus.chips (both_of a.registers.now) (columns_in a.bus.packed a.ram.now) in
    let asked = c.check_state.ensures ∙ ap (or_else (check_part a.bus.part)) (state-by (part_of a.bus.part) a.bus.chips (both_of a.registers.now) c.fits-fit.result c.fits-fit.ensures (columns_in a.bus.packed a.ram.now)) in
    let rest = or_else (check_sent t) (check_bytes (part_of a.bus.part) r (heard_by a.bus.chips (address_byte t)) t) in
    said-numbers (part_of a.bus.part) _ _ (c.say.ensures.value, c.say.ensures.answer_after)
    (nothing_written a.registers.now ram _ _ (taken (part_of a.bus.part) a.bus.chips r ram t (heard_by a.bus.chips (address_byte t))) c.requires.0 (λ i. grind arith)
    (sym (then-refused (check_part a.bus.part) state rest _ (sym asked ∙ c.in-Err.is)))
    ∙ ap lent_after (sym (by-check a.bus.part a.bus.chips r ram t _ refl)))

pub returns-in-Ok : goal.returns-in-Ok
unfolding check_transfer
returns-in-Ok c = let a = c.args in
    let r = both_of a.registers.now in
    let ram = columns_in a.bus.packed a.ram.now in
    let t = sent a.bytes.now a.bits in
    let state = check_state (part_of a.bus.part) a.bus.chips (both_of a.registers.now) (columns_in a.bus.packed a.ram.now) in
    let asked = c.check_state.ensures ∙ ap (or_else (check_part a.bus.part)) (state-by (part_of a.bus.part) a.bus.chips (both_of a.registers.now) c.fits-fit.result c.fits-fit.ensures (columns_in a.bus.packed a.ram.now)) in
    let rest = or_else (check_sent t) (check_bytes (part_of a.bus.part) r (heard_by a.bus.chips (address_byte t)) t) in
    c.send.ensures
    ∙ ap (λ (q : After). numbered (part_of a.bus.part) (lent_after q)) (sym (by-check a.bus.part a.bus.chips r ram t rest (sym (then-passed (check_part a.bus.part) state rest rest (sym asked ∙ c.in-Ok.is) refl))))
