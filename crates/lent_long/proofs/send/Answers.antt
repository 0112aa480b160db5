-- `lent_long::send` meets its contract: refused by its length or its bits, heard by a group, or by nobody.
-- Assumes nothing.
use mathlib.Core.Path.{◌≡◌, sym, ap, ap₂, ◌∙◌}
use Rattle.std.specs.Prelude.{None, Ok}
use Rattle.sheet.specs.Results.{Addressed, Check}
use Rattle.sheet.specs.declared.Chips.{Chips}
use mathlib.Core.List.{List}
use Prim.Native.Nat.{ℕ}
use lib.ListN.{length}
use Rattle.sheet.specs.Parts.{Part, part_of}
use Rattle.sheet.specs.Protocol.{heard_by, Sent, sent, address_byte}
use Rattle.sheet.specs.Checks.{or_else, check_sent, check_length, check_bits, check_bytes}
use Rattle.sheet.specs.Long.{no_counts, taken, answered}
use Rattle.packed_sheet.specs.Packed.{columns_in}
use Rattle.laws.proofs.Fits.{sent-passed}
use Rattle.opening.proofs.Openings.{hearer_some}
use Rattle.wire.specs.Bytes.{both_of}
use Rattle.wire.proofs.Given.{both-back}
use Rattle.lent_long.specs.LongCalls.{LentAfter, lent_after, numbered, sent_c}
use Rattle.lent_group.proofs.Sets.{said_of}
use Rattle.lent_long.proofs.Sending.{nothing_written, hearer_small, said-numbers}
use Rattle.lent_long.proofs.send.Goals as goal

-- past the match 1, 2 and 19 have passed
passes : (bytes : List ℕ) (bits : ℕ) (k : Check) → k ≡ or_else (check_length (length bytes)) (check_bits bits) → k ≡ Ok tt → check_sent (sent bytes bits) ≡ Ok tt
unfolding check_sent
passes bytes bits k e passed = sym e ∙ passed

-- what is answered then, by who hears
by-hearer : (K : Part) (n : Chips) (l ram : List ℕ) (t : Sent) (heard to : Addressed) → check_sent t ≡ Ok tt → heard ≡ heard_by n (address_byte t) → heard ≡ to
    → lent_after (answered (check_bytes K (both_of l) to t) (both_of l) ram (taken K n (both_of l) ram t to)) ≡ sent_c K n l ram t
by-hearer K n l ram t heard to passed e told =
    ap₂ (λ (k : Check) (to : Addressed). lent_after (answered (or_else k (check_bytes K (both_of l) to t)) (both_of l) ram (taken K n (both_of l) ram t to))) (sym passed) (sym told ∙ e)

pub send_to-requires : goal.send_to-requires
send_to-requires c = let a = c.args in
    let t = sent a.bytes.now a.bits in
    let to = sym (c.heard_by.ensures ∙ ap (heard_by a.bus.chips) c.address_byte.ensures) ∙ c.in-Some.is in
    record { bus = c.requires.0; small = hearer_small a.bus.chips _ _ to; short = (sent-passed t (passes a.bytes.now a.bits _ c.check_sent.ensures c.in-Ok.is)).1; some = hearer_some a.bus.chips t _ to; six = c.requires.1 }

pub returns-in-Err : goal.returns-in-Err
unfolding check_sent
returns-in-Err c = let a = c.args in
    let K = part_of a.bus.part in
    let r = both_of a.registers.now in
    let ram = columns_in a.bus.packed a.ram.now in
    let t = sent a.bytes.now a.bits in
    let to = heard_by a.bus.chips (address_byte t) in
    said-numbers K _ _ (c.say.ensures.value, c.say.ensures.answer_after)
    (nothing_written a.registers.now ram _ _ (taken K a.bus.chips r ram t to) c.requires.0.size (λ i. (c.type_inv.registers i).fits)
    (ap (λ (c : Check). or_else c (check_bytes K r to t)) (sym c.check_sent.ensures ∙ c.in-Err.is)))

pub returns-in-Some : goal.returns-in-Some
returns-in-Some c = let a = c.args in
    c.send_to.ensures ∙ ap (numbered (part_of a.bus.part)) (by-hearer (part_of a.bus.part) a.bus.chips a.registers.now (columns_in a.bus.packed a.ram.now) (sent a.bytes.now a.bits) _ _ (passes a.bytes.now a.bits _ c.check_sent.ensures c.in-Ok.is) (c.heard_by.ensures ∙ ap (heard_by a.bus.chips) c.address_byte.ensures) c.in-Some.is)

pub returns-in-None : goal.returns-in-None
returns-in-None c = let a = c.args in
    let K = part_of a.bus.part in
    let l = a.registers.now in
    let ram = columns_in a.bus.packed a.ram.now in
    let same : ◌≡◌ {A = LentAfter} (record { answer = Ok (record { counts = no_counts; last = None }); registers = l; ram = ram }) (lent_after (taken K a.bus.chips (both_of l) ram (sent a.bytes.now a.bits) None)) =
    λ j. record { answer = Ok (record { counts = no_counts; last = None }); registers = sym (both-back l c.requires.0.size (λ i. (c.type_inv.registers i).fits)) j; ram = ram } in
    said-numbers K _ _ (said_of K (c.say-in-None.ensures.value, c.say-in-None.ensures.answer_after) c.without_data.ensures) (same ∙ by-hearer (part_of a.bus.part) a.bus.chips a.registers.now (columns_in a.bus.packed a.ram.now) (sent a.bytes.now a.bits) _ _ (passes a.bytes.now a.bits _ c.check_sent.ensures c.in-Ok.is) (c.heard_by.ensures ∙ ap (heard_by a.bus.chips) c.address_byte.ensures) c.in-None.is)
