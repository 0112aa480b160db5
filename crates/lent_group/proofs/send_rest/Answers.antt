-- `lent_group::send_rest` meets its contract: refused, the twelve bytes are taken back; taken, what is left is heard.
-- Assumes nothing.
use mathlib.Core.Path.{◌≡◌, refl, sym, ap, subst, ◌∙◌}
use mathlib.Core.Bool.{true}
use mathlib.Core.List.{List}
use Prim.Native.Nat.{ℕ, ◌≤◌, ◌<◌}
use native.Mathlib.Omega.{arith}
use lib.Dec.{ltb}
use lib.ListN.{length, take, drop}
use lib.Seq.{length-take-le}
use Rattle.std.specs.Prelude.{Err, Ok}
use Rattle.sheet.specs.declared.Expect.TheVariants.{Control}
use Rattle.sheet.specs.Parts.{part_of}
use Rattle.sheet.specs.Registers.{in_range}
use Rattle.sheet.specs.Protocol.{sent, whole_of}
use Rattle.sheet.specs.Checks.{fault_in}
use Rattle.packed_sheet.specs.Packed.{columns_in}
use Rattle.laws.proofs.Kept.{part-keeps}
use Rattle.laws.proofs.Wholes.{whole-most, whole-taken}
use Rattle.opening.specs.Opened.{Opening}
use Rattle.opening.proofs.Openings.{opens-whole, opened-kept}
use Rattle.wire.specs.Bytes.{registers_in}
use Rattle.lent_opening.specs.Held.{held_in}
use Rattle.lent_group.specs.Sets.{SetAfter, numbered_set}
use Rattle.lent_group.proofs.Sets.{said-numbers, rest-refused, rest-heard}
use Rattle.lent_group.proofs.send_rest.Goals as goal

pub slice_bounds-fault_from-end : goal.slice_bounds-fault_from-end
slice_bounds-fault_from-end c = let a = c.args in
    sym (length-take-le _ _ (subst (λ (k : ℕ). k ≤ length a.bytes.now) (sym c.whole_count-whole.ensures) (whole-most (length a.bytes.now) a.bits)))

pub fault_from-requires : goal.fault_from-requires
fault_from-requires c = let a = c.args in
    subst (λ (l : List ℕ). a.from < length l) (sym (ap (λ (k : ℕ). take k a.bytes.now) c.whole_count-whole.ensures ∙ whole-taken a.bytes.now a.bits)) c.requires.more

pub hear_rest-requires : goal.hear_rest-requires
hear_rest-requires c = let a = c.args in
    let K = part_of a.bus.part in
    let t = sent a.bytes.now a.bits in
    record {
      ready = record {
        both = c.requires.asked.both;
        state = c.requires.asked.state;
        range = subst (λ (o : Opening). in_range K o.registers ≡ true) (sym c.requires.opening) (opened-kept K (part-keeps a.bus.part) (registers_in (held_in a.kept)) 1 (drop 1 (whole_of t)) c.requires.asked.range);
        short = c.requires.asked.short;
        place = omega (arith, c.requires.more);
      };
      twelve = c.requires.twelve;
      six = c.requires.asked.six;
    }

pub returns-in-Err : goal.returns-in-Err
returns-in-Err c = let a = c.args in
    let K = part_of a.bus.part in
    let t = sent a.bytes.now a.bits in
    let opening : Opening = record { fault = (Ok tt); registers = registers_in a.set.now; at = a.from } in
    let opens = opens-whole K (registers_in (held_in a.kept)) t opening c.requires.asked.some c.requires.opening in
    let whole = ap (λ (k : ℕ). take k a.bytes.now) c.whole_count-whole.ensures ∙ whole-taken a.bytes.now a.bits in
    let looked = sym (c.fault_from.ensures ∙ (λ i. fault_in K (ltb a.bits 8) (c.registers_of-opened.ensures i).unknown Control a.from (drop a.from (whole i)))) in
    let ram = columns_in a.bus.packed a.ram.now in
    let x = c.in-Err.refusal in
    said-numbers K (record { answer = Err x; set = c.take_back.new.set; ram = ram }) _ (c.say.ensures.value, c.say.ensures.answer_after)
    (◌∙◌ {A = SetAfter} (λ i. record { answer = Err x; set = c.take_back.ensures i; ram = ram })
    (rest-refused K a.bus.chips a.group (held_in a.kept) ram t opening opens _ refl (looked ∙ c.in-Err.is)))

pub returns-in-Ok : goal.returns-in-Ok
returns-in-Ok c = let a = c.args in
    let K = part_of a.bus.part in
    let t = sent a.bytes.now a.bits in
    let opening : Opening = record { fault = (Ok tt); registers = registers_in a.set.now; at = a.from } in
    let opens = opens-whole K (registers_in (held_in a.kept)) t opening c.requires.asked.some c.requires.opening in
    let whole = ap (λ (k : ℕ). take k a.bytes.now) c.whole_count-whole.ensures ∙ whole-taken a.bytes.now a.bits in
    let looked = sym (c.fault_from.ensures ∙ (λ i. fault_in K (ltb a.bits 8) (c.registers_of-opened.ensures i).unknown Control a.from (drop a.from (whole i)))) in
    c.hear_rest.ensures
    ∙ ap (numbered_set K) (rest-heard K a.bus.chips a.group (held_in a.kept) (columns_in a.bus.packed a.ram.now) t opening opens refl (looked ∙ c.in-Ok.is))

pub say-requires : goal.say-requires
say-requires c = c.requires.asked.six
