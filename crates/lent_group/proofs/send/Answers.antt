-- `lent_group::send` meets its contract: the commands that open the transfer, and what is left of it, if anything is.
-- Assumes nothing.
use mathlib.Core.Path.{◌≡◌, sym, ap, subst, ◌∙◌}
use mathlib.Core.List.{List}
use Prim.Native.Nat.{ℕ, ◌≤◌, ◌<◌}
use lib.ListN.{length, take, drop}
use lib.Seq.{length-take-le}
use Rattle.std.specs.Prelude.{Err, None, Ok}
use Rattle.sheet.specs.Parts.{part_of}
use Rattle.sheet.specs.Protocol.{sent, whole_of}
use Rattle.packed_sheet.specs.Packed.{columns_in}
use Rattle.laws.proofs.Wholes.{whole-most, whole-taken}
use Rattle.opening.specs.Opened.{Opening, opened}
use Rattle.opening.proofs.Openings.{opens-whole}
use Rattle.wire.specs.Bytes.{registers_in}
use Rattle.wire.proofs.Given.{registers-back}
use Rattle.lent_group.specs.Sets.{Asked, SetAfter, heard_set, set_to, numbered_set}
use Rattle.lent_group.proofs.Sets.{said_of, said-numbers, opening-refused, rest-heard, none-looked, none-heard}
use Rattle.lent_group.proofs.send.Goals as goal

pub slice_bounds-open-end : goal.slice_bounds-open-end
slice_bounds-open-end c = let a = c.args in
    sym (length-take-le _ _ (subst (λ (k : ℕ). k ≤ length a.bytes.now) (sym c.whole_count-whole.ensures) (whole-most (length a.bytes.now) a.bits)))

pub open-opening-requires : goal.open-opening-requires
open-opening-requires c = let a = c.args in
    (c.requires.twelve, subst (λ (l : List ℕ). 0 < length l) (sym (ap (λ (k : ℕ). take k a.bytes.now) c.whole_count-whole.ensures ∙ whole-taken a.bytes.now a.bits)) c.requires.some)

pub send_rest-requires : goal.send_rest-requires
send_rest-requires c = let a = c.args in
    let K = part_of a.bus.part in
    let t = sent a.bytes.now a.bits in
    let whole = ap (λ (k : ℕ). take k a.bytes.now) c.whole_count-whole.ensures ∙ whole-taken a.bytes.now a.bits in
    let opening : Opening = record { fault = c.open-opening.result.fault; registers = registers_in c.open-opening.new.set; at = c.open-opening.result.at } in
    let told = c.open-opening.ensures.0 ∙ ap (λ (l : List ℕ). opened K (registers_in a.set.now) 1 (drop 1 l)) whole in
    let opens = opens-whole K (registers_in a.set.now) t opening c.requires.some told in
    let size : c.whole_count-whole.result ≡ length (take c.whole_count-whole.result a.bytes.now) = sym (length-take-le _ _ (subst (λ (k : ℕ). k ≤ length a.bytes.now) (sym c.whole_count-whole.ensures) (whole-most (length a.bytes.now) a.bits))) in
    let held = c.keep-kept.ensures in
    record {
      asked = subst (λ (l : List ℕ). Asked K a.bus.chips l (columns_in a.bus.packed a.ram.now) t a.answer.now) (sym held) c.requires;
      twelve = c.open-opening.ensures.1;
      opening =
          (λ j. record { fault = sym c.in-Ok.is j; registers = registers_in c.open-opening.new.set; at = c.open-opening.result.at })
          ∙ told
          ∙ ap (λ (l : List ℕ). opened K (registers_in l) 1 (drop 1 (whole_of t))) (sym held);
      more = subst (λ (l : List ℕ). c.open-opening.result.at < length l) whole (rw (← size) c.if-from-whole.true);
    }

pub returns-in-Err : goal.returns-in-Err
returns-in-Err c = let a = c.args in
    let K = part_of a.bus.part in
    let t = sent a.bytes.now a.bits in
    let whole = ap (λ (k : ℕ). take k a.bytes.now) c.whole_count-whole.ensures ∙ whole-taken a.bytes.now a.bits in
    let opening : Opening = record { fault = c.open-opening.result.fault; registers = registers_in c.open-opening.new.set; at = c.open-opening.result.at } in
    let told = c.open-opening.ensures.0 ∙ ap (λ (l : List ℕ). opened K (registers_in a.set.now) 1 (drop 1 l)) whole in
    let opens = opens-whole K (registers_in a.set.now) t opening c.requires.some told in
    let ram = columns_in a.bus.packed a.ram.now in
    let x = c.in-Err.refusal in
    said-numbers K (record { answer = Err x; set = c.take_back.new.set; ram = ram }) _ (c.say.ensures.value, c.say.ensures.answer_after)
    (◌∙◌ {A = SetAfter} (λ i. record { answer = Err x; set = (c.take_back.ensures ∙ c.keep-kept.ensures) i; ram = ram })
    (opening-refused K a.bus.chips a.group a.set.now ram t opening opens _ c.in-Err.is))

pub returns-then-from-whole : goal.returns-then-from-whole
returns-then-from-whole c = let a = c.args in
    let K = part_of a.bus.part in
    c.send_rest.ensures ∙ ap (λ (l : List ℕ). numbered_set K (set_to K a.bus.chips a.group l (columns_in a.bus.packed a.ram.now) (sent a.bytes.now a.bits))) c.keep-kept.ensures

pub returns-else-from-whole : goal.returns-else-from-whole
returns-else-from-whole c = let a = c.args in
    let K = part_of a.bus.part in
    let t = sent a.bytes.now a.bits in
    let whole = ap (λ (k : ℕ). take k a.bytes.now) c.whole_count-whole.ensures ∙ whole-taken a.bytes.now a.bits in
    let opening : Opening = record { fault = c.open-opening.result.fault; registers = registers_in c.open-opening.new.set; at = c.open-opening.result.at } in
    let told = c.open-opening.ensures.0 ∙ ap (λ (l : List ℕ). opened K (registers_in a.set.now) 1 (drop 1 l)) whole in
    let opens = opens-whole K (registers_in a.set.now) t opening c.requires.some told in
    let size : c.whole_count-whole.result ≡ length (take c.whole_count-whole.result a.bytes.now) = sym (length-take-le _ _ (subst (λ (k : ℕ). k ≤ length a.bytes.now) (sym c.whole_count-whole.ensures) (whole-most (length a.bytes.now) a.bits))) in
    let ram = columns_in a.bus.packed a.ram.now in
    let at = c.open-opening.result.at in
    let after = c.open-opening.new.set in
    let all : length (whole_of t) ≤ at = subst (λ (l : List ℕ). length l ≤ at) whole (rw (← size) c.if-from-whole.false) in
    said-numbers K (record { answer = Ok (record { counts = record { acknowledged = at; stored = 0; discarded = 0 }; last = None }); set = after; ram = ram }) _ (said_of K (c.say-else-from-whole.ensures.value, c.say-else-from-whole.ensures.answer_after) c.without_data.ensures)
    (◌∙◌ {A = SetAfter}
    (λ i. record { answer = Ok (record { counts = record { acknowledged = at; stored = 0; discarded = 0 }; last = None }); set = sym (registers-back after c.open-opening.ensures.1 (λ k. (c.type_inv.set k).fits)) i; ram = ram })
    (ap heard_set (none-heard K a.bus.chips a.group a.set.now ram t opening opens all)
    ∙ rest-heard K a.bus.chips a.group a.set.now ram t opening opens c.in-Ok.is (none-looked K a.bus.chips a.group a.set.now ram t opening opens all)))

pub say-requires : goal.say-requires
say-requires c = c.requires.six

pub say-requires-else-from-whole : goal.say-requires-else-from-whole
say-requires-else-from-whole c = c.requires.six
