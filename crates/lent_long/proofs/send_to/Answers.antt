-- `lent_long::send_to` meets its contract: what the group's own twelve bytes are after the transfer, the registers of both groups are.
-- Assumes nothing.
use mathlib.Core.Path.{◌≡◌, sym, ap, subst, ◌∙◌}
use mathlib.Core.Bool.{true}
use mathlib.Core.List.{List, ◌++◌}
use Prim.Native.Nat.{ℕ, ◌*◌}
use native.Mathlib.Nat.{add-sub_cancel_left}
use native.Mathlib.Omega.{arith}
use lib.ListN.{take, drop, length-drop}
use lib.Seq.{length-take-le}
use Rattle.sheet.specs.declared.Chips.{Chips}
use Rattle.sheet.specs.declared.Registers.{Registers}
use Rattle.sheet.specs.Parts.{Part, part_of}
use Rattle.sheet.specs.Registers.{in_range}
use Rattle.sheet.specs.Protocol.{Sent, sent}
use Rattle.packed_sheet.specs.Packed.{columns_in}
use Rattle.laws.proofs.Ranges.{in-range}
use Rattle.laws.proofs.Fits.{fits-of}
use Rattle.laws.proofs.Lens.{range-of-group}
use Rattle.wire.specs.Bytes.{both_of}
use Rattle.wire.proofs.Given.{own-bytes}
use Rattle.lent_group.specs.Sets.{Asked, set_to, numbered_set}
use Rattle.lent_long.specs.LongCalls.{Hearable, Called}
use Rattle.lent_long.proofs.Sending.{own-numbered}
use borrow.Author.Rules.{rules}
use Rattle.lent_long.proofs.send_to.Goals as goal

-- the group's own bytes are asked what the bus has passed
asked : (K : Part) (n : Chips) (g : ℕ) (l ram : List ℕ) (t : Sent) (answer : List ℕ) → Hearable K n g l ram t answer → Asked K n (take 12 (drop (12 * g) l)) ram t answer
asked K n g l ram t answer h =
    record {
      both = both_of l;
      state = h.bus.state;
      twelve = length-take-le 12 (drop (12 * g) l) (omega (arith, length-drop (12 * g) l, h.bus.size, h.small));
      range = subst (λ (r : Registers). in_range K r ≡ true) (sym (own-bytes g h.small l h.bus.size)) (in-range K _ (range-of-group K n (both_of l) ram (fits-of K n (both_of l) ram h.bus.state) g));
      short = h.short;
      some = h.some;
      six = h.six;
    }

pub send-requires : goal.send-requires
send-requires c = let a = c.args in
    subst (λ (n : ℕ). Asked (part_of a.bus.part) a.bus.chips (take n (drop (12 * a.group) a.registers.now)) (columns_in a.bus.packed a.ram.now) (sent a.bytes.now a.bits) a.answer.now) (sym (add-sub_cancel_left (12 * a.group) 12)) (asked (part_of a.bus.part) a.bus.chips a.group a.registers.now (columns_in a.bus.packed a.ram.now) (sent a.bytes.now a.bits) a.answer.now c.requires)

pub returns : goal.returns
returns c = let a = c.args in
    let K = part_of a.bus.part in
    let l = a.registers.now in
    let ram = columns_in a.bus.packed a.ram.now in
    let t = sent a.bytes.now a.bits in
    let twelve = add-sub_cancel_left (12 * a.group) 12 in
    ◌∙◌ {A = Called} (λ i. record { number = c.send.result; registers = take (12 * a.group) l ++ (c.send.new.set ++ drop (twelve i) (drop (12 * a.group) l)); buffer = columns_in a.bus.packed c.send.new.ram; answer = c.send.new.answer })
    (own-numbered K a.bus.chips a.group c.requires.small l ram t c.requires.bus.size (λ i. search rules) _
    (c.send.ensures ∙ ap (λ (n : ℕ). numbered_set K (set_to K a.bus.chips a.group (take n (drop (12 * a.group) l)) ram t)) twelve))

pub overflow_mul-at : goal.overflow_mul-at
overflow_mul-at c = omega (arith, c.requires.small)

pub slice_bounds-set-end : goal.slice_bounds-set-end
slice_bounds-set-end c = omega (arith, c.requires.small, c.requires.bus.size)
