-- `long::deliver` meets its contract: the group that hears, with its registers replaced.
-- Assumes nothing.
use mathlib.Core.Path.{sym, ap, subst, ◌∙◌}
use native.Mathlib.Omega.{arith}
use Rattle.sheet.specs.declared.Registers.{Registers}
use Rattle.std.specs.Prelude.{Ok}
use Rattle.sheet.specs.Parts.{part_of}
use Rattle.sheet.specs.Protocol.{sent, cut_data}
use Rattle.sheet.specs.Long.{replaced}
use Rattle.packed_sheet.specs.Packed.{columns_in}
use Rattle.laws.proofs.Ranges.{InRange, in-range}
use Rattle.laws.proofs.Fits.{fits-of}
use Rattle.laws.proofs.Lens.{range-of-group}
use Rattle.long.specs.Heard.{heard_in_ram}
use Rattle.long.proofs.deliver.Goals as goal

pub hear_in-heard-requires : goal.hear_in-heard-requires
hear_in-heard-requires c = let a = c.args in
    let K = part_of a.bus.part in
    let ram = columns_in a.bus.packed a.ram.now in
    record {
      both = a.registers;
      state = c.requires.0;
      range = in-range K _ (subst (InRange K) (sym c.registers_of-before.ensures) (range-of-group K a.bus.chips a.registers ram (fits-of K a.bus.chips a.registers ram c.requires.0) a.group));
      short = c.requires.1;
      place = omega (arith, c.requires.2);
    }

pub returns : goal.returns
unfolding cut_data
returns c = let a = c.args in
    let told = c.hear_in-heard.ensures ∙ ap (λ (r : Registers). heard_in_ram (part_of a.bus.part) a.bus.chips a.group r (columns_in a.bus.packed a.ram.now) (sent a.bytes.now a.bits) 1) c.registers_of-before.ensures in
    let after = c.replaced.ensures ∙ ap (λ (r : Registers). replaced a.group r a.registers) (λ j. (told j).registers) in
    λ j. record { result = record { answer = Ok (record { counts = (told j).counts; last = (told j).last }); registers = after j }; ram = (told j).ram }
