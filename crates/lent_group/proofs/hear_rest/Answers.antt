-- `lent_group::hear_rest` meets its contract: a run that fits, or whatever else.
-- Assumes nothing.
use mathlib.Core.Path.{◌≡◌, sym, ap, subst, ◌∙◌}
use mathlib.Core.Bool.{Bool, true}
use mathlib.Core.List.{List}
use Prim.Native.Nat.{ℕ, ◌*◌, ◌<◌}
use native.Mathlib.Omega.{arith}
use lib.ListN.{length, length-take}
use Rattle.sheet.specs.declared.Registers.{Registers}
use Rattle.std.specs.Prelude.{Ok}
use Rattle.sheet.specs.declared.Chips.{Chips}
use Rattle.sheet.specs.Parts.{Part, part_of}
use Rattle.sheet.specs.Registers.{in_range}
use Rattle.sheet.specs.Protocol.{chips_in, sent, whole_of}
use Rattle.packed_sheet.specs.Packed.{columns_in}
use Rattle.laws.proofs.Wholes.{whole-taken}
use Rattle.long.specs.Heard.{Ready, heard_in_ram}
use Rattle.wire.specs.Bytes.{registers_in}
use Rattle.lent_group.specs.Sets.{Rest, SetAfter, heard_set, numbered_set, is_fitting}
use Rattle.lent_group.proofs.Fits.{Told, told}
use Rattle.lent_group.proofs.Sets.{said-numbers}
use Rattle.lent_group.proofs.hear_rest.Goals as goal

-- what the test tells of the run
tells : (K : Part) (n : Chips) (g size : ℕ) (r own : Registers) (bytes : List ℕ) (bits from : ℕ) (fits : Bool) → r ≡ own → size ≡ K.columns * chips_in g n
    → fits ≡ is_fitting K size r bytes bits from → fits ≡ true → Told K (K.columns * chips_in g n) own bytes bits from
tells K n g size r own bytes bits from fits e all is h = rw (← all, ← e) (told K size r bytes bits from (sym is ∙ h))

pub is_fitting-requires : goal.is_fitting-requires
is_fitting-requires c = let a = c.args in
    let short : length (whole_of (sent a.bytes.now a.bits)) < 4097 = subst (λ (l : List ℕ). length l < 4097) (whole-taken a.bytes.now a.bits) (simp length-take (omega (arith, c.requires.ready.short))) in
    (subst (λ (o : Registers). in_range (part_of a.bus.part) o ≡ true) (sym c.registers_of-opened.ensures) c.requires.ready.range, c.requires.ready.short, omega (arith, short, c.requires.ready.place))

pub hear_run-requires : goal.hear_run-requires
hear_run-requires c = let a = c.args in
    let h = tells (part_of a.bus.part) a.bus.chips a.group _ _ (registers_in a.set.now) a.bytes.now a.bits a.from _ c.registers_of-opened.ensures c.columns_of-size.ensures c.is_fitting.ensures c.if-is_fitting.true in
    record {
      rest = subst (λ (bits : ℕ). Rest (part_of a.bus.part) a.bus.chips a.set.now (columns_in a.bus.packed a.ram.now) (sent a.bytes.now bits) a.from a.answer.now) h.eight c.requires;
      more = h.more;
      run = h.run;
      fit = h.fit;
    }

pub hear_in-heard-requires : goal.hear_in-heard-requires
hear_in-heard-requires c = let a = c.args in
    subst (λ (o : Registers). Ready (part_of a.bus.part) a.bus.chips o (columns_in a.bus.packed a.ram.now) (sent a.bytes.now a.bits) a.from) (sym c.registers_of-opened.ensures) c.requires.ready

pub returns-then-is_fitting : goal.returns-then-is_fitting
returns-then-is_fitting c = let a = c.args in
    let K = part_of a.bus.part in
    c.hear_run.ensures
    ∙ ap (λ (bits : ℕ). numbered_set K (heard_set (heard_in_ram K a.bus.chips a.group (registers_in a.set.now) (columns_in a.bus.packed a.ram.now) (sent a.bytes.now bits) a.from))) (sym (tells (part_of a.bus.part) a.bus.chips a.group _ _ (registers_in a.set.now) a.bytes.now a.bits a.from _ c.registers_of-opened.ensures c.columns_of-size.ensures c.is_fitting.ensures c.if-is_fitting.true).eight)

pub returns-else-is_fitting : goal.returns-else-is_fitting
returns-else-is_fitting c = let a = c.args in
    let K = part_of a.bus.part in
    let after = columns_in a.bus.packed c.hear_in-heard.new.ram in
    said-numbers K (record { answer = Ok (record { counts = c.hear_in-heard.result.counts; last = c.hear_in-heard.result.last }); set = c.put_registers.new.out; ram = after }) _ (c.say.ensures.value, c.say.ensures.answer_after)
    (◌∙◌ {A = SetAfter} (λ i. record { answer = Ok (record { counts = c.hear_in-heard.result.counts; last = c.hear_in-heard.result.last }); set = c.put_registers.ensures i; ram = after })
    (ap heard_set (c.hear_in-heard.ensures ∙ ap (λ (o : Registers). heard_in_ram K a.bus.chips a.group o (columns_in a.bus.packed a.ram.now) (sent a.bytes.now a.bits) a.from) c.registers_of-opened.ensures)))

pub put_registers-requires : goal.put_registers-requires
put_registers-requires c = c.requires.twelve

pub say-requires : goal.say-requires
say-requires c = c.requires.six
