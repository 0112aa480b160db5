-- `lent_group::hear_run` meets its contract: the run goes into the group's part of the RAM, and the place moves on.
-- Assumes nothing.
use mathlib.Core.Path.{◌≡◌, sym, ap, ap₂, subst, ◌∙◌}
use mathlib.Core.Bool.{true}
use mathlib.Core.List.{List}
use Prim.Native.Nat.{ℕ, ◌+◌, ◌-◌, ◌*◌, ◌/◌, ◌≤◌, ◌<◌}
use native.Mathlib.Nat.{div-le_self, mul-le-mul_right}
use native.Mathlib.Omega.{arith}
use lib.ListN.{length, take, drop, length-take, length-drop}
use Rattle.lemmas.proofs.Lists.{part-rest}
use Rattle.sheet.specs.declared.Registers.{Registers}
use Rattle.sheet.specs.declared.Counts.{Counts}
use Rattle.std.specs.Prelude.{Ok, Some}
use Rattle.sheet.specs.Parts.{Part, part_of}
use Rattle.sheet.specs.Registers.{in_range, backplanes, bank_row}
use Rattle.sheet.specs.Places.{position, at_position}
use Rattle.sheet.specs.Data.{width_of}
use Rattle.sheet.specs.Protocol.{chips_in}
use Rattle.sheet.specs.Checks.{over_in}
use Rattle.sheet.specs.Runs.{put_run}
use Rattle.sheet.specs.Long.{columns_of}
use Rattle.packed_sheet.specs.Packed.{columns_in}
use Rattle.laws.proofs.Named.{columns-even, ram-small, position-small, group-columns}
use Rattle.laws.proofs.Ranges.{range-of, rows_fit, planes_pos}
use Rattle.laws.proofs.Nibbles.{check-nibbles}
use Rattle.laws.proofs.Lens.{few-chips-in, group-kept}
use Rattle.laws.proofs.Packed.{bytes-few}
use Rattle.long.proofs.Parts.{cut, put_back}
use Rattle.wire.specs.Bytes.{registers_in, bytes_of}
use Rattle.lent_group.specs.Sets.{SetAfter, heard_set, run_end}
use Rattle.lent_group.proofs.Fits.{fitting_in_ram}
use Rattle.lent_group.proofs.Sets.{said-numbers}
use Rattle.lent_group.proofs.hear_run.Goals as goal

-- the place after the run
after_is : (K : Part) (r own : Registers) (v m w : ℕ) (bytes : List ℕ) (from : ℕ) → r ≡ own → v ≡ position K r → m ≡ backplanes r → w ≡ width_of m → v + w * (length bytes - (from + 1)) ≡ run_end K own bytes from
after_is K r own v m w bytes from e ev em ew = ap₂ (λ (v m : ℕ). v + m * (length bytes - (from + 1))) (ev ∙ ap (position K) e) (ew ∙ ap width_of (em ∙ ap backplanes e))

-- a byte has at most eight columns
most : (w m n : ℕ) → w ≡ width_of m → w * n ≤ 8 * n
most w m n e = rw e (mul-le-mul_right n (omega (arith, div-le_self 7 m)))

pub position-v-requires : goal.position-v-requires
position-v-requires c = subst (λ (r : Registers). in_range (part_of c.args.bus.part) r ≡ true) (sym c.registers_of-registers.ensures) c.requires.rest.ready.range

pub width-requires : goal.width-requires
width-requires c = subst (λ (m : ℕ). 0 < m) (sym c.backplanes-m.ensures) (planes_pos c.registers_of-registers.result)

pub overflow_mul-after : goal.overflow_mul-after
overflow_mul-after c = omega (arith, most c.width.result c.backplanes-m.result (length c.args.bytes.now - (c.args.from + 1)) c.width.ensures, c.requires.rest.ready.short)

pub overflow_add-after : goal.overflow_add-after
overflow_add-after c = omega (arith, most c.width.result c.backplanes-m.result (length c.args.bytes.now - (c.args.from + 1)) c.width.ensures, c.position-v.ensures, ap (position (part_of c.args.bus.part)) c.registers_of-registers.ensures, position-small c.args.bus.part (registers_in c.args.set.now) (range-of (part_of c.args.bus.part) (registers_in c.args.set.now) c.requires.rest.ready.range), c.requires.rest.ready.short)

pub whole_bytes-requires : goal.whole_bytes-requires
whole_bytes-requires c = let a = c.args in
    let columns = columns_in a.bus.packed a.ram.now in
    let own = registers_in a.set.now in
    let range = range-of (part_of a.bus.part) own c.requires.rest.ready.range in
    let part = cut a.bus.part a.bus.chips c.requires.rest.ready.both a.group a.bus.packed a.ram.now _ _ c.requires.rest.ready.state c.start_in-start.ensures c.end_in-end.ensures in
    let kept = group-kept (part_of a.bus.part) a.bus.chips c.requires.rest.ready.both columns part.fits a.group in
    let few = ram-small a.bus.part (chips_in a.group a.bus.chips) (few-chips-in (part_of a.bus.part) a.bus.chips c.requires.rest.ready.both columns part.fits a.group) in
    let mode = c.backplanes-m.ensures ∙ ap backplanes c.registers_of-registers.ensures in
    let place = c.position-v.ensures ∙ ap (position (part_of a.bus.part)) c.registers_of-registers.ensures in
    let n = length a.bytes.now - (a.from + 1) in
    let fits = rows_fit own own.i range.m-in range.i-in in
    let size = ap length part.part ∙ kept.columns in
    let run : length (take n (drop (a.from + 1) a.bytes.now)) ≡ n = length-take n (drop (a.from + 1) a.bytes.now) ∙ omega (arith, length-drop (a.from + 1) a.bytes.now) in (
      record {
        some = rw mode fits.0;
        four = rw mode (omega (arith, fits.1));
        two = rw c.registers_of-registers.ensures range.i-in;
        fit = rw (mode, place, run, size) (omega (arith, c.requires.fit));
        nibbles = ap (over_in 0) part.part ∙ check-nibbles 0 (columns_of (part_of a.bus.part) a.bus.chips a.group columns) kept.nibbles;
      },
      omega (arith, bytes-few a.bus.packed (take (c.end_in-end.result - c.start_in-start.result) (drop c.start_in-start.result a.ram.now)), size, few),
    )

-- there is a byte, and it has a column
pub overflow_sub-after : goal.overflow_sub-after
overflow_sub-after c = let n = length c.args.bytes.now - (c.args.from + 1) in
    omega (arith, mul-le-mul_right {m = 1} {n = c.width.result} n (omega (arith, c.width.ensures)), c.requires.more)

pub returns : goal.returns
returns c = let a = c.args in
    let columns = columns_in a.bus.packed a.ram.now in
    let own = registers_in a.set.now in
    let range = range-of (part_of a.bus.part) own c.requires.rest.ready.range in
    let part = cut a.bus.part a.bus.chips c.requires.rest.ready.both a.group a.bus.packed a.ram.now _ _ c.requires.rest.ready.state c.start_in-start.ensures c.end_in-end.ensures in
    let kept = group-kept (part_of a.bus.part) a.bus.chips c.requires.rest.ready.both columns part.fits a.group in
    let few = ram-small a.bus.part (chips_in a.group a.bus.chips) (few-chips-in (part_of a.bus.part) a.bus.chips c.requires.rest.ready.both columns part.fits a.group) in
    let mode = c.backplanes-m.ensures ∙ ap backplanes c.registers_of-registers.ensures in
    let place = c.position-v.ensures ∙ ap (position (part_of a.bus.part)) c.registers_of-registers.ensures in
    let K = part_of a.bus.part in
    let n = length a.bytes.now - (a.from + 1) in
    let counts : Counts = record { acknowledged = length a.bytes.now; stored = 8 * n; discarded = 0 } in
    let run = part-rest a.bytes.now (a.from + 1) in
    let written =
    c.whole_bytes.ensures
    ∙ (λ i. put_run (mode i) (bank_row (mode i) (c.registers_of-registers.ensures i).i) (place i) (run i) (part.part i)) in
    let back = put_back K _ (columns-even a.bus.part) a.bus.chips a.ram.now a.group c.start_in-start.result c.end_in-end.result a.bus.packed c.start_in-start.ensures c.end_in-end.ensures c.whole_bytes.new.ram _ written in
    let after = after_is K _ own _ _ _ a.bytes.now a.from c.registers_of-registers.ensures c.position-v.ensures c.backplanes-m.ensures c.width.ensures in
    let moved = c.put_place.ensures ∙ ap (λ (v : ℕ). bytes_of (at_position K own v)) after in
    let last = c.chip_of.ensures ∙ ap (λ (v : ℕ). (v - 1) / K.columns) after in
    said-numbers K (record { answer = Ok (record { counts = counts; last = (Some c.chip_of.result) }); set = c.put_place.new.set; ram = _ }) _ (c.say.ensures.value, c.say.ensures.answer_after)
    (◌∙◌ {A = SetAfter} (λ i. record { answer = Ok (record { counts = counts; last = (Some (last i)) }); set = moved i; ram = back i })
    (ap heard_set (fitting_in_ram K a.bus.chips a.group own columns a.bytes.now a.from range kept.nibbles (rw (kept.columns, group-columns a.bus.part) few) c.requires.more c.requires.run (rw kept.columns c.requires.fit))))

pub overflow_sub-n : goal.overflow_sub-n
overflow_sub-n c = omega (arith, c.requires.more)

pub slice_bounds-whole_bytes-count : goal.slice_bounds-whole_bytes-count
slice_bounds-whole_bytes-count c = let a = c.args in
    (cut a.bus.part a.bus.chips c.requires.rest.ready.both a.group a.bus.packed a.ram.now _ _ c.requires.rest.ready.state c.start_in-start.ensures c.end_in-end.ensures).begins

pub slice_bounds-whole_bytes-start : goal.slice_bounds-whole_bytes-start
slice_bounds-whole_bytes-start c = let a = c.args in
    (cut a.bus.part a.bus.chips c.requires.rest.ready.both a.group a.bus.packed a.ram.now _ _ c.requires.rest.ready.state c.start_in-start.ensures c.end_in-end.ensures).begins

pub slice_bounds-whole_bytes-end : goal.slice_bounds-whole_bytes-end
slice_bounds-whole_bytes-end c = let a = c.args in
    (cut a.bus.part a.bus.chips c.requires.rest.ready.both a.group a.bus.packed a.ram.now _ _ c.requires.rest.ready.state c.start_in-start.ensures c.end_in-end.ensures).ends

pub overflow_mul-counts : goal.overflow_mul-counts
overflow_mul-counts c = omega (arith, c.requires.rest.ready.short)

pub say-requires : goal.say-requires
say-requires c = c.requires.rest.six
