-- `hearing::hear_run` meets its contract: the control byte, and then one turn of data.
-- Assumes nothing.
use mathlib.Core.Path.{refl, sym, ap₂, subst, ◌∙◌}
use mathlib.Core.List.{[]}
use Prim.Native.Nat.{ℕ, ◌+◌, ◌-◌}
use native.Mathlib.Omega.{arith}
use lib.ListN.{length, take, drop, length-take, length-drop}
use Rattle.sheet.specs.declared.Kind.{Kind}
use Rattle.sheet.specs.declared.Expect.TheVariants.{All}
use Rattle.sheet.specs.Parts.{part_of}
use Rattle.sheet.specs.Registers.{bank_row}
use Rattle.sheet.specs.Runs.{put_run}
use Rattle.packed_sheet.specs.Packed.{columns_in}
use Rattle.laws.proofs.Ranges.{range-of}
use Rattle.laws.proofs.Kept.{part-keeps}
use Rattle.laws.proofs.Named.{group-columns}
use Rattle.laws.proofs.Nibbles.{nibbles-of}
use Rattle.laws.proofs.Packed.{columns-held, bytes-few}
use Rattle.runs.proofs.Asked.{run-asked}
use Rattle.opening.specs.Opened.{opened_at}
use Rattle.listener.specs.declared.Listener.{Listener}
use Rattle.listener.specs.Listeners.{listener_of, ran, Runs}
use Rattle.hearing.proofs.Hearing.{Hearing, at-run, at-end, at-end-next, data_turn}
use Rattle.hearing.proofs.hear_run.Goals.{After-run}
use Rattle.hearing.proofs.hear_run.Goals as goal

pub columns_held-size-requires : goal.columns_held-size-requires
columns_held-size-requires c = omega (arith, bytes-few c.args.packed c.args.ram.now, c.requires.0.few)

pub put_run-requires : goal.put_run-requires
put_run-requires c = let a = c.args in
    run-asked a.part a.opened _ (columns_in a.packed a.ram.now) _ _
    (record { range = c.requires.0.range; short = simp (length-take, length-drop) (omega (arith, c.requires.0.short)); few = omega (arith, c.requires.0.few); nibbles = c.requires.0.nibbles })
    c.position-v.ensures c.backplanes-m.ensures

pub run-requires : goal.run-requires
run-requires c = subst (λ (l : Listener). Runs (part_of c.args.part) l (length c.args.bytes.now - (c.args.from + 1))) (sym c.begun-listener.ensures)
    (record { range = c.requires.0.range; short = omega (arith, c.requires.0.short); acknowledged = omega (arith, c.requires.0.short, c.requires.1); stored = omega arith; discarded = omega arith })

-- all that is left, in one turn
turned : (c : After-run) → let a = c.args in
    Hearing (part_of a.part) (columns_in a.packed a.ram.now) a.bytes.now a.opened a.from (columns_in a.packed c.put_run.new.ram) c.run.result (length a.bytes.now)
turned c = let a = c.args in
    let K = part_of a.part in
    let ram = columns_in a.packed a.ram.now in
    let l = listener_of (All Kind.Data) (opened_at (a.from + 1) a.opened []) in
    let n = length a.bytes.now - (a.from + 1) in
    data_turn K (part-keeps a.part) ram a.bytes.now a.opened a.from ram l (a.from + 1) c.requires.1
    (at-run K ram a.bytes.now a.opened a.from (range-of K a.opened c.requires.0.range) (nibbles-of 0 ram c.requires.0.nibbles) (omega (arith, c.requires.1)) c.requires.2)
    (rw (group-columns a.part) c.requires.0.few) (length a.bytes.now) refl c.requires.1 _ c.run.result
    (c.put_run.ensures ∙ ap₂ (λ (v m : ℕ). put_run m (bank_row m a.opened.i) v (take n (drop (a.from + 1) a.bytes.now)) ram) c.position-v.ensures c.backplanes-m.ensures)
    (c.run.ensures ∙ ap₂ (λ (k : Listener) (size : ℕ). ran K k n size) c.begun-listener.ensures (c.columns_held-size.ensures ∙ sym (columns-held a.packed a.ram.now)))

pub returns : goal.returns
returns c = let a = c.args in
    let t = turned c in record {
      ram_after = sym (at-end (part_of a.part) c.run.result.expect a.bytes.now (length a.bytes.now) (omega arith) _) ∙ t.rest;
      expect_value = sym (at-end-next c.run.result.expect a.bytes.now (length a.bytes.now) (omega arith)) ∙ t.then;
    }
