-- `lent_opening::open` meets its contract: the walk from here on, over the bytes as they are, gives the whole walk's answer.
-- Assumes nothing.
use mathlib.Core.Path.{refl, sym, ap, subst, ◌∙◌}
use Prim.Native.Nat.{◌+◌, ◌<◌}
use native.Mathlib.Omega.{arith}
use lib.ListN.{length, get_or, drop}
use Rattle.sheet.specs.declared.Registers.{Registers}
use Rattle.sheet.specs.declared.Command.{Command}
use Rattle.sheet.specs.Parts.{part_of}
use Rattle.sheet.specs.Commands.{defined, obeyed}
use Rattle.command.specs.Nibbles.{nibble_of}
use Rattle.command.proofs.Cases.{pointer_nibble}
use Rattle.opening.specs.Opened.{opened}
use Rattle.opening.proofs.Openings.{goes_on, undefined-at, other_at, ends_at}
use Rattle.wire.specs.Bytes.{registers_in}
use Rattle.lent_opening.proofs.open.Goals as goal

pub loop-at-init : goal.loop-at-init
loop-at-init c = (refl, omega (arith, c.requires.1), c.requires.0)

pub obey-requires : goal.obey-requires
obey-requires c = let a = c.args in
    (c.loop-at.invariant.2, subst (λ (k : Command). nibble_of k < 16) (sym c.decode-command.ensures) (pointer_nibble a.part (get_or a.bytes.now (c.loop-at.at + 1) 0)))

pub loop-at-preserved : goal.loop-at-preserved
loop-at-preserved c = let a = c.args in
    let K = part_of a.part in
    let h : c.loop-at.at + 1 < length a.bytes.now = omega (arith, c.loop-at-test.true) in (
      ap (λ (r : Registers). opened K r (c.loop-at.at + 2) (drop (c.loop-at.at + 2) a.bytes.now)) (c.obey.ensures.0 ∙ ap (obeyed (registers_in c.loop-at.set)) c.decode-command.ensures)
          ∙ sym (goes_on K (registers_in c.loop-at.set) a.bytes.now c.loop-at.at h c.if-bytes-at.true (ap defined (sym c.decode-command.ensures) ∙ sym c.is_defined.ensures ∙ c.if-is_defined.true))
          ∙ c.loop-at.invariant.0,
      omega arith,
      c.obey.ensures.1,
    )

pub returns-else-is_defined : goal.returns-else-is_defined
returns-else-is_defined c = let a = c.args in
    let h : c.loop-at.at + 1 < length a.bytes.now = omega (arith, c.loop-at-test.true) in (
      sym (undefined-at (part_of a.part) (registers_in c.loop-at.set) a.bytes.now c.loop-at.at h c.if-bytes-at.true (ap defined (sym c.decode-command.ensures) ∙ sym c.is_defined.ensures ∙ c.if-is_defined.false))
          ∙ c.loop-at.invariant.0,
      c.loop-at.invariant.2,
    )

pub returns-else-bytes-at : goal.returns-else-bytes-at
returns-else-bytes-at c = let a = c.args in
    let h : c.loop-at.at + 1 < length a.bytes.now = omega (arith, c.loop-at-test.true) in
    (sym (other_at (part_of a.part) (registers_in c.loop-at.set) a.bytes.now c.loop-at.at h c.if-bytes-at.false) ∙ c.loop-at.invariant.0, c.loop-at.invariant.2)

pub returns : goal.returns
returns c = let a = c.args in
    (sym (ends_at (part_of a.part) (registers_in c.loop-at.set) a.bytes.now c.loop-at.at c.loop-at-test.false) ∙ c.loop-at.invariant.0, c.loop-at.invariant.2)

pub overflow_sub-bytes : goal.overflow_sub-bytes
overflow_sub-bytes c = c.loop-at.invariant.1

pub bounds-bytes-at : goal.bounds-bytes-at
bounds-bytes-at c = omega (arith, c.loop-at.invariant.1)
