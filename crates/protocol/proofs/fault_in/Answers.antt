-- `protocol::fault_in` meets its contract: the search from here on gives the whole search's answer.
-- Assumes nothing.
use mathlib.Core.Path.{◌≡◌, sym, ap, ap₂, ◌∙◌}
use Prim.Native.Nat.{ℕ, ◌+◌, ◌<◌}
use native.Mathlib.Omega.{arith}
use lib.ListN.{length, get_or, drop}
use Rattle.lemmas.proofs.Tests.{both_true}
use Rattle.sheet.specs.declared.Marks.{Marks}
use Rattle.sheet.specs.declared.Expect.{Expect}
use mathlib.Core.List.{List}
use mathlib.Core.Bool.{Bool}
use Rattle.std.specs.Prelude.{Ok}
use Rattle.sheet.specs.Results.{Check}
use Rattle.sheet.specs.Parts.{Part, part_of}
use Rattle.sheet.specs.Protocol.{next}
use Rattle.sheet.specs.Checks.{fault, marks_after, last_fault, fault_in}
use Rattle.protocol.proofs.Faults.{found, go_on, in_run, all-looked}
use Rattle.protocol.proofs.Commands.{in_commands}
use Rattle.protocol.proofs.fault_in.Goals as goal

pub returns-in-Err : goal.returns-in-Err
returns-in-Err c = let a = c.args in
    sym (found (part_of a.part) a.cut c.loop-i.marks c.loop-i.expect a.bytes.now c.loop-i.i c.loop-i-test.true _ (sym c.fault.ensures ∙ c.in-Err.is)) ∙ c.loop-i.invariant.1

-- from a byte that passes to the next
goes_on : (part : Part) (cut : Bool) (marks : Marks) (expect : Expect) (bytes : List ℕ) (i : ℕ) {after : Marks} {then : Expect} {whole : Check}
    → fault_in part cut marks expect i (drop i bytes) ≡ whole → i < length bytes → fault part marks expect i (get_or bytes i 0) ≡ Ok tt
    → after ≡ marks_after part marks expect (get_or bytes i 0) → then ≡ next expect (get_or bytes i 0)
    → fault_in part cut after then (i + 1) (drop (i + 1) bytes) ≡ whole
goes_on part cut marks expect bytes i told h passes m e =
    ap₂ (λ (u : Marks) (x : Expect). fault_in part cut u x (i + 1) (drop (i + 1) bytes)) m e
    ∙ sym (go_on part cut marks expect bytes i h passes)
    ∙ told

pub returns-then-only-all_known : goal.returns-then-only-all_known
returns-then-only-all_known c = let a = c.args in
    let t = both_true c.only.result c.all_known.result c.if-only-all_known.true in
    sym (in_run (part_of a.part) a.cut c.marks_after-marks.result c.follow-expect.result (c.loop-i.i + 1) (drop (c.loop-i.i + 1) a.bytes.now) (sym c.only.ensures ∙ t.0) (sym c.all_known.ensures ∙ t.1))
    ∙ goes_on (part_of a.part) a.cut c.loop-i.marks c.loop-i.expect a.bytes.now c.loop-i.i c.loop-i.invariant.1 c.loop-i-test.true (sym c.fault.ensures ∙ c.in_default.is) c.marks_after-marks.ensures c.follow-expect.ensures

-- all that is left are commands
pub returns-then-only : goal.returns-then-only
returns-then-only c = let a = c.args in
    c.undefined_from.ensures
    ∙ sym (in_commands (part_of a.part) a.cut c.marks_after-marks.result c.follow-expect.result (c.loop-i.i + 1) (drop (c.loop-i.i + 1) a.bytes.now) (sym c.only-in-loop-i.ensures ∙ c.if-only.true))
    ∙ goes_on (part_of a.part) a.cut c.loop-i.marks c.loop-i.expect a.bytes.now c.loop-i.i c.loop-i.invariant.1 c.loop-i-test.true (sym c.fault.ensures ∙ c.in_default.is) c.marks_after-marks.ensures c.follow-expect.ensures

pub loop-i-preserved : goal.loop-i-preserved
loop-i-preserved c = let a = c.args in (
  omega arith,
  goes_on (part_of a.part) a.cut c.loop-i.marks c.loop-i.expect a.bytes.now c.loop-i.i c.loop-i.invariant.1 c.loop-i-test.true (sym c.fault.ensures ∙ c.in_default.is) c.marks_after-marks.ensures c.follow-expect.ensures,
)

pub returns : goal.returns
returns c = let a = c.args in
    let end : c.max.result ≡ c.loop-i.i = omega arith in
    c.last_fault.ensures ∙ ap (λ (i : ℕ). last_fault a.cut c.loop-i.marks c.loop-i.expect i) end
    ∙ sym (all-looked (part_of a.part) a.cut c.loop-i.marks c.loop-i.expect a.bytes.now c.loop-i.i c.loop-i-test.false) ∙ c.loop-i.invariant.1
