-- `hexrecord::data_fault` meets its contract: no data, or the address, what was given before, and the values.
-- Assumes nothing.
use mathlib.Core.Path.{sym, ap, ◌∙◌}
use mathlib.Core.Bool.{Bool}
use Prim.Native.Nat.{ℕ}
use native.Mathlib.Nat.{add-sub_cancel_left}
use native.Mathlib.Omega.{arith}
use lib.ListN.{get_or, take, drop}
use Rattle.sheet.specs.Results.{Check}
use Rattle.sheet.specs.declared.Refusal.TheVariants.{RamByte}
use Rattle.sheet.specs.Checks.{unless, passed, over_in}
use Rattle.hexrecord.proofs.Faults.{no_data, outside, twice, by_value}
use Rattle.hexrecord.proofs.data_fault.Goals as goal

pub returns-then-count-eq0 : goal.returns-then-count-eq0
returns-then-count-eq0 c = let a = c.args in sym (no_data a.given.now a.at a.bytes.now c.if-count-eq0.true)

pub returns-then-given-end : goal.returns-then-given-end
returns-then-given-end c = let a = c.args in
    sym (outside a.given.now a.at a.bytes.now (omega (arith, c.if-count-eq0.false)) (omega (arith, c.if-given-end.true, c.address_of-start.ensures.0)))

pub returns-then-none_given : goal.returns-then-none_given
returns-then-none_given c = let a = c.args in
    let bytes = a.bytes.now in
    c.unless.ensures ∙ ap (λ (b : Bool). unless b (RamByte a.at)) c.passes-small.ensures
    ∙ ap (λ (k : Check). unless (passed k) (RamByte a.at)) (c.first_over.ensures ∙ ap (λ (k : ℕ). over_in 0 (take k (drop 4 bytes))) (add-sub_cancel_left 4 (get_or bytes 0 0)))
    ∙ sym (by_value a.given.now a.at bytes (omega (arith, c.if-count-eq0.false)) c.address_of-start.result c.address_of-start.ensures.0 (omega (arith, c.if-given-end.false)) (sym c.none_given.ensures ∙ c.if-none_given.true))

pub returns-else-none_given : goal.returns-else-none_given
returns-else-none_given c = let a = c.args in
    sym (twice a.given.now a.at a.bytes.now (omega (arith, c.if-count-eq0.false)) c.address_of-start.result c.address_of-start.ensures.0 (omega (arith, c.if-given-end.false)) (sym c.none_given.ensures ∙ c.if-none_given.false))
