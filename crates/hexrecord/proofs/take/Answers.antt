-- `hexrecord::take` meets its contract: refused, or stored.
-- Assumes nothing.
use Rattle.std.proofs.lemmas.Result.{err_from_is_err_and}
use mathlib.Core.Path.{◌≡◌, sym, ap, ◌∙◌}
use mathlib.Core.List.{List}
use Prim.Native.Nat.{ℕ}
use borrow.Author.Tests.{eq-eqb, ne_eqb}
use Rattle.std.specs.Prelude.{Ok}
use Rattle.sheet.specs.Results.{Check}
use Rattle.image_sheet.specs.Images.{kind_of, fault_of}
use Rattle.hexrecord.specs.Lines.{step_of, given_after}
use Rattle.hexrecord.proofs.Faults.{passed-inside}
use Rattle.hexrecord.proofs.take.Goals as goal

-- a record by its fault: the step and what is given
by-fault : (k l : Check) (kind next : ℕ) (given bytes : List ℕ) → l ≡ k → (step_of k kind next ≡ step_of l kind next) × (given_after k given bytes ≡ given_after l given bytes)
by-fault k l kind next given bytes e = (ap (λ (x : Check). step_of x kind next) (sym e), ap (λ (x : Check). given_after x given bytes) (sym e))

pub returns-in_err-fault : goal.returns-in_err-fault
returns-in_err-fault c = let a = c.args in
    let b = by-fault _ _ (kind_of a.bytes.now) a.next a.given.now a.bytes.now (sym c.fault.ensures ∙ c.in_err-fault.was) in
    let e = err_from_is_err_and c.from_residual.result c.from_residual.ensures.1 in rw (e.1, e.2) (record { value = b.0; given_after = b.1 })

pub store-requires : goal.store-requires
store-requires c = (c.requires, passed-inside c.args.given.now c.args.at c.args.bytes.now (sym c.fault.ensures ∙ c.in_ok-fault.was))

-- a record that was stored: the last, or not
pub returns-then-bytes-eq1 : goal.returns-then-bytes-eq1
returns-then-bytes-eq1 c = let a = c.args in
    let b = by-fault (Ok tt) (fault_of a.given.now a.at a.bytes.now) (kind_of a.bytes.now) a.next a.given.now a.bytes.now (sym c.fault.ensures ∙ c.in_ok-fault.was) in
    record { value = rw (eq-eqb _ _ c.if-bytes-eq1.true) at b.0; given_after = c.store.ensures ∙ b.1 }

pub returns-else-bytes-eq1 : goal.returns-else-bytes-eq1
returns-else-bytes-eq1 c = let a = c.args in
    let b = by-fault (Ok tt) (fault_of a.given.now a.at a.bytes.now) (kind_of a.bytes.now) a.next a.given.now a.bytes.now (sym c.fault.ensures ∙ c.in_ok-fault.was) in
    record { value = rw (ne_eqb _ _ c.if-bytes-eq1.false) at b.0; given_after = c.store.ensures ∙ b.1 }
