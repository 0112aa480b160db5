-- `outcome::carry_out` meets its contract: a record a turn; what is left gives the state at the end.
-- Assumes nothing.
use mathlib.Core.Path.{◌≡◌, refl, ap, subst, ◌∙◌}
use Prim.Native.Nat.{ℕ, ◌+◌, ◌-◌}
use native.Mathlib.Omega.{arith}
use lib.ListN.{take, drop}
use Rattle.sheet.specs.Parts.{pcf8532}
use Rattle.sheet.specs.Protocol.{whole}
use mathlib.Core.List.{List}
use Rattle.sheet.specs.declared.Both.{Both}
use Rattle.sheet.specs.declared.Chips.{Chips}
use Rattle.records.specs.declared.Record.{Record}
use Rattle.records.specs.declared.Record.TheVariants.{Body}
use Rattle.sheet.specs.Long.{State, After, transfer_part, transfer_call, state_after_all}
use Rattle.log_sheet.specs.Logs.{seen_bytes}
use Rattle.records.specs.Found.{record_in}
use Rattle.records.proofs.Found.{Next, Found, found, none_left}
use Rattle.outcome.proofs.Carrying.{next-record}
use Rattle.laws.proofs.Named.{zero-transfer}
use Rattle.outcome.proofs.carry_out.Goals as goal

-- a whole record that was read at the cursor
next : (log : List ℕ) (seen at : ℕ) (r : Record) (start size count : ℕ) → seen ≡ seen_bytes log → r ≡ record_in seen at (drop at log) → r ≡ Body start size count → Next (seen_bytes log) log at start size count
next log seen at r start size count e value is = subst (Found (seen_bytes log) log at) is (found (seen_bytes log) log at r (value ∙ ap (λ (k : ℕ). record_in k at (drop at log)) e))

-- the transfer that was carried out is the record's
told : (log : List ℕ) (n : Chips) (r : Both) (ram : List ℕ) (start size seen : ℕ) (t : After) → seen ≡ seen_bytes log
    → t ≡ transfer_part 0 n r ram (whole (take (start + size - (start + seen)) (drop (start + seen) log)))
    → t ≡ transfer_call pcf8532 n r ram (whole (take (start + size - (start + seen_bytes log)) (drop (start + seen_bytes log) log)))
told log n r ram start size seen t e is = is ∙ zero-transfer n r ram _ ∙ ap (λ (k : ℕ). transfer_call pcf8532 n r ram (whole (take (start + size - (start + k)) (drop (start + k) log)))) e

pub overflow_add-end : goal.overflow_add-end
overflow_add-end c = omega (arith, (next c.args.log.now _ _ _ c.in-Body.start c.in-Body.size _ c.loop-start.invariant.1 c.read.ensures.value c.in-Body.is).inside)

pub overflow_add-from : goal.overflow_add-from
overflow_add-from c = let n = next c.args.log.now _ _ _ c.in-Body.start c.in-Body.size _ c.loop-start.invariant.1 c.read.ensures.value c.in-Body.is in omega (arith, n.inside, n.enough, c.seen_bytes-seen.ensures)

pub slice_bounds-transfer-end : goal.slice_bounds-transfer-end
slice_bounds-transfer-end c = omega (arith, (next c.args.log.now _ _ _ c.in-Body.start c.in-Body.size _ c.loop-start.invariant.1 c.read.ensures.value c.in-Body.is).inside)

pub slice_bounds-transfer-count : goal.slice_bounds-transfer-count
slice_bounds-transfer-count c = omega (arith, (next c.args.log.now _ _ _ c.in-Body.start c.in-Body.size _ c.loop-start.invariant.1 c.read.ensures.value c.in-Body.is).enough, c.seen_bytes-seen.ensures)

pub slice_bounds-transfer-start : goal.slice_bounds-transfer-start
slice_bounds-transfer-start c = omega (arith, (next c.args.log.now _ _ _ c.in-Body.start c.in-Body.size _ c.loop-start.invariant.1 c.read.ensures.value c.in-Body.is).enough, c.seen_bytes-seen.ensures)

pub loop-start-init : goal.loop-start-init
loop-start-init c = (record { state = refl; long = refl }, c.seen_bytes-seen.ensures)

pub loop-start-smaller : goal.loop-start-smaller
loop-start-smaller c = let n = next c.args.log.now _ _ _ c.in-Body.start c.in-Body.size _ c.loop-start.invariant.1 c.read.ensures.value c.in-Body.is in omega (arith, n.inside, n.begins)

pub loop-start-preserved : goal.loop-start-preserved
loop-start-preserved c =
    let t = told c.args.log.now c.args.chips c.loop-start.registers c.loop-start.ram c.in-Body.start c.in-Body.size c.seen_bytes-seen.result _ c.seen_bytes-seen.ensures c.transfer-done.ensures.ram_after in
    (next-record c.loop-start.invariant.0 (next c.args.log.now _ _ _ c.in-Body.start c.in-Body.size _ c.loop-start.invariant.1 c.read.ensures.value c.in-Body.is) t c.transfer-done.auto.ram, c.seen_bytes-seen.ensures)

pub returns : goal.returns
unfolding state_after_all
returns c = let log = c.args.log.now in
    let at = c.loop-start.cursor.at in
    let read = found (seen_bytes log) log at c.read.result (c.read.ensures.value ∙ ap (λ (k : ℕ). record_in k at (drop at log)) c.loop-start.invariant.1) in
    let over = none_left (seen_bytes log) log at c.read.result read c.in_default.not-Body in
    ap (λ (s : State). s.ram) (rw over at c.loop-start.invariant.0.state)

pub shape_of-ram : goal.shape_of-ram
shape_of-ram c = c.loop-start.invariant.0.long
