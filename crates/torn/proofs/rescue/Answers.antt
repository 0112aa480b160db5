-- `torn::rescue` meets its contract: refused, or what is whole copied to the start of the output.
-- Assumes nothing.
use Rattle.std.proofs.lemmas.Result.{err_from_is_err_and}
use mathlib.Core.Path.{◌≡◌, sym, ap, ◌∙◌}
use mathlib.Core.List.{List, ◌++◌}
use Prim.Native.Nat.{ℕ, ◌-◌, ◌≤◌}
use native.Mathlib.Omega.{arith}
use lib.ListN.{length, take, drop}
use lib.Seq.{length-take-le}
use Rattle.std.specs.Prelude.{Ok}
use Rattle.sheet.specs.Results.{Rescued, Check}
use Rattle.sheet.specs.Refusals.{rescued_numbers}
use Rattle.log_sheet.specs.Logs.{log_records}
use Rattle.log_sheet.specs.Rescue.{kept_of, check_rescue, RescuedAfter, rescued_by, rescue_call}
use Rattle.torn.specs.declared.Whole.{Whole}
use Rattle.laws.proofs.Rescued.{fits}
use Rattle.torn.proofs.rescue.Goals as goal

-- where the whole records end, in a log that has passed
inside : (log out : List ℕ) (w : Whole) → check_rescue log (length out) ≡ Ok tt → w ≡ record { records = length (log_records log).bodies; end = kept_of log } → (w.end ≤ length log) × (w.end ≤ length out)
inside log out w passed is = let f = fits log (length out) passed in
    let end : w.end ≡ kept_of log = ap (λ (v : Whole). v.end) is in
    (omega (arith, f.few, end), omega (arith, f.few, f.room, end))

pub slice_bounds-copy-end : goal.slice_bounds-copy-end
slice_bounds-copy-end c = let i = inside c.args.log.now c.args.out.now c.whole_of-whole.result (sym c.check.ensures ∙ c.in_ok-check.was) c.whole_of-whole.ensures in sym (length-take-le _ _ i.0)

pub slice_bounds-copy-end-2 : goal.slice_bounds-copy-end-2
slice_bounds-copy-end-2 c = (inside c.args.log.now c.args.out.now c.whole_of-whole.result (sym c.check.ensures ∙ c.in_ok-check.was) c.whole_of-whole.ensures).1

pub slice_bounds-copy-end-3 : goal.slice_bounds-copy-end-3
slice_bounds-copy-end-3 c = let i = inside c.args.log.now c.args.out.now c.whole_of-whole.result (sym c.check.ensures ∙ c.in_ok-check.was) c.whole_of-whole.ensures in sym (length-take-le _ _ i.1)

pub copy-requires : goal.copy-requires
copy-requires c = let i = inside c.args.log.now c.args.out.now c.whole_of-whole.result (sym c.check.ensures ∙ c.in_ok-check.was) c.whole_of-whole.ensures in
    length-take-le _ _ i.1 ∙ sym (length-take-le _ _ i.0)

pub overflow_sub-result : goal.overflow_sub-result
overflow_sub-result c = (inside c.args.log.now c.args.out.now c.whole_of-whole.result (sym c.check.ensures ∙ c.in_ok-check.was) c.whole_of-whole.ensures).0

-- a result with the output, and so its numbers
numbered : {a b : RescuedAfter} → a ≡ b → (a ≡ b) × (rescued_numbers a.result ≡ rescued_numbers b.result)
numbered e = (e, ap (λ (k : RescuedAfter). rescued_numbers k.result) e)

pub returns-in_err-check : goal.returns-in_err-check
unfolding rescue_call
returns-in_err-check c = let e = ap (λ (k : Check). rescued_by k c.args.log.now c.args.out.now) (sym c.in_err-check.was ∙ c.check.ensures) in
    let n = numbered e in
    let e = err_from_is_err_and c.from_residual.result c.from_residual.ensures.1 in rw (e.1, e.2) (record { out_after = n.0; result_value = n.1 })

pub returns : goal.returns
unfolding rescue_call
returns c = let log = c.args.log.now in
    let out = c.args.out.now in
    let whole = c.whole_of-whole.result in
    let n = numbered
    (ap (λ (l : List ℕ). record { result = Ok (record { records = whole.records; bytes = whole.end; dropped = length log - whole.end; tear = whole.end }); out = l ++ drop whole.end out }) c.copy.ensures
    ∙ ap (λ (w : Whole). record { result = Ok (record { records = w.records; bytes = w.end; dropped = length log - w.end; tear = w.end }); out = take w.end log ++ drop w.end out }) c.whole_of-whole.ensures
    ∙ ap (λ (k : Check). rescued_by k log out) (sym c.in_ok-check.was ∙ c.check.ensures)) in
    record { out_after = n.0; result_value = n.1 }
