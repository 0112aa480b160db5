-- `rescue::rescue_log` is safe: what is kept lies inside the output.
-- Assumes nothing.
use Rattle.std.proofs.Common.{◌≡◌, ℕ, ◌≤◌, List, length, arith, sym, ap, ◌∙◌, Ok}
use lib.Seq.{length-take-le}
use Rattle.sheet.specs.declared.Kept.{Kept}
use Rattle.sheet.specs.Results.{Rescued}
use Rattle.log_sheet.specs.Rescue.{RescuedAfter, rescue_call}
use Rattle.laws.proofs.Rescued.{kept-inside}
use Rattle.rescue.proofs.rescue_log.Goals as goal

inside : (log before after : List ℕ) (result : Rescued) (k : Kept) → ◌≡◌ {A = RescuedAfter} (record { result = result; out = after }) (rescue_call log before)
    → result ≡ Ok k → length after ≡ length before → k.bytes ≤ length after
inside log before after result k e is same =
    omega (arith, kept-inside log before k (sym (ap (λ (a : RescuedAfter). a.result) e) ∙ is), same)

pub slice_bounds-out-end : goal.slice_bounds-out-end
slice_bounds-out-end c = inside _ _ _ _ _ c.rescue.ensures.out_after c.in-Ok.is c.rescue.auto.out

pub slice_bounds-write_kept-end : goal.slice_bounds-write_kept-end
slice_bounds-write_kept-end c = sym (length-take-le _ _ (inside _ _ _ _ _ c.rescue.ensures.out_after c.in-Ok.is c.rescue.auto.out))
