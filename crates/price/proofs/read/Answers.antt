-- `price::read` meets its contract: refused by its sizes, by 15, or the text.
-- Assumes nothing.
use Rattle.std.proofs.lemmas.Result.{err_from_is_err_and}
use mathlib.Core.Path.{◌≡◌, ap, ◌∙◌}
use mathlib.Core.List.{List}
use Prim.Native.Nat.{ℕ}
use native.Mathlib.Omega.{arith}
use lib.ListN.{length}
use lib.Seq.{length-take-le}
use Rattle.std.specs.Prelude.{Ok}
use Rattle.sheet.specs.Results.{Check}
use Rattle.price_sheet.specs.Price.{read_from, check_price, Sizes, price_read}
use Rattle.laws.proofs.Written.{numbered}
use Rattle.price.specs.Fronts.{settled}
use Rattle.price.proofs.Calls.{refused, fits, taken}
use Rattle.price.proofs.read.Goals as goal

-- what has passed the sizes
passed : (segments : List ℕ) (mode : ℕ) (out : List ℕ) (k : Check) → k ≡ check_price (length segments) mode 160 (length out) → k ≡ Ok tt → Sizes (length segments) mode 160 (length out)
passed segments mode out k told e = fits (length segments) mode 160 out k told e

pub before-before-requires : goal.before-before-requires
before-before-requires c = (omega arith, (passed c.args.segments.now c.args.mode c.args.out.now c.check_sizes.result c.check_sizes.ensures c.in_ok-check_sizes.was).enough)

pub put_texts-requires : goal.put_texts-requires
put_texts-requires c = (passed c.args.segments.now c.args.mode c.args.out.now c.check_sizes.result c.check_sizes.ensures c.in_ok-check_sizes.was, c.before-before.ensures)

pub settled-requires : goal.settled-requires
settled-requires c = let s = passed c.args.segments.now c.args.mode c.args.out.now c.check_sizes.result c.check_sizes.ensures c.in_ok-check_sizes.was in
    omega (arith, ap length c.before-before.ensures, length-take-le 160 c.args.out.now s.enough, c.put_texts.auto.out, s.enough)

pub returns-in_err-check_sizes : goal.returns-in_err-check_sizes
unfolding price_read
returns-in_err-check_sizes c = let n = numbered (refused (length c.args.segments.now) c.args.mode 160 c.args.out.now c.check_sizes.result c.check_sizes.ensures (read_from c.args.mode 0 c.args.segments.now) _ _ c.in_err-check_sizes.was) in
    let e = err_from_is_err_and c.from_residual.result c.from_residual.ensures.1 in rw (e.1, e.2) (record { out_after = n.0; result_value = n.1 })

pub returns : goal.returns
unfolding price_read
returns c = let n = numbered
    (c.settled.ensures ∙ ap (λ (front : List ℕ). settled c.put_texts.result front c.put_texts.new.out) c.before-before.ensures
    ∙ taken (length c.args.segments.now) c.args.mode 160 c.args.out.now c.check_sizes.result c.check_sizes.ensures c.in_ok-check_sizes.was c.put_texts.ensures) in
    record { out_after = n.0; result_value = n.1 }
