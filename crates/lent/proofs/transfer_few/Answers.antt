-- `lent::transfer_few` meets its contract: the bench's transfer between bytes and chips; refused, nothing is written.
-- Assumes nothing.
use Rattle.std.proofs.lemmas.Result.{err_from_is_err_and}
use Rattle.std.specs.Prelude.{Err, Ok}
use mathlib.Core.Path.{◌≡◌, sym, ◌∙◌}
use native.Mathlib.Omega.{arith}
use Rattle.lent.specs.Lent.{lent_call}
use Rattle.sheet.specs.Protocol.{sent}
use Rattle.lent.proofs.Benches.{followed}
use Rattle.lent.proofs.transfer_few.Goals as goal

pub put_bench-requires : goal.put_bench-requires
put_bench-requires c = let a = c.args in
    let f = followed a.part (sent a.bytes.now a.bits) c.bench_of-before.ensures c.transfer_bench-done.ensures.value in
    (omega arith, omega arith, f.1.size)

pub returns : goal.returns
unfolding lent_call
returns c = let a = c.args in
    let f = followed a.part (sent a.bytes.now a.bits) c.bench_of-before.ensures c.transfer_bench-done.ensures.value in
    let was : c.transfer_bench-done.result.answer ≡ Ok c.in_ok-said.said = grind arith in
    rw (c.put_bench.ensures, f.1.count, f.1.first, sym f.0 ∙ was)

pub returns-in_err-said : goal.returns-in_err-said
unfolding lent_call
returns-in_err-said c = let a = c.args in
    let f = followed a.part (sent a.bytes.now a.bits) c.bench_of-before.ensures c.transfer_bench-done.ensures.value in
    let e = err_from_is_err_and c.from_residual.result c.from_residual.ensures.1 in
    let was : c.transfer_bench-done.result.answer ≡ Err c.in_err-said.field-0.0 = grind arith in
    rw (e.1, e.2, sym f.0 ∙ was)
