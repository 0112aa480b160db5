-- `starts::check_bench` meets its contract.
-- Assumes nothing.
use native.Mathlib.Omega.{arith}
use Rattle.laws.proofs.Named.{limit-small}
use Rattle.starts.proofs.check_bench.Goals as goal

pub overflow_mul-limit : goal.overflow_mul-limit
overflow_mul-limit c = omega (arith, c.limit.ensures, limit-small c.args.part)
