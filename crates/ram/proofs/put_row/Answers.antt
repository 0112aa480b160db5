-- `ram::put_row` meets its contract: by its test; a column past the end is not there.
-- Assumes nothing.
use mathlib.Core.Path.{sym, ap}
use Prim.Native.Nat.{ℕ}
use lib.ListN.{set}
use Rattle.sheet.specs.Data.{changed, with_row}
use Rattle.laws.proofs.Runs.{changed-past}
use Rattle.ram.proofs.put_row.Goals as goal

pub returns-then-at-ram : goal.returns-then-at-ram
unfolding changed
returns-then-at-ram c = ap (λ (q : ℕ). set c.args.ram.now c.args.at q) c.with_row.ensures

pub returns-else-at-ram : goal.returns-else-at-ram
returns-else-at-ram c = sym (changed-past (with_row c.args.row c.args.bit) c.args.at c.args.ram.now c.if-at-ram.false)
