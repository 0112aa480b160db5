-- `hearing::hear_left` meets its contract: a run after 40, or any bytes.
-- Assumes nothing.
use mathlib.Core.Path.{sym, ◌∙◌}
use borrow.Author.Tests.{eqb-true, ltb-true}
use lib.Dec.{eqb, ltb}
use lib.ListN.{length}
use Prim.Native.Nat.{◌+◌}
use Rattle.lemmas.proofs.Tests.{both_true}
use Rattle.hearing.proofs.hear_left.Goals as goal

pub hear_run-requires : goal.hear_run-requires
hear_run-requires c = let a = c.args in
    let u = both_true (ltb (a.from + 1) (length a.bytes.now)) (eqb c.byte_at.result 64) c.if-from-bytes.true in
    (c.requires, ltb-true (a.from + 1) (length a.bytes.now) u.0, sym c.byte_at.ensures ∙ eqb-true c.byte_at.result 64 u.1)
