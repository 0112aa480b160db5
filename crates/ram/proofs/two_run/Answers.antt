-- `ram::two_run` meets its contract: after i turns the first i bytes are written.
-- Assumes nothing.
use mathlib.Core.Path.{◌≡◌, ap, ◌∙◌}
use Prim.Native.Nat.{ℕ, ◌+◌, ◌*◌}
use native.Mathlib.Omega.{arith}
use lib.ListN.{get_or}
use Rattle.words.specs.Fields.{with_rows, column_of, mixed, merged}
use Rattle.words.proofs.Words.{first-four, in_bank}
use Rattle.ram.proofs.Runs.{begun, turn, small}
use Rattle.ram.proofs.two_run.Goals as goal

pub loop-i-preserved : goal.loop-i-preserved
unfolding with_rows column_of mixed
loop-i-preserved c = let a = c.args in
    let i = c.loop-i.i in
    let put = c.put_four in
    let t = c.spread in
    let at = a.v + 4 * i in
    let e : put.new.ram ≡ merged 4 (50529027 * (1 + 3 * a.bank)) t.result at c.loop-i.ram =
    put.ensures ∙ ap (λ (n : ℕ). merged 4 (50529027 * (1 + 3 * n)) t.result at c.loop-i.ram) c.wide.ensures.0 in
    let w = small (omega arith) (omega arith) c.requires.2 c.loop-i.invariant in
    turn c.loop-i-test.true
    (first-four 2 50529027 a.bank (get_or a.bytes.now i 0) at t.result c.loop-i.ram put.new.ram tt tt (omega arith) (omega arith) c.requires.0 w (in_bank 2 a.bank (get_or a.bytes.now i 0) 0 t.result t.ensures) e)
    c.loop-i.invariant

pub loop-i-init : goal.loop-i-init
loop-i-init c = begun
