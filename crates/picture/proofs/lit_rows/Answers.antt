-- lit_rows: a shift is a division and a mask a remainder by a power of two.
-- Assumes nothing.
use mathlib.Core.Path.{◌≡◌}
use Prim.Native.Nat.{ℕ, ◌*◌, ◌^◌, ◌%◌, ◌<◌}
use native.Mathlib.Omega.{arith}
use lib.Pow.{pow_pos, shl_exact}
use lib.Bits.{and_mask}
use Rattle.picture.proofs.lit_rows.Goals as goal

-- a one moved up by less than eight places is not cut off
kept : (k : ℕ) → k < 8 → (1 * 2 ^ k) % 256 ≡ 2 ^ k
kept k h = rw (shl_exact {a = 1} 1 k 8 (omega arith) (omega arith)) (omega arith)

pub overflow_sub-result : goal.overflow_sub-result
overflow_sub-result c = rw (kept c.args.height c.requires.1) (pow_pos c.args.height)

pub returns : goal.returns
returns c = rw (kept c.args.height c.requires.1) (and_mask _ c.args.height)
