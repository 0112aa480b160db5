use mathlib.Core.Path.{◌≡◌}
use Prim.Native.Nat.{ℕ, ◌*◌, ◌<◌}
use lib.Bits.{bit_and}
use lib.ListN.{get_or}
use Rattle.checks.proofs.Low.{over}
use Rattle.checks.proofs.words_low.Given as goal

abbrev pub invariant-loop-word : goal.invariant-loop-word
invariant-loop-word l = (bit_and l.rows over ≡ 0 → (j : ℕ) → j < 8 * l.word → get_or l.columns j 0 < 16) × (((j : ℕ) → j < 8 * l.word → get_or l.columns j 0 < 16) → bit_and l.rows over ≡ 0)
