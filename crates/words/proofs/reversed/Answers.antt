-- `words::reversed` meets its contract: computed for each of the 256 bytes.
-- Assumes nothing.
use mathlib.Core.Path.{◌≡◌, ◌∙◌}
use mathlib.Core.Bool.{Bool}
use Prim.Native.Nat.{ℕ, ◌<◌}
use lib.Dec.{eqb, eqb→eq}
use Rattle.std.specs.Int.{reverse_bits_onto}
use Rattle.lemmas.proofs.Tests.{all-at}
use Rattle.words.specs.Fields.{field}
use Rattle.words.proofs.reversed.Goals as goal

unfoldable right : ℕ → Bool
right x = eqb (reverse_bits_onto 8 x 0) (field x 0 8)

other_order : (x : ℕ) → x < 256 → reverse_bits_onto 8 x 0 ≡ field x 0 8
unfolding right field reverse_bits_onto
other_order x h = eqb→eq (reverse_bits_onto 8 x 0) (field x 0 8) (all-at 256 right tt x h)

pub returns : goal.returns
returns c = c.reverse_bits.ensures ∙ other_order c.args.x c.ranges.x.fits
