-- with_rows: what a row is worth is a power of two, at most 16, so nothing overflows, and it is the definition.
-- Assumes nothing.
use mathlib.Core.Path.{◌≡◌, refl}
use Prim.Native.Nat.{ℕ, ◌+◌, ◌*◌, ◌/◌, ◌%◌, ◌^◌, ◌<◌}
use native.Mathlib.Nat.{mod-lt}
use native.Mathlib.Omega.{arith}
use lib.Arith.{digits_lt}
use lib.Pow.{pow_pos, pow-add}
use Rattle.words.specs.Fields.{with_rows}
use Rattle.columns.proofs.Powers.{worth}
use Rattle.columns.proofs.with_rows.Goals as goal

-- what the code makes of rows worth low to below high
record Made (b h f q low high : ℕ) : Type 0 where
  low-some : 0 < low
  high-some : 0 < high
  small : q / high * high + (f * low + q % low) < 256
  same : q / high * high + (f * low + q % low) ≡ with_rows b h f q

made : (b h f q : ℕ) → b + h < 5 → f < 2 ^ h → q < 256 → Made b h f q (1 * 2 ^ b % 256) (1 * 2 ^ (b + h) % 256)
unfolding with_rows
made b h f q l s t =
    let high = worth (b + h) q l t in
    let low = worth b q (omega arith) t in
    rw (low.exact, high.exact)
    (record {
      low-some = pow_pos b;
      high-some = pow_pos (b + h);
      small = high.kept (f * 2 ^ b + q % 2 ^ b) (omega (arith, digits_lt s (mod-lt q (pow_pos b)), pow-add 2 b h));
      same = refl;
    })

made-here : (c : goal.Start) → Made c.args.b c.args.h c.args.f c.args.column (1 * 2 ^ c.args.b % 256) (1 * 2 ^ (c.args.b + c.args.h) % 256)
made-here c = made _ _ _ _ c.requires.0 c.requires.1 c.ranges.column.fits

pub overflow_mul-result-2 : goal.overflow_mul-result-2
overflow_mul-result-2 c = omega (arith, (made-here c).small)

pub overflow_add-result : goal.overflow_add-result
overflow_add-result c = omega (arith, (made-here c).small)

pub overflow_add-result-2 : goal.overflow_add-result-2
overflow_add-result-2 c = omega (arith, (made-here c).small)

pub returns : goal.returns
returns c = (made-here c).same
