-- `decode::is_defined` meets its contract: computed for each byte of each part.
-- Assumes nothing.
use mathlib.Core.Path.{◌≡◌, refl}
use mathlib.Core.Bool.{Bool, true, false, cond, ◌&&◌, ◌||◌}
use Prim.Native.Nat.{ℕ, ◌<◌}
use lib.Dec.{eqb, leb}
use borrow.Author.Tests.{eqb-true, eqb-false}
use Rattle.sheet.specs.Parts.{within, command_in, pcf8532, pca85133, part_of}
use Rattle.sheet.specs.Commands.{defined}
use Rattle.laws.proofs.Named.{is-pca85133, is-pcf8532}
use Rattle.decode.proofs.Ends.{told-alike}
use borrow.Author.Rules.{rules}
use Rattle.decode.proofs.is_defined.Goals as goal

abbrev told : ℕ → ℕ → ℕ → ℕ → Bool
told pointer device rest x = (((leb x pointer || (leb 64 x && leb x 79)) || (leb 192 x && leb x 207)) || (leb 224 x && leb x device)) || (leb rest x && leb x 251)

by_part : (part x : ℕ) (other : Bool) → eqb part 1 ≡ other → x < 256 → told (cond other 79 9) (cond other 231 227) (cond other 240 232) x ≡ defined ((part_of part).command x)
unfolding within command_in
by_part part x true e h = rw (is-pca85133 part (eqb-true part 1 e)) (told-alike (told 79 231 240) (λ x. defined (pca85133.command x)) tt x h)
by_part part x false e h = rw (is-pcf8532 part (eqb-false part 1 e)) (told-alike (told 9 227 232) (λ x. defined (pcf8532.command x)) tt x h)

pub returns : goal.returns
returns c = rw (c.of_part.ensures, c.of_part-2.ensures, c.of_part-3.ensures) (by_part c.args.part c.args.byte (eqb c.args.part 1) refl c.ranges.byte.fits)
