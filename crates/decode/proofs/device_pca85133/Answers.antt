-- device_pca85133: E0 to E7 and E8 to EF are two stretches, each told as its first byte is.
-- Assumes nothing.
use mathlib.Core.Path.{refl}
use native.Mathlib.Omega.{arith}
use Rattle.sheet.specs.Parts.{within, pca85133_ranges}
use Rattle.laws.proofs.Stretches.{stretch}
use Rattle.decode.proofs.device_pca85133.Goals as goal

pub returns-then-byte-le231 : goal.returns-then-byte-le231
unfolding within
returns-then-byte-le231 c = stretch pca85133_ranges 224 231 _ c.requires.0 c.if-byte-le231.true refl

pub returns-else-byte-le231 : goal.returns-else-byte-le231
unfolding within
returns-else-byte-le231 c = let h = c.if-byte-le231.false in stretch pca85133_ranges 232 239 _ (omega arith) c.requires.1 refl
