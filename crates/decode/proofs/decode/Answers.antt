-- decode: what the PCA85133 has of its own, or as the PCF8532.
-- Assumes nothing.
use mathlib.Core.Path.{◌≡◌, refl, ◌∙◌}
use mathlib.Core.Bool.{◌&&◌}
use Prim.Native.Nat.{◌≤◌}
use lib.Dec.{eqb, leb}
use native.Mathlib.Omega.{arith}
use borrow.Author.Tests.{eqb-true, leb-true}
use Rattle.lemmas.proofs.Tests.{both_true}
use Rattle.sheet.specs.Parts.{within, pca85133_ranges}
use Rattle.laws.proofs.Named.{is-pca85133}
use Rattle.laws.proofs.Stretches.{stretch}
use Rattle.decode.proofs.Shared.{shared}
use borrow.Author.Rules.{rules}
use Rattle.decode.proofs.decode.Goals as goal

pub returns-then-other-byte : goal.returns-then-other-byte
unfolding within
returns-then-other-byte c = let t = both_true (eqb c.args.part 1) (leb c.args.byte 79) c.if-other-byte.true in
    let k = leb-true c.args.byte 79 t.1 in
    rw (is-pca85133 _ (eqb-true c.args.part 1 t.0)) (stretch pca85133_ranges 0 79 _ (omega arith) k refl)

-- the part is the PCA85133, and the byte from E0 to EF
own : (c : goal.Then-other-byte-2) → let a = c.args in (a.part ≡ 1) × (224 ≤ a.byte) × (a.byte ≤ 239)
own c = let a = c.args in
    let t = both_true (eqb a.part 1 && leb 224 a.byte) (leb a.byte 239) c.if-other-byte-2.true in
    let u = both_true (eqb a.part 1) (leb 224 a.byte) t.0 in
    (eqb-true a.part 1 u.0, leb-true 224 a.byte u.1, leb-true a.byte 239 t.1)

pub device_pca85133-requires : goal.device_pca85133-requires
device_pca85133-requires c = let o = own c in (o.1, o.2)

pub returns-then-other-byte-2 : goal.returns-then-other-byte-2
returns-then-other-byte-2 c = rw (is-pca85133 _ (own c.before).0) c.device_pca85133.ensures

pub returns : goal.returns
returns c = c.decode_pcf8532.ensures ∙ shared c.args.part c.args.byte c.ranges.byte.fits c.if-other-byte.false c.if-other-byte-2.false
