-- `three::put_byte` meets its contract for either part.
-- Assumes nothing.
use mathlib.Core.Path.{sym, ap, subst, ◌∙◌}
use mathlib.Core.Path.{◌≡◌}
use mathlib.Core.List.{List}
use Prim.Native.Nat.{ℕ, ◌+◌}
use native.Mathlib.Omega.{arith}
use Rattle.sheet.specs.Parts.{Part, part_of, pcf8532, pca85133}
use Rattle.writer_sheet.specs.Three.{byte_at}
use Rattle.laws.proofs.Named.{is-pca85133, is-pcf8532}
use Rattle.three.specs.Room.{Byte}
use Rattle.three.proofs.Placed.{large_at, small_at}
use Rattle.three.proofs.put_byte.Goals as goal

small : {part c p : ℕ} {out : List ℕ} → part ≡ 1 → Byte (part_of part) c p out → Byte pca85133 c p out
small {part} {c} {p} {out} e h = subst (λ (K : Part). Byte K c p out) (is-pca85133 part e) h

large : {part c p : ℕ} {out : List ℕ} → (part ≡ 1 → ⊥) → Byte (part_of part) c p out → Byte pcf8532 c p out
large {part} {c} {p} {out} e h = subst (λ (K : Part). Byte K c p out) (is-pcf8532 part e) h

pub returns-then-part-eq-PCA85133 : goal.returns-then-part-eq-PCA85133
returns-then-part-eq-PCA85133 c = let a = c.args in
    c.put_small.ensures ∙ small_at a.c a.p a.x (small c.if-part-eq-PCA85133.true c.requires.0).first (small c.if-part-eq-PCA85133.true c.requires.0).inside ∙ ap (λ (K : Part). byte_at K (a.c + a.p) a.x) (sym (is-pca85133 _ c.if-part-eq-PCA85133.true))

pub returns-else-part-eq-PCA85133 : goal.returns-else-part-eq-PCA85133
returns-else-part-eq-PCA85133 c = let a = c.args in
    c.put_large.ensures ∙ large_at a.c a.p a.x (large c.if-part-eq-PCA85133.false c.requires.0).first (large c.if-part-eq-PCA85133.false c.requires.0).inside ∙ ap (λ (K : Part). byte_at K (a.c + a.p) a.x) (sym (is-pcf8532 _ c.if-part-eq-PCA85133.false))

pub overflow_cast-c : goal.overflow_cast-c
overflow_cast-c c = omega (arith, (small c.if-part-eq-PCA85133.true c.requires.0).few)

pub put_small-requires : goal.put_small-requires
put_small-requires c = (omega (arith, (small c.if-part-eq-PCA85133.true c.requires.0).few), (small c.if-part-eq-PCA85133.true c.requires.0).inside, c.requires.1, (small c.if-part-eq-PCA85133.true c.requires.0).room)

pub overflow_cast-c-else-part-eq-PCA85133 : goal.overflow_cast-c-else-part-eq-PCA85133
overflow_cast-c-else-part-eq-PCA85133 c = omega (arith, (large c.if-part-eq-PCA85133.false c.requires.0).few)

pub put_large-requires : goal.put_large-requires
put_large-requires c = (omega (arith, (large c.if-part-eq-PCA85133.false c.requires.0).few), (large c.if-part-eq-PCA85133.false c.requires.0).inside, c.requires.1, (large c.if-part-eq-PCA85133.false c.requires.0).room)
