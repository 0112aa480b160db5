-- `picture::show` meets its contract: dark is a picture of no rows; else the rows shown are rows of a column.
-- Assumes nothing.
use mathlib.Core.Path.{◌≡◌, sym, ap, ◌∙◌}
use mathlib.Core.List.{List}
use Prim.Native.Nat.{ℕ}
use native.Mathlib.Omega.{arith}
use Rattle.sheet.specs.Pictures.{picture_of, lit_in}
use Rattle.picture.specs.Drawn.{Drawn}
use Rattle.picture.proofs.Rows.{rows_in, dark_picture}
use Rattle.picture.proofs.show.Goals as goal

-- what is drawn is written and counted
both : {d : Drawn} {picture : List ℕ} → d ≡ record { lit = lit_in picture; out = picture } → (d.out ≡ picture) × (d.lit ≡ lit_in picture)
both e = (ap (λ (k : Drawn). k.out) e, ap (λ (k : Drawn). k.lit) e)

pub draw_in-requires-in-Some : goal.draw_in-requires-in-Some
draw_in-requires-in-Some c = let rows = rows_in _ _ _ c.requires.3 c.requires.4 (sym c.shown.ensures ∙ c.in-Some.is) in
    record { size = c.requires.0; below = omega (arith, rows); rows = omega (arith, rows, c.backplanes.ensures); turns = omega (arith, c.requires.0, c.requires.2); most = omega (arith, c.requires.0, c.requires.1) }

pub returns-in-None : goal.returns-in-None
returns-in-None c = let b = both (c.draw_in.ensures ∙ ap (λ (p : List ℕ). record { lit = lit_in p; out = p }) (dark_picture _ _ _ (sym c.shown.ensures ∙ c.in-None.is))) in
    record { out_after = b.0; value = b.1 }

pub returns-in-Some : goal.returns-in-Some
unfolding picture_of
returns-in-Some c = let b = both c.draw_in-in-Some.ensures in
    let e = sym c.shown.ensures ∙ c.in-Some.is in
    record { out_after = rw (e, ← c.backplanes.ensures) b.0; value = rw (e, ← c.backplanes.ensures) b.1 }

pub draw_in-requires : goal.draw_in-requires
draw_in-requires c = record { size = c.requires.0; below = omega arith; rows = omega arith; turns = omega (arith, c.requires.0, c.requires.2); most = omega (arith, c.requires.0, c.requires.1) }
