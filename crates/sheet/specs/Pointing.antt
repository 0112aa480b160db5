-- Computed of both parts: the command bytes that a part has for a column make P that column, wherever P was, and leave A; of a PCF8532 pointer high comes first (paper 02, request 2).
use Rattle.std.specs.Prelude.{ℕ, zero, suc, Bool, true, ◌&&◌, [], ◌∷◌, T, eqb}
use Rattle.sheet.specs.Parts.{Part, within, command_in, pcf8532, pca85133}
use Rattle.sheet.specs.Registers.{power_on, at_place}
use Rattle.sheet.specs.Commands.{obeyed_all}
use Rattle.sheet.specs.Starred.{same}

-- to column p, from column q of chip 2
abbrev pub points : Part → ℕ → ℕ → Bool
points K q p = let r = obeyed_all K (K.pointer p) (at_place power_on q 2) in eqb r.p p && eqb r.a 2

-- to each of the first n columns, from column 0 and from the last
abbrev pub points_to : Part → ℕ → ℕ → Bool
points_to K last zero = true
points_to K last (suc n) = points K 0 n && (points K last n && points_to K last n)

pub pointing : T (points_to pcf8532 159 160 && (points_to pca85133 79 80 && (same (pcf8532.pointer 159) (0x09 ∷ 0x4F ∷ []) && same (pca85133.pointer 79) (0x4F ∷ []))))
unfolding within command_in
pointing = tt
