-- A group's twelve bytes of registers, kept as three words, the first byte lowest. Assumes nothing.
use Rattle.std.specs.Prelude.{ℕ, List, [], ◌∷◌}
use Rattle.words.specs.Fields.{column_of}
use Rattle.lent_opening.specs.declared.Kept.{Kept}

abbrev pub held_in : Kept → List ℕ
held_in k =
    column_of k.first 0 ∷ column_of k.first 1 ∷ column_of k.first 2 ∷ column_of k.first 3
    ∷ column_of k.second 0 ∷ column_of k.second 1 ∷ column_of k.second 2 ∷ column_of k.second 3
    ∷ column_of k.third 0 ∷ column_of k.third 1 ∷ column_of k.third 2 ∷ column_of k.third 3
    ∷ []
