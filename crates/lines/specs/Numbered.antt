-- A record's lines by the numbers of its answer, as a call has them.
use Rattle.std.specs.Prelude.{ℕ, cond, List, [], ◌∷◌, ◌++◌, eqb, get_or}
use Rattle.log_sheet.specs.Logs.{transfer_letter, line, seen_line}

abbrev pub numbered_line : ℕ → List ℕ → List ℕ
numbered_line i ns = line transfer_letter (i ∷ ns)

-- the acknowledged bytes that the model has are the third
abbrev pub numbered_lines : ℕ → ℕ → ℕ → List ℕ → List ℕ
numbered_lines seen i count ns = numbered_line i ns ++ cond (eqb seen 0) [] (seen_line i count (get_or ns 2 0))
