-- The highest number of a list, 0 of none, and the place of the first over 15: what `checks::highest` and `search_over` promise.
use Rattle.std.specs.Prelude.{cond, List, [], ◌∷◌, ℕ, suc, max, ltb}

unfoldable pub highest_of : List ℕ → ℕ
highest_of [] = 0
highest_of (q ∷ qs) = max q (highest_of qs)

-- past the last where there is none
unfoldable pub first_over : List ℕ → ℕ
first_over [] = 0
first_over (q ∷ qs) = cond (ltb 15 q) 0 (suc (first_over qs))
