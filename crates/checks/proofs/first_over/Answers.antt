-- `checks::first_over` meets its contract: where no column is over 15, the check passes; else the search tells.
-- Assumes nothing.
use mathlib.Core.Path.{◌≡◌, refl, sym, ap, ap₂, ◌∙◌}
use mathlib.Core.Bool.{Bool, true, false, cond}
use mathlib.Core.List.{List, [], ◌∷◌}
use Prim.Native.Nat.{ℕ, suc, ◌+◌}
use native.Mathlib.Nat.{add-zero, zero-add}
use native.Mathlib.Omega.{arith}
use lib.Dec.{ltb, leb, leb-suc-zero, leb-suc-suc}
use lib.ListN.{length}
use Rattle.sheet.specs.declared.Refusal.TheVariants.{RamByte}
use Rattle.std.specs.Prelude.{Err}
use Rattle.sheet.specs.Checks.{unless, over_in}
use Rattle.laws.proofs.Nibbles.{check-nibbles}
use Rattle.checks.specs.Highest.{first_over}
use Rattle.checks.proofs.first_over.Goals as goal

-- the place that the search finds is a column's, or past the last
found : (i : ℕ) (l : List ℕ) → unless (leb (length l) (first_over l)) (RamByte (i + first_over l)) ≡ over_in i l
unfolding first_over over_in
found i [] = refl
found i (q ∷ qs) = by-column (ltb 15 q) (found (suc i) qs)
  where
    by-column : (over : Bool) → unless (leb (length qs) (first_over qs)) (RamByte (suc i + first_over qs)) ≡ over_in (suc i) qs
        → unless (leb (suc (length qs)) (cond over 0 (suc (first_over qs)))) (RamByte (i + cond over 0 (suc (first_over qs)))) ≡ cond over (Err (RamByte i)) (over_in (suc i) qs)
    by-column true later = ap₂ (λ (past : Bool) (k : ℕ). unless past (RamByte k)) (leb-suc-zero (length qs)) (add-zero i)
    by-column false later =
        let next : i + suc (first_over qs) ≡ suc i + first_over qs = omega arith in
        ap₂ (λ (past : Bool) (k : ℕ). unless past (RamByte k)) (leb-suc-suc (length qs) (first_over qs)) next ∙ later

pub returns-then-words_low : goal.returns-then-words_low
returns-then-words_low c = let l = c.args.columns.now in sym (check-nibbles 0 l (c.words_low.ensures.nibbles c.if-words_low.true))

pub returns-else-words_low : goal.returns-else-words_low
returns-else-words_low c = let l = c.args.columns.now in
    let at = c.search_over-at.ensures in
    c.unless.ensures ∙ ap (λ (k : ℕ). unless (leb (length l) k) (RamByte k)) at ∙ ap (λ (k : ℕ). unless (leb (length l) (first_over l)) (RamByte k)) (sym (zero-add (first_over l))) ∙ found 0 l
