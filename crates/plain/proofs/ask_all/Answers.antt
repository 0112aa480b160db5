-- ask_all: from the last chip to the first, each says what it and those after it say.
-- Assumes nothing.
use Rattle.std.proofs.Common.{◌≡◌, ◌∙◌, List, [], ◌∷◌, ◌++◌, ℕ, refl, sym, ap, append_assoc, rules, tests}
use Rattle.std.specs.Prelude.{reverse}
use Rattle.std.specs.List.{fold}
use Rattle.std.proofs.lemmas.Iterator.Adapters.{YieldsList-from_rev_slice}
use Rattle.std.proofs.lemmas.Iterator.Consumers.{fold_from_yields_List}
use Rattle.sheet.specs.declared.Chip.{Chip}
use Rattle.turns.specs.declared.BusByte.{BusByte}
use Rattle.turns.specs.declared.Said.{Said}
use Rattle.turns.specs.Asking.{nothing_said, said_with, said_by}
use Rattle.plain.proofs.ask_all.Goals as goal

fold_last : (f : Said → Chip → Said) (a : Said) (xs : List Chip) (x : Chip) → fold f a (xs ++ (x ∷ [])) ≡ f (fold f a xs) x
fold_last f a [] x = refl
fold_last f a (y ∷ ys) x = fold_last f (f a y) ys x

-- a list from its end: the first is the last
onto : (xs tail : List Chip) → fold (λ (r : List Chip) (x : Chip). x ∷ r) tail xs ≡ reverse xs ++ tail
onto [] tail = refl
onto (x ∷ xs) tail = onto xs (x ∷ tail) ∙ sym (ap (λ (l : List Chip). l ++ tail) (onto xs (x ∷ [])) ∙ append_assoc (reverse xs) (x ∷ []) tail)

from-end : (h : BusByte) (most : ℕ) (cs : List Chip) → fold (λ (s : Said) (c : Chip). said_with h c s) (nothing_said most) (reverse cs) ≡ said_by h most cs
unfolding said_by
from-end h most [] = refl
from-end h most (c ∷ cs) =
    ap (fold (λ (s : Said) (d : Chip). said_with h d s) (nothing_said most)) (onto cs (c ∷ []))
    ∙ fold_last (λ (s : Said) (d : Chip). said_with h d s) (nothing_said most) (reverse cs) c ∙ ap (said_with h c) (from-end h most cs)

pub returns : goal.returns
returns c =
    let cs = c.args.chips.now in
    let f : Said → Chip → Said = λ s d. said_with c.args.heard d s in
    let told : c.fold.result ≡ fold f c.nothing_said.result (reverse cs) = fold_from_yields_List _ f c.nothing_said.result c.fold.result c.fold.ensures.ran (YieldsList-from_rev_slice cs cc) (λ a x b q k. search (rules, tests)) in
    told ∙ ap (λ (s : Said). fold f s (reverse cs)) c.nothing_said.ensures ∙ from-end c.args.heard c.args.most cs
