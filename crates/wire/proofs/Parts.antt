-- Lists of which a part is replaced, and lists element by element.
-- Assumes nothing.
use mathlib.Core.Path.{◌≡◌, refl, sym, ap, ap₂, ◌∙◌}
use mathlib.Core.List.{List, [], ◌∷◌, ◌++◌, append_assoc}
use Prim.Native.Nat.{ℕ, zero, suc, ◌-◌, ◌≤◌}
use native.Mathlib.Omega.{arith}
use lib.ListN.{length, get_or, set, take, drop, length-append}
use lib.Seq.{length-take-le, take_all, take-append-le, take_at, take-suc, take-take, drop_at, sets-eq}
use Rattle.lemmas.proofs.Lists.{end-replaced}

-- 160 columns, then two bytes, then b
pub chip-put : (a d b : List ℕ) (x y : ℕ) → length a ≡ 160 → 2 ≤ length d
    → let l = a ++ d in set (set (take 162 l ++ (b ++ drop (length l - 162) (drop 162 l))) 160 x) 161 y ≡ a ++ (x ∷ y ∷ b)
chip-put a d b x y e h =
    let front : length (take 162 (a ++ d)) ≡ 162 = length-take-le 162 (a ++ d) (omega (arith, length-append a d)) in
    let l = take 162 (a ++ d) ++ b in
    ap (λ (k : List ℕ). set (set k 160 x) 161 y) (end-replaced (a ++ d) b 162)
    ∙ sets-eq (x ∷ y ∷ []) l 160 (omega (arith, length-append (take 162 (a ++ d)) b)) ∙ append_assoc (take 160 l) (x ∷ y ∷ []) (drop 162 l)
    ∙ ap₂ (λ (p q : List ℕ). p ++ (x ∷ y ∷ q))
    (take-append-le 160 (take 162 (a ++ d)) b (omega arith) ∙ take-take 160 162 (a ++ d) (omega arith) ∙ take_at a d 160 e)
    (drop_at (take 162 (a ++ d)) b 162 front)

-- the first n elements, one after the other
abbrev pub firsts : ℕ → List ℕ → List ℕ
firsts zero l = []
firsts (suc n) l = firsts n l ++ (get_or l n 0 ∷ [])

take-firsts : (n : ℕ) (l : List ℕ) → n ≤ length l → take n l ≡ firsts n l
take-firsts zero l h = refl
take-firsts (suc n) l h = take-suc l n 0 h ∙ ap (λ (k : List ℕ). k ++ (get_or l n 0 ∷ [])) (take-firsts n l (omega arith))

-- of a list of n they are the list
pub firsts-all : (n : ℕ) (l : List ℕ) → length l ≡ n → firsts n l ≡ l
firsts-all n l e = sym (take-firsts n l (omega arith)) ∙ take_all n l (omega arith)
