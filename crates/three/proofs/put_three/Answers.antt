-- `three::put_three` meets its contract: three bytes, then those of the columns.
-- Assumes nothing.
use mathlib.Core.Path.{◌≡◌, ap, ap₂, ◌∙◌}
use mathlib.Core.List.{List, [], ◌∷◌, ◌++◌}
use Prim.Native.Nat.{ℕ, ◌+◌, ◌-◌, ◌*◌, ◌≤◌}
use native.Mathlib.Omega.{arith}
use lib.ListN.{length, take, drop, set, length-set, length-drop, length-append}
use lib.Seq.{take_at, sets-eq}
use Rattle.lemmas.proofs.Lists.{part-rest, end-replaced}
use Rattle.three.proofs.put_three.Goals as goal

-- the first three bytes set
abbrev headed : ℕ → ℕ → List ℕ → List ℕ
headed a m l = set (set (set l 0 a) 1 0x80) 2 m

head-is : (a m : ℕ) (l : List ℕ) → 3 ≤ length l → take 3 (headed a m l) ≡ a ∷ 0x80 ∷ m ∷ []
head-is a m l h = ap (take 3) (sets-eq (a ∷ 0x80 ∷ m ∷ []) l 0 (omega arith)) ∙ take_at (a ∷ 0x80 ∷ m ∷ []) (drop (0 + 3) l) 3 (λ i. 3)

length_rest : (a m : ℕ) (l : List ℕ) → let k = headed a m l in length (take (length k - 3) (drop 3 k)) ≡ length l - 3
length_rest a m l = let k = headed a m l in ap length (part-rest k 3) ∙ length-drop 3 k ∙ simp length-set (omega arith)

pub put_pairs-requires : goal.put_pairs-requires
put_pairs-requires c = record { there = c.requires.3.there; chips = c.requires.3.chips; room = length_rest (112 + 2 * c.args.group) c.mode_set.result c.args.out.now ∙ omega (arith, c.requires.3.room) }

pub returns : goal.returns
returns c = let a = c.args in
    end-replaced (headed (112 + 2 * a.group) c.mode_set.result a.out.now) c.put_pairs.new.out 3
    ∙ ap₂ (λ (x y : List ℕ). x ++ y) (head-is (112 + 2 * a.group) c.mode_set.result a.out.now (omega (arith, c.requires.3.room)) ∙ ap (λ (x : ℕ). (112 + 2 * a.group) ∷ 0x80 ∷ x ∷ []) c.mode_set.ensures) c.put_pairs.ensures

pub shape_of-out : goal.shape_of-out
shape_of-out c = let a = c.args in
    let l = headed (112 + 2 * a.group) c.mode_set.result a.out.now in
    let rest = c.put_pairs.new.out in
    ap length (end-replaced l rest 3) ∙ length-append (take 3 l) rest
    ∙ omega (arith, ap length (head-is (112 + 2 * a.group) c.mode_set.result a.out.now (omega (arith, c.requires.3.room))), c.put_pairs.auto.out, length_rest (112 + 2 * a.group) c.mode_set.result a.out.now, c.requires.3.room)

pub overflow_mul-out : goal.overflow_mul-out
overflow_mul-out c = omega (arith, c.requires.0)

pub overflow_add-out : goal.overflow_add-out
overflow_add-out c = omega (arith, c.requires.0)

pub bounds-out-0 : goal.bounds-out-0
bounds-out-0 c = omega (arith, c.requires.3.room)

pub bounds-out-1 : goal.bounds-out-1
bounds-out-1 c = simp length-set (omega (arith, c.requires.3.room))

pub mode_set-requires : goal.mode_set-requires
mode_set-requires c = (c.requires.1, c.requires.2, omega arith)

pub bounds-out-2 : goal.bounds-out-2
bounds-out-2 c = simp length-set (omega (arith, c.requires.3.room))

pub slice_bounds-put_pairs-count : goal.slice_bounds-put_pairs-count
slice_bounds-put_pairs-count c = simp length-set (omega (arith, c.requires.3.room))

pub slice_bounds-put_pairs-start : goal.slice_bounds-put_pairs-start
slice_bounds-put_pairs-start c = simp length-set (omega (arith, c.requires.3.room))
