-- `three::put_small` meets its contract: a word and two bytes.
-- Assumes nothing.
use mathlib.Core.Path.{◌≡◌, sym, ap, ap₂, ◌∙◌}
use mathlib.Core.List.{List, [], ◌∷◌, ◌++◌, append-nil}
use Prim.Native.Nat.{ℕ, ◌+◌}
use native.Mathlib.Omega.{arith}
use lib.ListN.{length, take, drop, length-set, length-append, length-drop, drop_of_length-le}
use lib.Seq.{length-take-le, take_at, sets, sets-eq}
use Rattle.three.proofs.Placed.{word_bytes}
use Rattle.three.proofs.put_small.Goals as goal

four : (out : List ℕ) → length out ≡ 6 → length (take 4 out) ≡ 4
four out h = length-take-le 4 out (omega arith)

-- four bytes, and the last two of six set
six : (first out : List ℕ) (x y : ℕ) → length first ≡ 4 → length out ≡ 6 → let l = first ++ drop 4 out in (length l ≡ 6) × (sets l 4 (x ∷ y ∷ []) ≡ first ++ (x ∷ y ∷ []))
six first out x y e f =
    let l = first ++ drop 4 out in
    let long : length l ≡ 6 = length-append first (drop 4 out) ∙ omega (arith, e, length-drop 4 out, f) in (
      long,
      sets-eq (x ∷ y ∷ []) l 4 (omega (arith, long)) ∙ ap₂ (λ (p r : List ℕ). p ++ (x ∷ y ∷ []) ++ r) (take_at first (drop 4 out) 4 e) (drop_of_length-le l {i = 6} (omega (arith, long)))
          ∙ append-nil (first ++ (x ∷ y ∷ [])),
    )

pub returns : goal.returns
returns c = let a = c.args in
    (six c.put_word.new.out c.args.out.now 0xC0 c.args.x (ap length c.put_word.ensures) c.requires.3).1
    ∙ ap (λ (l : List ℕ). l ++ (0xC0 ∷ a.x ∷ []))
    (c.put_word.ensures ∙ word_bytes _ 0x80 (0xE0 + a.chip) 0x80 a.p (omega arith) (omega arith) (omega (arith, c.requires.0)) (omega arith) (omega (arith, c.requires.1)))

pub slice_bounds-put_word-end-2 : goal.slice_bounds-put_word-end-2
slice_bounds-put_word-end-2 c = sym (four c.args.out.now c.requires.3)

pub put_word-requires : goal.put_word-requires
put_word-requires c = four c.args.out.now c.requires.3

pub bounds-out-4 : goal.bounds-out-4
bounds-out-4 c = omega (arith, (six c.put_word.new.out c.args.out.now 0xC0 c.args.x (ap length c.put_word.ensures) c.requires.3).0)

pub bounds-out-5 : goal.bounds-out-5
bounds-out-5 c = simp length-set (omega (arith, (six c.put_word.new.out c.args.out.now 0xC0 c.args.x (ap length c.put_word.ensures) c.requires.3).0))
