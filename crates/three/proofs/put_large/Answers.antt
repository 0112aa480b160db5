-- `three::put_large` meets its contract: two words.
-- Assumes nothing.
use mathlib.Core.Path.{◌≡◌, sym, ap, ap₂, ◌∙◌}
use mathlib.Core.List.{List, ◌++◌}
use Prim.Native.Nat.{ℕ, ◌+◌, ◌/◌, ◌%◌}
use native.Mathlib.Omega.{arith}
use lib.ListN.{length, take, drop}
use lib.Seq.{length-take-le}
use Rattle.lemmas.proofs.Lists.{after_first}
use Rattle.three.proofs.Placed.{word_bytes}
use Rattle.three.proofs.put_large.Goals as goal

four : (out : List ℕ) → length out ≡ 8 → length (take 4 out) ≡ 4
four out h = length-take-le 4 out (omega arith)

pub returns : goal.returns
returns c = let a = c.args in
    after_first c.put_word.new.out (drop 4 a.out.now) c.put_word-2.new.out 4 (ap length c.put_word.ensures)
    ∙ ap₂ (λ (x y : List ℕ). x ++ y)
    (c.put_word.ensures ∙ word_bytes _ 0x80 (0xE0 + a.chip) 0x80 (a.p / 16) (omega arith) (omega arith) (omega (arith, c.requires.0)) (omega arith) (omega (arith, c.requires.1)))
    (c.put_word-2.ensures ∙ word_bytes _ 0x80 (0x40 + a.p % 16) 0xC0 a.x (omega arith) (omega arith) (omega arith) (omega arith) c.requires.2)

pub slice_bounds-put_word-end-2 : goal.slice_bounds-put_word-end-2
slice_bounds-put_word-end-2 c = sym (four c.args.out.now c.requires.3)

pub put_word-requires : goal.put_word-requires
put_word-requires c = four c.args.out.now c.requires.3
