-- `words::put_twelve` meets its contract: three words of four columns.
-- Assumes nothing.
use mathlib.Core.Path.{ap, ◌∙◌}
use mathlib.Core.List.{List}
use Prim.Native.Nat.{ℕ, ◌+◌, ◌*◌, ◌/◌, ◌%◌}
use Rattle.words.specs.Fields.{merged}
use Rattle.words.proofs.Words.{twelve}
use Rattle.words.proofs.put_twelve.Goals as goal

pub returns : goal.returns
returns c = let a = c.args in
    c.put_four-3.ensures
    ∙ ap (λ (l : List ℕ). merged 4 0x03070703 (a.c / 65536 + 256 * a.d) (a.at + 8) l)
    (c.put_four-2.ensures ∙ ap (λ (l : List ℕ). merged 4 0x07070307 (a.b / 256 + 65536 * (a.c % 65536)) (a.at + 4) l) c.put_four.ensures)
    ∙ twelve a.at a.a a.b a.c a.d a.ram.now c.requires.1 c.requires.2 c.requires.3 c.requires.4
