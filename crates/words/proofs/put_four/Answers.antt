-- `words::put_four` meets its contract: the word of four columns, mixed and stored.
-- Assumes nothing.
use mathlib.Core.Path.{ap, ◌∙◌}
use Prim.Native.Nat.{ℕ}
use Rattle.words.specs.Fields.{laid, mixed}
use Rattle.words.proofs.Words.{word-merged}
use Rattle.words.proofs.put_four.Goals as goal

pub returns : goal.returns
unfolding mixed
returns c = let a = c.args in
    let ram = a.ram.now in
    c.store_four.ensures
    ∙ ap (λ (w : ℕ). laid 4 (mixed a.rows a.t w) a.at ram) c.four_columns-old.ensures
    ∙ word-merged 4 a.rows a.t a.at ram (λ i. (c.slice_known-1.given i).fits)
