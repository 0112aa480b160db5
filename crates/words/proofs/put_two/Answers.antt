-- `words::put_two` meets its contract: the word of two columns, mixed and stored.
-- Assumes nothing.
use mathlib.Core.Path.{◌≡◌, ap, ◌∙◌}
use mathlib.Core.List.{List}
use Prim.Native.Nat.{ℕ, ◌+◌}
use native.Mathlib.Nat.{add-zero}
use native.Mathlib.Omega.{arith}
use lib.ListN.{get_or, take}
use Rattle.words.specs.Fields.{joined, laid, mixed}
use Rattle.words.proofs.Words.{word-merged}
use Rattle.words.proofs.Stored.{stored-two}
use Rattle.words.proofs.put_two.Goals as goal

pub returns : goal.returns
unfolding mixed joined
returns c = let a = c.args in
    let ram = a.ram.now in
    let old : c.from_le_bytes-old.result ≡ joined 2 (λ j. get_or ram (a.at + j) 0) = rw (add-zero a.at) (omega (arith, c.from_le_bytes-old.ensures)) in
    stored-two (mixed a.rows a.t c.from_le_bytes-old.result) a.at ram _ c.requires (c.copy_from_slice.ensures.after ∙ ap (λ (l : List ℕ). take 2 l) c.to_le_bytes.ensures)
    ∙ ap (λ (w : ℕ). laid 2 (mixed a.rows a.t w) a.at ram) old
    ∙ word-merged 2 a.rows a.t a.at ram (λ i. (c.slice_known-1.given i).fits)
