-- Text written into a lent buffer.
-- Assumes nothing.
use Rattle.std.specs.Prelude.{◌≡◌, List, ℕ, ◌+◌, length}
use Rattle.std.proofs.lemmas.List.Edits.{sets}

-- a buffer with the text's bytes from a place on, the others kept
unfoldable pub written : ℕ → List ℕ → List ℕ → List ℕ
written at text out = sets out at text

-- what a writer does: the buffer after it, and the place after the text
pub record Puts (at : ℕ) (text before after : List ℕ) (end : ℕ) : Type 0 where
  pub out : after ≡ written at text before
  pub place : end ≡ at + length text
