-- `glyphs::byte_in` meets its contract.
-- Assumes nothing.
use mathlib.Core.Path.{ap, ◌∙◌}
use Prim.Native.Nat.{ℕ, ◌%◌}
use Rattle.glyphs.specs.Tables.{byte_at, byte_in}
use Rattle.glyphs.proofs.byte_in.Goals as goal

pub returns : goal.returns
unfolding byte_in
returns c = c.byte_at.ensures ∙ ap (λ (word : ℕ). byte_at word (c.args.k % 8)) c.number_with.ensures
