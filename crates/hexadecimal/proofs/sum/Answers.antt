-- `hexadecimal::sum` meets its contract: what a fold of sums modulo 256 gives.
-- Assumes nothing.
use Rattle.std.proofs.Common.{◌≡◌, ◌∙◌, List, [], ◌∷◌, ℕ, ◌+◌, ◌%◌, ◌<◌, rules, arith, zero-add}
use Rattle.std.specs.Prelude.{fold}
use Rattle.std.proofs.iter.runs.Made.{chains}
use Rattle.image_sheet.specs.Hex.{sum_of}
use Rattle.hexadecimal.proofs.sum.Goals as goal

-- a sum so far, and what is left
summed : (l : List ℕ) (s : ℕ) → s < 256 → fold (λ (t x : ℕ). (t + x) % 256) s l ≡ (s + sum_of l) % 256
unfolding sum_of
summed [] s h = omega arith
summed (x ∷ xs) s h = summed xs ((s + x) % 256) (omega arith) ∙ omega arith

pub returns : goal.returns
returns c = (let told : c.fold.result ≡ fold (λ (t x : ℕ). (t + x) % 256) 0 c.args.bytes.now = search (rules, chains) in rw (← zero-add (sum_of c.args.bytes.now)) (told ∙ summed c.args.bytes.now 0 (omega arith)))
