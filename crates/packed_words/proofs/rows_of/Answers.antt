-- `packed_words::rows_of` meets its contract: computed for each mode and bank.
-- Assumes nothing.
use mathlib.Core.Path.{◌≡◌, sym, subst}
use Prim.Native.Nat.{ℕ, ◌+◌, ◌*◌, ◌<◌}
use native.Mathlib.Omega.{arith}
use lib.Dec.{T}
use Rattle.lemmas.proofs.Tests.{all, all-at}
use Rattle.sheet.specs.Registers.{bank_row}
use Rattle.packed_words.specs.Placed.{nibble_of, RowsWord}
use Rattle.packed_words.proofs.Tested.{rows_test, rows-tested}
use Rattle.packed_words.proofs.rows_of.Goals as goal

-- the word of each bank
in_bank : (k m bank : ℕ) (word : ℕ → ℕ) → m ≡ k → T (all 2 (λ b. rows_test k b (word b))) → bank < 2 → RowsWord m bank (word bank)
in_bank k m bank word e t l = subst (λ (n : ℕ). RowsWord n bank (word bank)) (sym e) (rows-tested k bank (word bank) (all-at 2 (λ b. rows_test k b (word b)) t bank l))

pub returns-in-1 : goal.returns-in-1
unfolding nibble_of bank_row
returns-in-1 c = in_bank 1 c.args.m c.args.bank (λ b. 286331153 * (1 + 3 * b)) c.in-1.is tt c.requires.2

pub returns-in-2 : goal.returns-in-2
unfolding nibble_of bank_row
returns-in-2 c = in_bank 2 c.args.m c.args.bank (λ b. 13107 * (1 + 3 * b)) c.in-2.is tt c.requires.2

pub returns-in-3 : goal.returns-in-3
unfolding nibble_of bank_row
returns-in-3 c = in_bank 3 c.args.m c.args.bank (λ b. 887) c.in-3.is tt c.requires.2

pub returns-in_default : goal.returns-in_default
unfolding nibble_of bank_row
returns-in_default c = in_bank 4 c.args.m c.args.bank (λ b. 255) (omega arith) tt c.requires.2
