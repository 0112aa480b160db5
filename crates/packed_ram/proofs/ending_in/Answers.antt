-- `packed_ram::ending_in` meets its contract: computed for each mode, bank and column.
-- Assumes nothing.
use mathlib.Core.Path.{◌≡◌, ap, ◌∙◌}
use Prim.Native.Nat.{ℕ, ◌-◌, ◌/◌, ◌^◌, ◌<◌}
use native.Mathlib.Omega.{arith}
use lib.Dec.{eqb, eqb→eq}
use Rattle.lemmas.proofs.Tests.{all, all-at}
use Rattle.sheet.specs.Registers.{bank_row}
use Rattle.laws.proofs.Ranges.{bank-rows-fit}
use Rattle.words.specs.Fields.{with_rows, field}
use Rattle.packed_ram.specs.Stream.{ending}
use Rattle.packed_ram.proofs.ending_in.Goals as goal

-- the bits of a column's rows in the other order, as the last of a byte
unfoldable byte : ℕ → ℕ → ℕ → ℕ
byte m b q = field (q / 2 ^ b) 0 8 / 2 ^ (8 - m)

kept : (m bank q : ℕ) → m < 5 → bank < 2 → q < 16 → ending m (bank_row m bank) (byte m (bank_row m bank) q) q ≡ q
unfolding byte with_rows field bank_row
kept m bank q lm lb lq =
    eqb→eq (ending m (bank_row m bank) (byte m (bank_row m bank) q) q) q
    (all-at 16 (λ p. eqb (ending m (bank_row m bank) (byte m (bank_row m bank) p) p) p)
    (all-at 2 (λ b. all 16 (λ p. eqb (ending m (bank_row m b) (byte m (bank_row m b) p) p) p))
    (all-at 5 (λ n. all 2 (λ b. all 16 (λ p. eqb (ending n (bank_row n b) (byte n (bank_row n b) p) p) p))) tt m lm) bank lb) q lq)

-- a row's number is small
low : (m bank : ℕ) → m < 5 → bank < 2 → bank_row m bank < 8
low m bank lm lb = omega (arith, bank-rows-fit m bank lm lb)

pub returns : goal.returns
unfolding byte
returns c = let a = c.args in
    let b = bank_row a.m a.bank in
    ap (λ (y : ℕ). ending a.m b (y / 2 ^ (8 - a.m)) a.q) (c.reversed.ensures ∙ ap (λ (k : ℕ). field (a.q / 2 ^ k) 0 8) c.bank_row-b.ensures)
    ∙ kept a.m a.bank a.q c.requires.1 c.requires.2 c.requires.3

pub overflow_cast-b : goal.overflow_cast-b
overflow_cast-b c = omega (arith, c.bank_row-b.ensures, low c.args.m c.args.bank c.requires.1 c.requires.2)

pub overflow_shr-q : goal.overflow_shr-q
overflow_shr-q c = omega (arith, c.bank_row-b.ensures, low c.args.m c.args.bank c.requires.1 c.requires.2)

pub overflow_sub-result : goal.overflow_sub-result
overflow_sub-result c = omega (arith, c.requires.1)

pub overflow_cast-result : goal.overflow_cast-result
overflow_cast-result c = omega arith

pub overflow_shr-result : goal.overflow_shr-result
overflow_shr-result c = omega (arith, c.requires.0)
