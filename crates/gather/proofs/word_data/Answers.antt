-- `gather::word_data` meets its contract: four bytes a turn.
-- Assumes nothing.
use mathlib.Core.Path.{◌≡◌, sym, ap, ◌∙◌}
use Prim.Native.Nat.{ℕ, ◌+◌, ◌*◌, ◌/◌, ◌≤◌, ◌<◌}
use native.Mathlib.Nat.{add-sub_cancel_left, mul-add}
use native.Mathlib.Omega.{arith}
use lib.ListN.{length}
use Rattle.writer_sheet.specs.Writer.{bits_from}
use Rattle.words.proofs.Bytewise.{joined-alike}
use Rattle.gather.proofs.Gathering.{begun, turn-four}
use Rattle.gather.proofs.word_data.Goals as goal

-- four bytes and their columns are left
fits : (four n size : ℕ) → four < n / 4 → 3 * n ≤ size → (4 * four + 4 ≤ n) × (3 * (4 * four) + 12 ≤ size)
fits four n size h fit = (omega arith, omega arith)

pub loop-four-init : goal.loop-four-init
loop-four-init c = begun

pub loop-four-preserved : goal.loop-four-preserved
loop-four-preserved c = let j = 4 * c.loop-four.four in
    let next : 4 * (c.loop-four.four + 1) ≡ j + 4 = omega arith in
    rw (next, add-sub_cancel_left j 4) (turn-four (fits c.loop-four.four (length c.args.out.now) (length c.args.columns.now) c.loop-four-test.true c.requires.fit).0 (c.three_bytes-word.ensures ∙ joined-alike 4 _ _ (λ k. ap (λ (v : ℕ). bits_from 8 3 0 v c.args.columns.now) (sym (mul-add 3 j k)))) c.put_word.ensures c.loop-four.invariant)
