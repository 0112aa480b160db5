-- `text::put_numbers` meets its contract: a space and a number a turn; what is left gives the whole.
-- Assumes nothing.
use mathlib.Core.Path.{◌≡◌}
use mathlib.Core.List.{List, [], ◌∷◌, ◌++◌}
use Prim.Native.Nat.{ℕ, ◌+◌, ◌<◌}
use lib.ListN.{length, get_or, drop, drop_of_length-le}
use Rattle.lemmas.proofs.Lists.{next}
use Rattle.log_sheet.specs.Logs.{decimal, spaced}
use Rattle.text.specs.Texts.{Puts}
use Rattle.text.proofs.Writing.{Writing, begin, rest-is, turn, done, room_for}
use Rattle.text.proofs.put_numbers.Goals as goal

-- number i after a space, and those after it
one_more : (numbers : List ℕ) (i : ℕ) → i < length numbers → spaced (drop i numbers) ≡ (32 ∷ []) ++ (decimal (get_or numbers i 0) ++ spaced (drop (i + 1) numbers))
unfolding spaced
one_more numbers i h = rw (next numbers i h)

pub put_byte-after-requires : goal.put_byte-after-requires
put_byte-after-requires c = room_for (32 ∷ []) _ (rest-is c.loop-number.invariant (one_more c.args.numbers.now c.loop-number.number-index c.loop-number-test.true))

-- a space is written, and the number is the next part
after-space : (numbers : List ℕ) (i : ℕ) {at₀ place place₂ : ℕ} {whole out₀ out out₂ : List ℕ} → Writing at₀ whole out₀ place (spaced (drop i numbers)) out → i < length numbers → Puts place (32 ∷ []) out out₂ place₂ → Writing at₀ whole out₀ place₂ (decimal (get_or numbers i 0) ++ spaced (drop (i + 1) numbers)) out₂
after-space numbers i w h p = turn (rest-is w (one_more numbers i h)) p

pub put_decimal-place-requires : goal.put_decimal-place-requires
put_decimal-place-requires c = room_for (decimal _) _ (after-space c.args.numbers.now c.loop-number.number-index c.loop-number.invariant c.loop-number-test.true c.put_byte-after.ensures)

pub loop-number-preserved : goal.loop-number-preserved
loop-number-preserved c = turn (after-space c.args.numbers.now c.loop-number.number-index c.loop-number.invariant c.loop-number-test.true c.put_byte-after.ensures) c.put_decimal-place.ensures

pub returns : goal.returns
unfolding spaced
returns c = done (rest-is c.loop-number.invariant (rw (drop_of_length-le c.args.numbers.now c.loop-number-test.false)))

pub loop-number-init : goal.loop-number-init
loop-number-init c = begin _ _ _ c.requires
