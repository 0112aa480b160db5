-- `hexadecimal::put_text` meets its contract: two digits a turn; what is left gives the whole.
-- Assumes nothing.
use mathlib.Core.Path.{◌≡◌, sym, ap}
use mathlib.Core.List.{List, [], ◌∷◌, ◌++◌}
use Prim.Native.Nat.{ℕ, ◌+◌, ◌/◌, ◌%◌, ◌<◌}
use native.Mathlib.Omega.{arith}
use lib.ListN.{length, get_or, drop, drop_of_length-le}
use Rattle.lemmas.proofs.Lists.{next}
use Rattle.image_sheet.specs.Hex.{digit_of, text_of}
use Rattle.text.specs.Texts.{Puts}
use Rattle.text.proofs.Writing.{Writing, begin, rest-is, turn, done, room_for}
use Rattle.hexadecimal.proofs.put_text.Goals as goal

-- the digits of byte i, and those after it
one_more : (bytes : List ℕ) (i x : ℕ) → i < length bytes → x ≡ digit_of (get_or bytes i 0 / 16) → text_of (drop i bytes) ≡ (x ∷ []) ++ (digit_of (get_or bytes i 0 % 16) ∷ text_of (drop (i + 1) bytes))
unfolding text_of
one_more bytes i x h e = rw (next bytes i h, e)

pub digit_of-requires : goal.digit_of-requires
digit_of-requires c = omega (arith, c.type_inv.bytes c.loop-byte.byte-index)

-- byte i is next, its first digit x
first : (bytes : List ℕ) (i x : ℕ) {at₀ at : ℕ} {whole out₀ out : List ℕ} → Writing at₀ whole out₀ at (text_of (drop i bytes)) out → i < length bytes → x ≡ digit_of (get_or bytes i 0 / 16) → Writing at₀ whole out₀ at ((x ∷ []) ++ (digit_of (get_or bytes i 0 % 16) ∷ text_of (drop (i + 1) bytes))) out
first bytes i x w h e = rest-is w (one_more bytes i x h e)

-- and then its second one, y
second : (bytes : List ℕ) (i x y : ℕ) {at₀ at half : ℕ} {whole out₀ out out₂ : List ℕ} → Writing at₀ whole out₀ at (text_of (drop i bytes)) out → i < length bytes → x ≡ digit_of (get_or bytes i 0 / 16) → Puts at (x ∷ []) out out₂ half → y ≡ digit_of (get_or bytes i 0 % 16) → Writing at₀ whole out₀ half ((y ∷ []) ++ text_of (drop (i + 1) bytes)) out₂
second bytes i x y w h e p f = rest-is (turn (first bytes i x w h e) p) (ap (λ (k : ℕ). k ∷ text_of (drop (i + 1) bytes)) (sym f))

pub put_byte-half-requires : goal.put_byte-half-requires
put_byte-half-requires c = room_for (_ ∷ []) _ (first c.args.bytes.now c.loop-byte.byte-index c.digit_of.result c.loop-byte.invariant c.loop-byte-test.true c.digit_of.ensures)

pub put_byte-place-requires : goal.put_byte-place-requires
put_byte-place-requires c = room_for (_ ∷ []) _ (second c.args.bytes.now c.loop-byte.byte-index c.digit_of.result c.digit_of-in-loop-byte.result c.loop-byte.invariant c.loop-byte-test.true c.digit_of.ensures c.put_byte-half.ensures c.digit_of-in-loop-byte.ensures)

pub loop-byte-preserved : goal.loop-byte-preserved
loop-byte-preserved c = turn (second c.args.bytes.now c.loop-byte.byte-index c.digit_of.result c.digit_of-in-loop-byte.result c.loop-byte.invariant c.loop-byte-test.true c.digit_of.ensures c.put_byte-half.ensures c.digit_of-in-loop-byte.ensures) c.put_byte-place.ensures

pub returns : goal.returns
unfolding text_of
returns c = done (rest-is c.loop-byte.invariant (rw (drop_of_length-le c.args.bytes.now c.loop-byte-test.false)))

pub loop-byte-init : goal.loop-byte-init
loop-byte-init c = begin _ _ _ c.requires
