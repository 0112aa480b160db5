-- `packed_words::put_twelve` meets its contract: four bytes, and then two.
-- Assumes nothing.
use mathlib.Core.Path.{◌≡◌, refl, ap, ap₂, ◌∙◌}
use mathlib.Core.List.{List}
use Prim.Native.Nat.{ℕ, ◌+◌, ◌/◌, ◌%◌}
use native.Mathlib.Omega.{arith}
use Rattle.sheet.specs.Data.{changed}
use Rattle.words.specs.Fields.{column_of, mixed, merged}
use Rattle.packed_words.proofs.put_twelve.Goals as goal

-- a byte of the word at its own place, the rows computed
at_byte : (r : ℕ) (a b i j : ℕ) {l m : List ℕ} → a ≡ b → i ≡ j → l ≡ m → changed (mixed r a) i l ≡ changed (mixed r b) j m
at_byte r a b i j {l} ea ei el = ap₂ (λ (x y : ℕ). changed (mixed r x) y l) ea ei ∙ ap (changed (mixed r b) j) el

both_words : (t at : ℕ) (ram : List ℕ) → merged 2 0x3773 (t / 4294967296) (at + 4) (merged 4 0x77377377 (t % 4294967296) at ram) ≡ merged 6 0x377377377377 t at ram
unfolding merged column_of
both_words t at ram =
    at_byte 0x37 (t / 4294967296 / 256 % 256) (t / 1099511627776 % 256) (at + 4 + 1) (at + 5) (omega arith) (omega arith)
    (at_byte 0x73 (t / 4294967296 / 1 % 256) (t / 4294967296 % 256) (at + 4 + 0) (at + 4) (omega arith) (omega arith)
    (at_byte 0x77 (t % 4294967296 / 16777216 % 256) (t / 16777216 % 256) (at + 3) (at + 3) (omega arith) (omega arith)
    (at_byte 0x37 (t % 4294967296 / 65536 % 256) (t / 65536 % 256) (at + 2) (at + 2) (omega arith) (omega arith)
    (at_byte 0x73 (t % 4294967296 / 256 % 256) (t / 256 % 256) (at + 1) (at + 1) (omega arith) (omega arith)
    (at_byte 0x77 (t % 4294967296 / 1 % 256) (t / 1 % 256) (at + 0) (at + 0) (omega arith) (omega arith) refl)))))

pub returns : goal.returns
returns c = let a = c.args in
    c.put_two.ensures ∙ ap (merged 2 0x3773 (a.t / 4294967296) (a.at + 4)) c.put_four.ensures ∙ both_words a.t a.at a.ram.now

pub overflow_cast-t-2 : goal.overflow_cast-t-2
overflow_cast-t-2 c = omega (arith, c.requires.1)
