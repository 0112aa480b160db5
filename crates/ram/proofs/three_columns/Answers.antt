-- `ram::three_columns` meets its contract: computed for each of the 256 bytes.
-- Assumes nothing.
use mathlib.Core.Path.{◌≡◌, ap₂, ◌∙◌}
use mathlib.Core.Bool.{Bool, ◌&&◌}
use mathlib.Core.List.{List}
use Prim.Native.Nat.{ℕ, ◌+◌, ◌/◌, ◌%◌, ◌<◌}
use native.Mathlib.Omega.{arith}
use lib.Dec.{T, ltb, ltb→lt, eqb, eqb→eq}
use lib.ListN.{get_or}
use Rattle.lemmas.proofs.Tests.{all-at, and_left, and_right}
use Rattle.words.specs.Fields.{field, three_columns}
use Rattle.ram.specs.Tables.{first_bits, last_bits}
use Rattle.ram.proofs.three_columns.Goals as goal

unfoldable word : ℕ → ℕ
word x = get_or first_bits (x / 16) 0 + get_or last_bits (x % 16) 0

unfoldable right : ℕ → Bool
right x = ltb (word x) 16777216 && eqb (word x) (three_columns x)

all_right : (x : ℕ) → x < 256 → T (right x)
unfolding right word first_bits last_bits three_columns field
all_right x h = all-at 256 right tt x h

word_lt : (x : ℕ) → x < 256 → word x < 16777216
unfolding right
word_lt x h = ltb→lt (word x) 16777216 (and_left (ltb (word x) 16777216) (eqb (word x) (three_columns x)) (all_right x h))

word-is : (x : ℕ) → x < 256 → word x ≡ three_columns x
unfolding right
word-is x h = eqb→eq (word x) (three_columns x) (and_right (ltb (word x) 16777216) (eqb (word x) (three_columns x)) (all_right x h))

-- what is looked up in the tables
looked-up : (x : ℕ) {first last : List ℕ} → first ≡ first_bits → last ≡ last_bits → get_or first (x / 16) 0 + get_or last (x % 16) 0 ≡ word x
unfolding word
looked-up x f l = ap₂ (λ (f l : List ℕ). get_or f (x / 16) 0 + get_or l (x % 16) 0) f l

pub overflow_add-result : goal.overflow_add-result
overflow_add-result c = omega (arith, looked-up c.args.x c.requires.0 c.requires.1, word_lt c.args.x c.ranges.x.fits)

pub returns : goal.returns
returns c = let x = c.args.x in
    (looked-up x c.requires.0 c.requires.1 ∙ word-is x c.ranges.x.fits, omega (arith, looked-up c.args.x c.requires.0 c.requires.1, word_lt x c.ranges.x.fits))
