-- 1:3 and 1:4: the rows of each column the other way round, in 1:3 of four bytes as one word.
-- Assumes nothing.
use mathlib.Core.Path.{◌≡◌, refl, ap, ap₂, ◌∙◌}
use mathlib.Core.Bool.{Bool}
use mathlib.Core.List.{List, [], ◌∷◌, ◌++◌, map, map-append}
use Prim.Native.Nat.{ℕ, zero, suc, ◌+◌, ◌*◌, ◌/◌, ◌%◌, ◌^◌, ◌<◌}
use native.Mathlib.Nat.{add-zero, mod-lt}
use native.Mathlib.Omega.{arith}
use lib.Bits.{bit_and, bit_or, and_mask, and_le_r, or_lt}
use lib.Dec.{eqb, eqb→eq}
use lib.ListN.{get_or}
use Rattle.lemmas.proofs.Tests.{all, all-at}
use Rattle.writer_sheet.specs.Writer.{bits_from, data_from}
use Rattle.writer_sheet.specs.Three.{pair_of}
use Rattle.words.specs.Fields.{field, joined}
use Rattle.gather.specs.Gathered.{pair_at, pairs_at, turned_three, turned_four}
use Rattle.gather.proofs.Lows.{low-whole, low-none, turned, turned-six, low_bits}
use Rattle.words.proofs.Bytewise.{joined-alike, and-joined, or-joined, scaled, summed, exchanged, exchange}

exchanged-small : (m e x : ℕ) → m < 256 → bit_and x m * 2 ^ e < 256 → exchanged m e x < 256
exchanged-small m e x small high = or_lt 8 (bit_and x m * 2 ^ e) (bit_and (x / 2 ^ e) m) high (omega (arith, small, and_le_r (x / 2 ^ e) m))

-- ---- 1:4

abbrev four_right : ℕ → ℕ → Bool
four_right a b = eqb (turned_four (a * 16 + b)) (field (a + b * 16) 0 8)

four-right : (a b : ℕ) → a < 16 → b < 16 → turned_four (a * 16 + b) ≡ field (a + b * 16) 0 8
unfolding field
four-right a b h l = eqb→eq _ _ (all-at 16 (four_right a) (all-at 16 (λ k. all 16 (four_right k)) tt a h) b l)

side_by_side : (v : ℕ) (columns : List ℕ) → get_or columns v 0 % 16 + get_or columns (v + 1) 0 % 16 * 16 ≡ low_bits 8 4 0 v columns
side_by_side v columns =
    omega (arith, low-none 4 0 v columns, low-whole 4 v columns 0 4 (omega arith) _ (ap (λ (i : ℕ). get_or columns i 0) (add-zero v)), low-whole 4 v columns 1 4 (omega arith) _ (λ i. get_or columns (v + 1) 0))

four-byte : (v : ℕ) (columns : List ℕ) → turned_four (pair_at columns v) ≡ bits_from 8 4 0 v columns
four-byte v columns = four-right (get_or columns v 0 % 16) (get_or columns (v + 1) 0 % 16) (mod-lt (get_or columns v 0) (omega arith)) (mod-lt (get_or columns (v + 1) 0) (omega arith)) ∙ turned 4 0 v columns _ (side_by_side v columns)

pub pair_small : (columns : List ℕ) (c : ℕ) → pair_at columns c < 256
pair_small columns c = omega arith

pub four-turned : (n : ℕ) (columns : List ℕ) → map turned_four (pairs_at n columns) ≡ data_from n 4 0 columns
unfolding pairs_at data_from
four-turned zero columns = refl
four-turned (suc n) columns = map-append turned_four (pairs_at n columns) (pair_at columns (2 * n) ∷ []) ∙ ap₂ (λ (l : List ℕ) (x : ℕ). l ++ (x ∷ [])) (four-turned n columns) (four-byte (2 * n) columns)

-- ---- 1:3

-- a column from bit 5 on and one from bit 2 on
abbrev turned_two : ℕ → ℕ
turned_two x = bit_or (exchanged 0x24 2 x) (bit_and x 0x48)

turned-word : (q : ℕ → ℕ) → ((j : ℕ) → q j < 256) → turned_three (joined 4 q) ≡ joined 4 (λ j. turned_two (q j))
unfolding joined
turned-word q h =
    ap₂ bit_or (exchange 4 0x24 2 q (omega arith) (omega arith) h) (and-joined 4 q (λ j. 0x48) h (λ j. omega arith))
    ∙ or-joined 4 (λ j. exchanged 0x24 2 (q j)) (λ j. bit_and (q j) 0x48) (λ j. exchanged-small 0x24 2 (q j) (omega arith) (omega (arith, and_le_r (q j) 0x24))) (λ j. omega (arith, and_le_r (q j) 0x48))

-- every element: two columns, of which four rows each are there
abbrev spread : ℕ → ℕ
spread x = bit_and x 0x70 * 2 + bit_and x 7 * 4

abbrev two_right : ℕ → ℕ → Bool
two_right a b = eqb (turned_two (spread (a * 16 + b))) (field (a % 8 + b % 8 * 8) 0 8)

two-right : (a b : ℕ) → a < 16 → b < 16 → turned_two (spread (a * 16 + b)) ≡ field (a % 8 + b % 8 * 8) 0 8
unfolding field
two-right a b h l = eqb→eq _ _ (all-at 16 (two_right a) (all-at 16 (λ k. all 16 (two_right k)) tt a h) b l)

beside_two : (v : ℕ) (columns : List ℕ) → get_or columns v 0 % 16 % 8 + get_or columns (v + 1) 0 % 16 % 8 * 8 ≡ low_bits 6 3 0 v columns
beside_two v columns =
    omega (arith, low-none 3 0 v columns, low-whole 3 v columns 0 3 (omega arith) _ (ap (λ (i : ℕ). get_or columns i 0) (add-zero v)), low-whole 3 v columns 1 3 (omega arith) _ (λ i. get_or columns (v + 1) 0))

two-byte : (v : ℕ) (columns : List ℕ) → turned_two (spread (pair_at columns v)) ≡ pair_of columns v
two-byte v columns = two-right (get_or columns v 0 % 16) (get_or columns (v + 1) 0 % 16) (mod-lt (get_or columns v 0) (omega arith)) (mod-lt (get_or columns (v + 1) 0) (omega arith)) ∙ turned-six 3 0 v columns _ (beside_two v columns)

abbrev pub spread_four : ℕ → ℕ
spread_four w = bit_and w 0x70707070 * 2 + bit_and w 0x07070707 * 4

pub pair_words : (v : ℕ) (columns : List ℕ) → turned_three (spread_four (joined 4 (λ i. pair_at columns (v + 2 * i)))) ≡ joined 4 (λ i. pair_of columns (v + 2 * i))
unfolding joined
pair_words v columns =
    let q : ℕ → ℕ = λ i. pair_at columns (v + 2 * i) in
    let h : (i : ℕ) → q i < 256 = λ i. pair_small columns (v + 2 * i) in
    ap turned_three
    (ap₂ (λ (x y : ℕ). x * 2 + y * 4) (and-joined 4 q (λ j. 0x70) h (λ j. omega arith)) (and-joined 4 q (λ j. 7) h (λ j. omega arith))
    ∙ ap₂ ◌+◌ (scaled 4 (λ j. bit_and (q j) 0x70) 2) (scaled 4 (λ j. bit_and (q j) 7) 4) ∙ summed 4 (λ j. bit_and (q j) 0x70 * 2) (λ j. bit_and (q j) 7 * 4))
    ∙ turned-word (λ j. spread (q j)) (λ j. omega (arith, and_le_r (q j) 0x70, and_le_r (q j) 7))
    ∙ joined-alike 4 _ (λ i. pair_of columns (v + 2 * i)) (λ i. two-byte (v + 2 * i) columns)

-- wanted rows: three columns, of the last two rows
abbrev pub laid_out : ℕ → ℕ → ℕ
laid_out x y = bit_and x 0x07070707 * 32 + bit_and y 0x07070707 * 4

abbrev pub last_rows : ℕ → ℕ
last_rows z = bit_or (bit_and z 0x01010101 * 2) (bit_and (z / 2) 0x01010101)

abbrev by_three : ℕ → ℕ → ℕ → ℕ
by_three a b c = bit_or (turned_two (a * 32 + b * 4)) (exchanged 1 1 c)

abbrev three_right : ℕ → ℕ → ℕ → Bool
three_right a b c = eqb (by_three a b c) (field (a + b * 8 + c % 4 * 64) 0 8)

three-right : (a b c : ℕ) → a < 8 → b < 8 → c < 256 → by_three a b c ≡ field (a + b * 8 + c % 4 * 64) 0 8
unfolding field
three-right a b c h l k = eqb→eq _ _ (all-at 256 (three_right a b) (all-at 8 (λ j. all 256 (three_right a j)) (all-at 8 (λ i. all 8 (λ j. all 256 (three_right i j))) tt a h) b l) c k)

beside_three : (v : ℕ) (columns : List ℕ) → get_or columns v 0 % 8 + get_or columns (v + 1) 0 % 8 * 8 + get_or columns (v + 2) 0 % 4 * 64 ≡ low_bits 8 3 0 v columns
beside_three v columns =
    omega (arith, low-none 3 0 v columns, low-whole 3 v columns 0 3 (omega arith) _ (ap (λ (i : ℕ). get_or columns i 0) (add-zero v)), low-whole 3 v columns 1 3 (omega arith) _ (λ i. get_or columns (v + 1) 0), low-whole 3 v columns 2 2 (omega arith) _ (λ i. get_or columns (v + 2) 0))

-- one byte, as it is read
pub three-read : (v : ℕ) (columns : List ℕ) → field (get_or columns v 0 % 8 + get_or columns (v + 1) 0 % 8 * 8 + get_or columns (v + 2) 0 % 4 * 64) 0 8 ≡ bits_from 8 3 0 v columns
three-read v columns = turned 3 0 v columns _ (beside_three v columns)

pub three-words : (v : ℕ) (columns : List ℕ) → ((i : ℕ) → get_or columns i 0 < 256)
    → bit_or (turned_three (laid_out (joined 4 (λ i. get_or columns (v + 3 * i) 0)) (joined 4 (λ i. get_or columns (v + 3 * i + 1) 0)))) (last_rows (joined 4 (λ i. get_or columns (v + 3 * i + 2) 0)))
    ≡ joined 4 (λ i. bits_from 8 3 0 (v + 3 * i) columns)
unfolding joined
three-words v columns h =
    let a : ℕ → ℕ = λ i. get_or columns (v + 3 * i) 0 in
    let b : ℕ → ℕ = λ i. get_or columns (v + 3 * i + 1) 0 in
    let c : ℕ → ℕ = λ i. get_or columns (v + 3 * i + 2) 0 in
    let low : (p : ℕ → ℕ) → ((i : ℕ) → p i < 256) → bit_and (joined 4 p) 0x07070707 ≡ joined 4 (λ i. p i % 8) = λ p l. and-joined 4 p (λ i. 7) l (λ i. omega arith) ∙ joined-alike 4 _ (λ i. p i % 8) (λ i. and_mask (p i) 3) in
    let both : laid_out (joined 4 a) (joined 4 b) ≡ joined 4 (λ i. a i % 8 * 32 + b i % 8 * 4) =
    ap₂ (λ (x y : ℕ). x * 32 + y * 4) (low a (λ i. h (v + 3 * i))) (low b (λ i. h (v + 3 * i + 1)))
    ∙ ap₂ ◌+◌ (scaled 4 (λ i. a i % 8) 32) (scaled 4 (λ i. b i % 8) 4) ∙ summed 4 (λ i. a i % 8 * 32) (λ i. b i % 8 * 4) in
    let two : (i : ℕ) → exchanged 1 1 (c i) < 256 = λ i. exchanged-small 1 1 (c i) (omega arith) (omega (arith, and_le_r (c i) 1)) in
    let six : (i : ℕ) → turned_two (a i % 8 * 32 + b i % 8 * 4) < 256 =
    λ i. let x = a i % 8 * 32 + b i % 8 * 4 in or_lt 8 (exchanged 0x24 2 x) (bit_and x 0x48) (exchanged-small 0x24 2 x (omega arith) (omega (arith, and_le_r x 0x24))) (omega (arith, and_le_r x 0x48)) in
    ap₂ bit_or (ap turned_three both ∙ turned-word (λ i. a i % 8 * 32 + b i % 8 * 4) (λ i. omega arith)) (exchange 4 1 1 c (omega arith) (omega arith) (λ i. h (v + 3 * i + 2)))
    ∙ or-joined 4 (λ i. turned_two (a i % 8 * 32 + b i % 8 * 4)) (λ i. exchanged 1 1 (c i)) six two
    ∙ joined-alike 4 _ (λ i. bits_from 8 3 0 (v + 3 * i) columns)
    (λ i. three-right (a i % 8) (b i % 8) (c i) (mod-lt (a i) (omega arith)) (mod-lt (b i) (omega arith)) (h (v + 3 * i + 2)) ∙ three-read (v + 3 * i) columns)
