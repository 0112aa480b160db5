-- A data byte's columns in packed columns are its bits in the columns.
-- Assumes nothing.
use mathlib.Core.Path.{◌≡◌, ap, ap₂, ◌∙◌}
use mathlib.Core.List.{List}
use Prim.Native.Nat.{ℕ, suc, ◌+◌, ◌-◌, ◌*◌, ◌/◌, ◌%◌, ◌^◌, ◌≤◌, ◌<◌}
use native.Mathlib.Numerals.{add-one}
use native.Mathlib.Nat.{add-zero, mul-suc, mul-le-mul_left, div-add-mod', div-le_self, div-one}
use native.Mathlib.Omega.{arith}
use lib.Dec.{lit≤}
use lib.ListN.{length, get_or, set}
use Rattle.sheet.specs.Registers.{bank_row}
use Rattle.sheet.specs.Data.{changed, put_bits, width_of}
use Rattle.packed_sheet.specs.Packed.{unpacked}
use Rattle.laws.proofs.Ranges.{bank-rows-fit}
use Rattle.laws.proofs.Runs.{changed-alike}
use Rattle.laws.proofs.Nibbles.{Nibbles, bits-nibbles}
use Rattle.laws.proofs.Packed.{columns-changed, length-unpacked}
use Rattle.words.specs.Fields.{with_rows, field, mixed, merged}
use Rattle.words.proofs.Fields.{field_lt}
use Rattle.words.proofs.Bytes as bytes
use Rattle.ram.proofs.Runs.{Running}
use Rattle.packed_words.specs.Placed.{nibble_of, placed, height, RowsWord, Word, twelve_rows}
use Rattle.packed_ram.specs.Stream.{ending}
use Rattle.packed_words.proofs.Placed.{merged-unpacked, placed-both, byte-placed}
use Rattle.packed_words.proofs.Tested.{rows-tested, puts}

-- a byte has at most eight columns
pub few : (m : ℕ) → width_of m ≤ 8
few m = omega (arith, div-le_self 7 m)

pub byte_put : (m bank x v r t : ℕ) (ram : List ℕ) → 0 < m → m < 5 → bank < 2 → Nibbles ram → RowsWord m bank r → Word m x t
    → placed (width_of m) r t v ram ≡ put_bits 8 m (bank_row m bank) v x ram
byte_put m bank x v r t ram some four two w er et = byte-placed m (bank_row m bank) x v r t ram some (bank-rows-fit m bank four two) w (puts m bank x r t four two er et)

-- from an even column on, as a word of n bytes that has just its columns
pub word-put : (n m bank x c r t : ℕ) (xs : List ℕ) → 2 * n ≡ width_of m → 0 < m → m < 5 → bank < 2 → Nibbles (unpacked xs) → RowsWord m bank r → Word m x t
    → unpacked (merged n r t c xs) ≡ put_bits 8 m (bank_row m bank) (2 * c) x (unpacked xs)
word-put n m bank x c r t xs e some four two w er et =
    merged-unpacked n r t c xs ∙ ap (λ (k : ℕ). placed k r t (2 * c) (unpacked xs)) e ∙ byte_put m bank x (2 * c) r t (unpacked xs) some four two w er et

-- ---- 1:3

three-rows : RowsWord 3 0 887
unfolding nibble_of bank_row
three-rows = rows-tested 3 0 887 tt

pub three-put : (x v t : ℕ) (ram : List ℕ) → Nibbles ram → Word 3 x t → placed 3 887 t v ram ≡ put_bits 8 3 0 v x ram
unfolding bank_row
three-put x v t ram w et = byte_put 3 0 x v 887 t ram (omega arith) (omega arith) (omega arith) w three-rows et

-- two bytes as one word
pair_put : (x y v t u : ℕ) (ram : List ℕ) → Nibbles ram → Word 3 x t → Word 3 y u → placed 6 3634039 (t + u * 4096) v ram ≡ put_bits 8 3 0 (v + 3) y (put_bits 8 3 0 v x ram)
pair_put x y v t u ram w et eu =
    let first = put_bits 8 3 0 v x ram in
    placed-both 3 887 t 887 u v ram (lit≤ tt) et.small 3
    ∙ ap (placed 3 887 u (v + 3)) (three-put x v t ram w et)
    ∙ three-put y (v + 3) u first (bits-nibbles 8 3 0 v x ram (omega arith) (omega arith) w) eu

-- four bytes as six packed ones
pub four-put : (x y z w c a b d e : ℕ) (xs : List ℕ) → Nibbles (unpacked xs) → Word 3 x a → Word 3 y b → Word 3 z d → Word 3 w e
    → unpacked (merged 6 twelve_rows (a + 4096 * b + 16777216 * (d + 4096 * e)) c xs)
    ≡ put_bits 8 3 0 (2 * c + 9) w (put_bits 8 3 0 (2 * c + 6) z (put_bits 8 3 0 (2 * c + 3) y (put_bits 8 3 0 (2 * c) x (unpacked xs))))
four-put x y z w c a b d e xs small ea eb ed ee =
    let v = 2 * c in
    let first = put_bits 8 3 0 v x (unpacked xs) in
    let both = put_bits 8 3 0 (v + 3) y first in
    let kept = bits-nibbles 8 3 0 (v + 3) y first (omega arith) (omega arith) (bits-nibbles 8 3 0 v x (unpacked xs) (omega arith) (omega arith) small) in
    let far : v + 6 + 3 ≡ v + 9 = omega arith in
    let word : a + 4096 * b + 16777216 * (d + 4096 * e) ≡ a + b * 4096 + (d + e * 4096) * 16777216 = omega arith in
    merged-unpacked 6 twelve_rows (a + 4096 * b + 16777216 * (d + 4096 * e)) c xs
    ∙ ap (λ (k : ℕ). placed 12 twelve_rows k v (unpacked xs)) word
    ∙ placed-both 6 3634039 (a + b * 4096) 3634039 (d + e * 4096) v (unpacked xs) (lit≤ tt) (omega (arith, ea.small, eb.small)) 6
    ∙ ap (placed 6 3634039 (d + e * 4096) (v + 6)) (pair_put x y v a b (unpacked xs) small ea eb)
    ∙ pair_put z w (v + 6) d e both kept ed ee
    ∙ ap (λ (k : ℕ). put_bits 8 3 0 k w (put_bits 8 3 0 (v + 6) z both)) far

-- a RAM under a run is as long as it was
pub as_long : (ram₀ ram : List ℕ) {m b v i : ℕ} {bytes : List ℕ} → Running m b v bytes (unpacked ram₀) (unpacked ram) i → length ram ≡ length ram₀
as_long ram₀ ram r = omega (arith, r.long, length-unpacked ram, length-unpacked ram₀)

-- byte i of some whose columns are all there has them
pub room : (w n i v size : ℕ) → 0 < w → w * n ≤ size - v → i < n → v + w * i + w ≤ size
room w n i v size some fit l = omega (arith, mul-suc w i, mul-le-mul_left {m = suc i} {n = n} w l)

-- 1:4 from an even column on: a packed byte is the data byte's bits in the other order
pub four-packed : (x c y : ℕ) (xs : List ℕ) → y ≡ field x 0 8 → Nibbles (unpacked xs) → unpacked (set xs c y) ≡ put_bits 8 4 0 (2 * c) x (unpacked xs)
unfolding changed
four-packed x c y xs told w =
    let l : y < 256 = rw told (field_lt x 0 8) in
    let whole : y ≡ y % 16 + 16 * (y / 16 % 16) = omega (arith, div-add-mod' y 16, div-add-mod' (y / 16) 16) in
    ap (λ (k : ℕ). unpacked (set xs c k)) whole
    ∙ columns-changed (λ q. y % 16) (λ q. y / 16 % 16) (λ q h. omega (arith, div-add-mod' y 16)) c xs
    ∙ bytes.four-put x (2 * c) y (unpacked xs) told w

-- the last column of a byte that covers its columns exactly, by itself
pub last-put : (m bank x c r t : ℕ) (ram : List ℕ) → m < 5 → bank < 2 → m * width_of m ≡ 8 → Nibbles ram → RowsWord m bank r → Word m x t
    → placed 1 (r / 2 ^ (4 * (7 / m))) (t / 2 ^ (4 * (7 / m))) c ram ≡ changed (ending m (bank_row m bank) x) c ram
unfolding placed nibble_of
last-put m bank x c r t ram four two whole w er et =
    let j = 7 / m in
    let rest : m * j ≡ 8 - m = omega (arith, whole, mul-suc m j, ap (λ (k : ℕ). m * k) (add-one j)) in
    let high : height m j ≡ m = omega (arith, rest, whole, mul-suc m j, ap (λ (k : ℕ). m * k) (add-one j)) in
    ap (λ (k : ℕ). changed (mixed (nibble_of (r / 2 ^ (4 * j)) 0) (nibble_of (t / 2 ^ (4 * j)) 0)) k ram) (add-zero c)
    ∙ ap₂ (λ (a b : ℕ). changed (mixed (a % 16) (b % 16)) c ram) (div-one (r / 2 ^ (4 * j))) (div-one (t / 2 ^ (4 * j)))
    ∙ changed-alike _ _ c ram (puts m bank x r t four two er et j (get_or ram c 0) (omega arith) (w c))
    ∙ ap₂ (λ (k h : ℕ). changed (with_rows (bank_row m bank) h (field x k h)) c ram) rest high
