-- Bytes as text: its length, and that what is written part by part is written at once; what a record's line is made of.
-- Assumes nothing.
use mathlib.Core.Path.{◌≡◌, refl, sym, ap, ◌∙◌}
use mathlib.Core.List.{List, [], ◌∷◌, ◌++◌, append_assoc}
use Prim.Native.Nat.{ℕ, ◌+◌, ◌*◌, ◌/◌, ◌%◌}
use native.Mathlib.Omega.{arith}
use lib.ListN.{length, length-append}
use Rattle.image_sheet.specs.Hex.{digit_of, text_of, sum_of, checksum_of, head_of, record_of, line_of}

pub length-text : (bytes : List ℕ) → length (text_of bytes) ≡ 2 * length bytes
unfolding text_of
length-text [] = refl
length-text (x ∷ xs) = omega (arith, length-text xs)

pub text-append : (a b : List ℕ) → text_of (a ++ b) ≡ text_of a ++ text_of b
unfolding text_of
text-append [] b = refl
text-append (x ∷ xs) b = ap (λ (l : List ℕ). digit_of (x / 16) ∷ digit_of (x % 16) ∷ l) (text-append xs b)

pub sum-append : (a b : List ℕ) → sum_of (a ++ b) ≡ sum_of a + sum_of b
unfolding sum_of
sum-append [] b = omega arith
sum-append (x ∷ xs) b = omega (arith, sum-append xs b)

-- the parts of a line, with its checksum x
pub line-parts : (kind address x : ℕ) (columns : List ℕ) → x ≡ checksum_of (head_of kind address columns ++ columns)
    → line_of (record_of kind address columns) ≡ (58 ∷ []) ++ (text_of (head_of kind address columns) ++ (text_of columns ++ (text_of (x ∷ []) ++ (10 ∷ []))))
unfolding record_of
line-parts kind address x columns e =
    let head = head_of kind address columns in
    ap (λ (k : ℕ). 58 ∷ text_of ((head ++ columns) ++ (k ∷ [])) ++ (10 ∷ [])) (sym e)
    ∙ rw (text-append (head ++ columns) (x ∷ []), text-append head columns, append_assoc (text_of head) (text_of columns) (text_of (x ∷ [])), append_assoc (text_of head) (text_of columns ++ text_of (x ∷ [])) (10 ∷ []), append_assoc (text_of columns) (text_of (x ∷ [])) (10 ∷ []))

-- two digits a column, and twelve characters more
pub length-line : (kind address : ℕ) (columns : List ℕ) → length (line_of (record_of kind address columns)) ≡ 2 * length columns + 12
unfolding record_of
length-line kind address columns =
    let bytes = head_of kind address columns ++ columns in
    let all = bytes ++ (checksum_of bytes ∷ []) in
    omega (arith, length-append (text_of all) (10 ∷ []), length-text all, length-append bytes (checksum_of bytes ∷ []))
