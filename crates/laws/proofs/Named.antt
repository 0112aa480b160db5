-- A part by its number: what holds of both parts holds of it, and the sizes that follow.
-- Assumes nothing.
use Prim.Native.Nat.{ℕ, ◌*◌, ◌/◌, ◌%◌, ◌<◌, ◌≤◌}
use mathlib.Core.Path.{◌≡◌, refl}
use mathlib.Core.Bool.{Bool, true, false, cond}
use mathlib.Core.List.{List}
use native.Mathlib.Nat.{mul-le-mul_left}
use native.Mathlib.Omega.{arith}
use lib.Dec.{eqb}
use lib.ListN.{length}
use borrow.Author.Tests.{eq-eqb, ne_eqb}
use Rattle.sheet.specs.declared.Both.{Both}
use Rattle.sheet.specs.declared.Chips.{Chips}
use Rattle.sheet.specs.declared.Registers.{Registers}
use Rattle.sheet.specs.Parts.{Part, part_of, pcf8532, pca85133}
use Rattle.sheet.specs.Protocol.{Sent}
use Rattle.sheet.specs.Checks.{check_part}
use Rattle.sheet.specs.Long.{transfer_call, transfer_part}
use Rattle.sheet.specs.Places.{position}
use Rattle.laws.proofs.Ranges.{InRange, position_lt}

pub of-both : (P : Part → Type 0) (part : ℕ) → P pcf8532 → P pca85133 → P (part_of part)
unfolding part_of
of-both P part larger smaller = go (eqb part 1)
  where
    go : (b : Bool) → P (cond b pca85133 pcf8532)
    go true = smaller
    go false = larger

pub is-pca85133 : (part : ℕ) → part ≡ 1 → part_of part ≡ pca85133
unfolding part_of
is-pca85133 part e = rw (eq-eqb _ _ e)

pub is-pcf8532 : (part : ℕ) → (part ≡ 1 → ⊥) → part_of part ≡ pcf8532
unfolding part_of
is-pcf8532 part d = rw (ne_eqb _ _ d)

-- ---- a log is the PCF8532's: part 0

pub zero-transfer : (n : Chips) (r : Both) (ram : List ℕ) (t : Sent) → transfer_part 0 n r ram t ≡ transfer_call pcf8532 n r ram t
unfolding transfer_part check_part part_of
zero-transfer n r ram t = refl

-- ---- sizes

pub has_columns : (part : ℕ) → 0 < (part_of part).columns
has_columns part = of-both (λ K. 0 < K.columns) part (omega arith) (omega arith)

-- an even number of them
pub columns-even : (part : ℕ) → (part_of part).columns ≡ 2 * ((part_of part).columns / 2)
columns-even part = of-both (λ K. K.columns ≡ 2 * (K.columns / 2)) part refl refl

pub columns-small : (part : ℕ) → (part_of part).columns ≤ 160
columns-small part = of-both (λ K. K.columns ≤ 160) part (omega arith) (omega arith)

-- one pointer command or two
pub pointer-bytes : (part : ℕ) → (0 < length ((part_of part).pointer 0)) × (length ((part_of part).pointer 0) ≤ 2)
pointer-bytes part = of-both (λ K. (0 < length (K.pointer 0)) × (length (K.pointer 0) ≤ 2)) part (omega arith, omega arith) (omega arith, omega arith)

pub limit-small : (part : ℕ) → (part_of part).limit ≤ 8
limit-small part = of-both (λ K. K.limit ≤ 8) part (omega arith) (omega arith)

-- four chips of 160 columns, eight of 80
pub group-columns : (part : ℕ) → (part_of part).columns * (part_of part).limit ≡ 640
group-columns part = of-both (λ K. K.columns * K.limit ≡ 640) part refl refl

pub ram-small : (part n : ℕ) → n ≤ (part_of part).limit → (part_of part).columns * n ≤ 640
ram-small part n l = omega (arith, group-columns part, mul-le-mul_left (part_of part).columns l)

pub position-small : (part : ℕ) (r : Registers) → InRange (part_of part) r → position (part_of part) r < 800
position-small part r h = of-both (λ K. (r : Registers) → InRange K r → position K r < 800) part (λ r h. omega (arith, position_lt pcf8532 r h)) (λ r h. omega (arith, position_lt pca85133 r h)) r h

-- the columns of any number of chips, by sixteen
pub by-sixteen : (part n : ℕ) → (part_of part).columns * n % 16 ≡ 0
by-sixteen part n = of-both (λ K. K.columns * n % 16 ≡ 0) part (omega arith) (omega arith)

-- and by 80
pub by_eighty : (part n : ℕ) → (part_of part).columns * n % 80 ≡ 0
by_eighty part n = of-both (λ K. K.columns * n % 80 ≡ 0) part (omega arith) (omega arith)

pub columns-most : (part n : ℕ) → (part_of part).columns * n ≤ 160 * n
columns-most part n = of-both (λ K. K.columns * n ≤ 160 * n) part (omega arith) (omega arith)
