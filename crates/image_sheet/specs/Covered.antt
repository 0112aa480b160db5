-- Request 13's laws, stated: "Writing then reading gives the RAM back; each address must be covered exactly once." Proved in `imagelaws`.
-- Assumes nothing.
use Rattle.std.specs.Prelude.{◌≡◌, ℕ, zero, suc, ◌≤◌, ◌<◌, cond, List, [], ◌∷◌, ◌++◌, eqb, length, get_or, take, drop, Err, Ok}
use Rattle.sheet.specs.Results.{Written}
use Rattle.sheet.specs.declared.Refusal.{Refusal}
use Rattle.image_sheet.specs.Hex.{hex_write_part}
use Rattle.image_sheet.specs.Images.{bytes_of, digits_in, size_in, address_of, kind_of, data_of, image, image_of, hex_read_part}

-- ---- writing, then reading: what a call wrote, read by a call for as many columns, gives the RAM back

abbrev pub GivesBack : ℕ → ℕ → List ℕ → List ℕ → List ℕ → Type 0
GivesBack part n ram out back =
    (size : ℕ) → (hex_write_part part n ram out).result ≡ Ok size → length back ≡ length ram
    → hex_read_part part n (take size (hex_write_part part n ram out).out) back ≡ record { result = Ok (length ram); out = ram }

-- and a file that is refused changes nothing, wherever its fault is
abbrev pub Untouched : ℕ → ℕ → List ℕ → List ℕ → Type 0
Untouched part n file out = (r : Refusal) → (hex_read_part part n file out).result ≡ Err r → (hex_read_part part n file out).out ≡ out

-- ---- what a file gives: every value that its records hold for column c, in the order of the file

-- of a record's data bytes, from an address on
unfoldable pub values_at : ℕ → ℕ → List ℕ → List ℕ
values_at c address [] = []
values_at c address (x ∷ xs) = cond (eqb c address) (x ∷ values_at c (suc address) xs) (values_at c (suc address) xs)

-- of its records up to the end record; k bounds how many there are
unfoldable pub values_in : ℕ → ℕ → List ℕ → List ℕ
values_in zero c text = []
values_in (suc k) c [] = []
values_in (suc k) c (x ∷ xs) =
    let text = x ∷ xs in
    let bytes = bytes_of (digits_in text) in
    values_at c (address_of bytes) (data_of bytes) ++ cond (eqb (kind_of bytes) 1) [] (values_in k c (drop (size_in text) text))

abbrev pub values_of : ℕ → List ℕ → List ℕ
values_of c file = values_in (length file) c file

-- a file that is accepted gives each column once, and none that is not there
pub record Covered (size : ℕ) (file ram : List ℕ) : Type 0 where
  pub once : (c : ℕ) → c < size → values_of c file ≡ get_or ram c 0 ∷ []
  pub no_other : (c : ℕ) → size ≤ c → values_of c file ≡ []

abbrev pub Accepted : ℕ → List ℕ → List ℕ → Type 0
Accepted size file ram = image_of size file ≡ image (Ok tt) ram
