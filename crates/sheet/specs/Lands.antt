-- Demand 3's last sentence, stated: "What no data bit lands on stays." And what is not called stays whole. Proved in `laws`.
use Rattle.std.specs.Prelude.{ℕ, zero, suc, ◌+◌, ◌*◌, ◌/◌, ◌%◌, ◌<◌, ◌≡◌, Bool, false, ◌&&◌, ◌||◌, List, [], ◌∷◌, eqb, ltb, length, get_or, drop}
use Rattle.sheet.specs.declared.Registers.{Registers}
use Rattle.sheet.specs.declared.Both.{Both}
use Rattle.sheet.specs.declared.Chips.{Chips}
use Rattle.sheet.specs.declared.Chip.{Chip}
use Rattle.sheet.specs.declared.Expect.{Expect}
use Rattle.sheet.specs.declared.Kind.{Kind}
use Rattle.sheet.specs.declared.Expect.TheVariants.{Control, One, All}
use Rattle.sheet.specs.Parts.{Part}
use Rattle.sheet.specs.Registers.{backplanes, bank_row, registers_of}
use Rattle.sheet.specs.Protocol.{address_of, next, Sent, whole_of, address_byte}
use Rattle.sheet.specs.Long.{Group, begun, byte, columns_of, transfer_call}
use Rattle.sheet.specs.Plain.{after_columns, chip_byte, plain_call}
use Rattle.sheet.specs.Places.{position}
use Rattle.sheet.specs.Data.{row_of, width_of}

-- ---- the long account

-- one of the first n bits of a byte lands on row q of column c
unfoldable pub bits_on : ℕ → ℕ → ℕ → ℕ → ℕ → ℕ → Bool
bits_on zero m b v c q = false
bits_on (suc k) m b v c q = (eqb c (v + k / m) && eqb q (b + k % m)) || bits_on k m b v c q

abbrev pub data_on : Part → Registers → ℕ → ℕ → Bool
data_on K r c q = bits_on 8 (backplanes r) (bank_row (backplanes r) r.i) (position K r) c q

-- a byte, by what it is: only data has bits that land
abbrev pub kind_on : Part → Kind → Registers → ℕ → ℕ → Bool
kind_on K Kind.Command r c q = false
kind_on K Kind.Data r c q = data_on K r c q

abbrev pub byte_on : Part → Expect → Registers → ℕ → ℕ → Bool
byte_on K Control r c q = false
byte_on K (One k) r c q = kind_on K k r c q
byte_on K (All k) r c q = kind_on K k r c q

-- the whole bytes of a transfer that are left; of one that is cut no bit lands
unfoldable pub heard_on : Part → Expect → List ℕ → Group → ℕ → ℕ → Bool
heard_on K e [] g c q = false
heard_on K e (x ∷ xs) g c q = byte_on K e g.registers c q || heard_on K (next e x) xs (byte K e x g) c q

-- row q of column c of group g: no data bit of a transfer to it lands there
abbrev pub Missed : Part → Chips → Both → List ℕ → Sent → ℕ → ℕ → ℕ → Type 0
Missed K n r ram t g c q = address_byte t ≡ address_of g → heard_on K Control (drop 1 (whole_of t)) (begun (registers_of g r) (columns_of K n g ram)) c q ≡ false

pub record LongStays (K : Part) (n : Chips) (r : Both) (ram : List ℕ) (t : Sent) (g : ℕ) : Type 0 where
  pub row : (c q : ℕ) → Missed K n r ram t g c q
      → row_of (get_or (columns_of K n g (transfer_call K n r ram t).ram) c 0) q ≡ row_of (get_or (columns_of K n g ram) c 0) q
  pub columns : (address_byte t ≡ address_of g → ⊥) → columns_of K n g (transfer_call K n r ram t).ram ≡ columns_of K n g ram
  pub registers : (address_byte t ≡ address_of g → ⊥) → registers_of g (transfer_call K n r ram t).result.registers ≡ registers_of g r

-- ---- the plain account

-- one of n rows from row b on, which get a byte's bits from bit k on, is row q; a byte has no bit past 7
unfoldable pub rows_on : ℕ → ℕ → ℕ → ℕ → Bool
rows_on zero b k q = false
rows_on (suc n) b k q = (ltb (k + n) 8 && eqb q (b + n)) || rows_on n b k q

-- column j of a byte lands on row q of the chip's column p
abbrev pub column_on : ℕ → Chip → ℕ → ℕ → Bool
column_on j c p q =
    let r = c.registers in
    let m = backplanes r in
    eqb r.a c.subaddress && (eqb p r.p && rows_on m (bank_row m r.i) (m * j) q)

-- one of the first n columns of a byte does
unfoldable pub columns_on : Part → ℕ → ℕ → Chip → ℕ → ℕ → Bool
columns_on K x zero c p q = false
columns_on K x (suc n) c p q = column_on n (after_columns K x n c) p q || columns_on K x n c p q

abbrev pub chip_data_on : Part → ℕ → Chip → ℕ → ℕ → Bool
chip_data_on K x c p q = columns_on K x (width_of (backplanes c.registers)) c p q

abbrev pub chip_kind_on : Part → Kind → ℕ → Chip → ℕ → ℕ → Bool
chip_kind_on K Kind.Command x c p q = false
chip_kind_on K Kind.Data x c p q = chip_data_on K x c p q

abbrev pub chip_byte_on : Part → Expect → ℕ → Chip → ℕ → ℕ → Bool
chip_byte_on K Control x c p q = false
chip_byte_on K (One k) x c p q = chip_kind_on K k x c p q
chip_byte_on K (All k) x c p q = chip_kind_on K k x c p q

unfoldable pub chip_heard_on : Part → Expect → List ℕ → Chip → ℕ → ℕ → Bool
chip_heard_on K e [] c p q = false
chip_heard_on K e (x ∷ xs) c p q = chip_byte_on K e x c p q || chip_heard_on K (next e x) xs (chip_byte K e x c) p q

-- a chip of a list before a transfer to the list, and after it
pub record PlainStays (K : Part) (t : Sent) (before after : Chip) : Type 0 where
  pub row : (p q : ℕ) → chip_heard_on K Control (drop 1 (whole_of t)) before p q ≡ false → row_of (get_or after.columns p 0) q ≡ row_of (get_or before.columns p 0) q
  pub chip : (address_byte t ≡ address_of before.sa0 → ⊥) → after ≡ before

-- ---- the claim: of any state, and of each chip of any list

pub record Untouched (K : Part) : Type 1 where
  pub long : (n : Chips) (r : Both) (ram : List ℕ) (t : Sent) (g : ℕ) → g < 2 → LongStays K n r ram t g
  pub plain : (cs : List Chip) (t : Sent) (i : ℕ) (d : Chip) → i < length cs → PlainStays K t (get_or cs i d) (get_or (plain_call K cs t).chips i d)
