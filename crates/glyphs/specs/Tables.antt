-- The segments as the tables hold them: segment s is the bit 2 ^ s, and a number holds eight bytes, the first lowest.
-- Assumes nothing.
use Rattle.std.specs.Prelude.{ℕ, ◌+◌, ◌*◌, ◌/◌, ◌%◌, ◌^◌, ◌≤◌, cond, List, [], ◌∷◌, ◌++◌, map, ◌≡◌, eqb, ltb, get_or, take, drop, None, Option, Some}
use Rattle.std.specs.Int.Bits.{bit_and, bit_or}
use Rattle.price_sheet.specs.declared.Symbol.{Symbol}
use Rattle.price_sheet.specs.declared.Symbol.TheVariants.{Digit, Pointed, Space, Minus, LongMinus}
use Rattle.price_sheet.specs.Price.{g, DP, shapes, orders, shown}
use Rattle.glyphs.specs.declared.Bytes.{Bytes}

abbrev pub weight_of : ℕ → ℕ
weight_of s = 2 ^ s

-- the order of a mode
abbrev pub order_of : ℕ → List ℕ
order_of mode = map weight_of (get_or orders mode [])

-- segments that are lit
abbrev pub lit_of : List ℕ → ℕ
lit_of [] = 0
lit_of (s ∷ ss) = weight_of s + lit_of ss

-- bytes as a number
abbrev pub word_of : List ℕ → ℕ
word_of [] = 0
word_of (x ∷ xs) = x + 256 * word_of xs

-- ---- the data bytes of an order

-- what the digits 0 to 7 light, and then 8, 9, a space, a minus and the point
abbrev pub first_lit : ℕ
first_lit = word_of (map lit_of (take 8 shapes))

abbrev pub second_lit : ℕ
second_lit = word_of (map lit_of (drop 8 shapes ++ ([] ∷ (g ∷ []) ∷ (DP ∷ []) ∷ [])))

-- a segment comes in at the top of each byte: 1 where it is lit
unfoldable pub pushed : ℕ → ℕ → ℕ → ℕ
pushed bytes lit segment = bit_or (bytes / 2) (128 * bit_and (lit / segment) 0x0101010101010101)

-- the last one first
unfoldable pub arranged : List ℕ → ℕ → ℕ
arranged [] lit = 0
arranged (segment ∷ order) lit = pushed (arranged order lit) lit segment

abbrev pub bytes_in : List ℕ → Bytes
bytes_in order = record { first = arranged order first_lit; second = arranged order second_lit }

-- ---- a symbol's

abbrev pub byte_at : ℕ → ℕ → ℕ
byte_at word k = word / 2 ^ (8 * k) % 256

-- of the first eight, or of the others
abbrev pub number_with : Bytes → ℕ → ℕ
number_with bytes k = cond (ltb k 8) bytes.first bytes.second

unfoldable pub byte_in : Bytes → ℕ → ℕ
byte_in bytes k = byte_at (number_with bytes k) (k % 8)

unfoldable pub byte_by : Bytes → Symbol → ℕ
byte_by bytes (Digit n) = byte_in bytes n
byte_by bytes (Pointed n) = bit_or (byte_in bytes n) (byte_in bytes 12)
byte_by bytes Space = 0
byte_by bytes Minus = byte_in bytes 11
byte_by bytes LongMinus = byte_in bytes 11

-- ---- and back

-- the first byte of its text, and 256 for each byte that the text has; 0 for none
abbrev pub code_of : Option Symbol → ℕ
code_of (Some (Digit n)) = 0x130 + n
code_of (Some (Pointed n)) = 0x230 + n
code_of (Some Space) = 0x120
code_of (Some Minus) = 0x12D
code_of (Some LongMinus) = 0x12D
code_of None = 0

-- the top five of a product's 32 bits
abbrev pub slot_of : ℕ → ℕ → ℕ
slot_of byte factor = byte * factor % 0x100000000 / 0x8000000

pub record Slot (byte factor slot : ℕ) : Type 0 where
  pub is : slot ≡ slot_of byte factor

-- its entry
pub record Picked (entries : List ℕ) (slot entry : ℕ) : Type 0 where
  pub is : entry ≡ get_or entries slot 0

-- an entry's code, if it is this byte's
abbrev pub code_in : ℕ → ℕ → ℕ
code_in entry byte = cond (eqb (entry % 256) byte) (entry / 256) 0

-- it is the code of what the byte shows, and no entry's own is 0
pub record Entry (mode byte entry : ℕ) : Type 0 where
  pub code : code_in entry byte ≡ code_of (shown mode byte)
  pub some : 256 ≤ entry
