-- The long account with half the RAM (paper 02, request 6): two columns in a byte, the even column in the low four bits.
-- Each packed call is the one-byte call under unpacking.
use Rattle.std.specs.Prelude.{ℕ, ◌+◌, ◌*◌, ◌/◌, ◌%◌, ◌<◌, ◌≡◌, Bool, cond, List, [], ◌∷◌, eqb, length, get_or}
use Rattle.sheet.specs.declared.Both.{Both}
use Rattle.sheet.specs.declared.Chips.{Chips}
use Rattle.sheet.specs.declared.PowerOn.{PowerOn}
use Rattle.sheet.specs.declared.Refusal.TheVariants.{RamLength}
use Rattle.sheet.specs.Parts.{Part}
use Rattle.sheet.specs.Protocol.{Sent}
use Rattle.sheet.specs.Checks.{unless, check_ram}
use Rattle.sheet.specs.Pictures.{Seen}
use Rattle.sheet.specs.Long.{After, transfer_call, power_on_part, transfer_part, picture_part}

-- the columns of packed bytes
unfoldable pub unpacked : List ℕ → List ℕ
unpacked [] = []
unpacked (x ∷ xs) = x % 16 ∷ x / 16 ∷ unpacked xs

-- two columns a byte; a last column without a neighbour stays alone
unfoldable pub packed : List ℕ → List ℕ
packed [] = []
packed (q ∷ []) = q ∷ []
packed (even ∷ odd ∷ qs) = (even + 16 * odd) ∷ packed qs

-- the columns of a RAM, packed or a byte each
abbrev pub columns_in : Bool → List ℕ → List ℕ
columns_in is_packed ram = cond is_packed (unpacked ram) ram

-- ---- the calls by a part's number

unfoldable pub power_on_packed : ℕ → Chips → List ℕ → PowerOn
power_on_packed part n ram = power_on_part part n (unpacked ram)

abbrev pub packed_after : After → After
packed_after a = record { result = a.result; ram = packed a.ram }

unfoldable pub transfer_packed : ℕ → Chips → Both → List ℕ → Sent → After
transfer_packed part n r ram t = packed_after (transfer_part part n r (unpacked ram) t)

-- a picture is still a byte a column
unfoldable pub picture_packed : ℕ → Chips → Both → List ℕ → ℕ → ℕ → List ℕ → Seen
picture_packed part n r ram group phase out = picture_part part n r (unpacked ram) group phase out

-- ---- what is proved of any part with an even number of columns whose commands keep P and A (`laws/proofs/Halves.antt`)

-- every number of a buffer is a byte
abbrev pub Bytes : List ℕ → Type 0
Bytes xs = (i : ℕ) → get_or xs i 0 < 256

pub record Halves (K : Part) : Type 0 where
  -- 4 means half the columns, and 5 can't occur
  pub checked : (n : Chips) (ram : List ℕ) → Bytes ram → check_ram K n (unpacked ram) ≡ unless (eqb (length ram) (K.columns / 2 * (n.zero + n.one))) RamLength
  -- packing what was unpacked is the identity
  pub back : (ram : List ℕ) → packed (unpacked ram) ≡ ram
  -- unpacking what a packed transfer leaves gives what the one-byte form leaves, taken or refused
  pub result : (n : Chips) (r : Both) (ram : List ℕ) (t : Sent) → unpacked (packed (transfer_call K n r (unpacked ram) t).ram) ≡ (transfer_call K n r (unpacked ram) t).ram
