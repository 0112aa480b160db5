-- What the bytes of a transfer are (paper 01, "A transfer, byte by byte"; sheet 003, figure 21 and tables 18 and 19).
use Rattle.std.specs.Prelude.{ℕ, ◌+◌, ◌-◌, ◌*◌, ◌/◌, ◌%◌, Bool, true, false, cond, ◌&&◌, List, [], ◌∷◌, eqb, ltb, length, get_or, take, drop, None, Some}
use Rattle.sheet.specs.declared.Chips.{Chips}
use Rattle.sheet.specs.Results.{Addressed}
use Rattle.sheet.specs.declared.Expect.{Expect}
use Rattle.sheet.specs.declared.Kind.{Kind}
use Rattle.sheet.specs.declared.Expect.TheVariants.{Control, One, All}

-- byte 0 for a group: 112 for group 0, 114 for group 1
abbrev pub address_of : ℕ → ℕ
address_of g = 112 + 2 * g

-- the group that hears byte 0: a group with no chip hears nothing, and nobody hears any other value
unfoldable pub heard_by : Chips → ℕ → Addressed
heard_by n x = cond (eqb x (address_of 0) && ltb 0 n.zero) (Some 0) (cond (eqb x (address_of 1) && ltb 0 n.one) (Some 1) None)

-- the chips of group g
abbrev pub chips_in : ℕ → Chips → ℕ
chips_in g n = cond (eqb g 0) n.zero n.one

-- RS of a control byte is bit 6: 1 for display data
abbrev pub kind_of : ℕ → Kind
kind_of x = cond (eqb (x / 64 % 2) 1) Kind.Data Kind.Command

-- what follows a control byte: Co is bit 7. After Co = 1 one byte, after Co = 0 all that are left
unfoldable pub control_of : ℕ → Expect
control_of x = cond (eqb (x / 128 % 2) 1) (One (kind_of x)) (All (kind_of x))

-- what follows a byte: after the one byte of Co = 1 another control byte
abbrev pub next : Expect → ℕ → Expect
next Control x = control_of x
next (One k) x = Control
next (All k) x = All k

-- what follows some bytes
abbrev pub next_after : Expect → List ℕ → Expect
next_after e [] = e
next_after e (x ∷ xs) = next_after (next e x) xs

-- ---- a transfer: its bytes, and how many bits of the last one came; 8 is all of it (paper 02, request 8)

pub record Sent : Type 0 where
  pub bytes : List ℕ
  pub bits : ℕ

abbrev pub sent : List ℕ → ℕ → Sent
sent bytes bits = record { bytes = bytes; bits = bits }

-- one whose last byte came whole
abbrev pub whole : List ℕ → Sent
whole bytes = sent bytes 8

-- its last byte is cut
abbrev pub cut : Sent → Bool
cut t = ltb t.bits 8

-- its whole bytes: all, or all but the one that is cut
unfoldable pub whole_of : Sent → List ℕ
whole_of t = cond (cut t) (take (length t.bytes - 1) t.bytes) t.bytes

-- how many they are, of so many bytes
abbrev pub whole_count : ℕ → ℕ → ℕ
whole_count size bits = cond (ltb bits 8) (size - 1) size

-- byte 0, where it came whole; else 0, which is nobody's address
abbrev pub address_byte : Sent → ℕ
address_byte t = get_or (whole_of t) 0 0

abbrev pub is_data_of : Kind → Bool
is_data_of Kind.Command = false
is_data_of Kind.Data = true

-- the next byte is data
abbrev pub is_data : Expect → Bool
is_data Control = false
is_data (One k) = is_data_of k
is_data (All k) = is_data_of k

-- the byte that is cut is data
unfoldable pub cut_data : Sent → Bool
cut_data t = cut t && is_data (next_after Control (drop 1 (whole_of t)))
