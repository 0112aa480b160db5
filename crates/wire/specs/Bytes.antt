-- Registers and chips as the bytes that C lends. Assumes nothing.
use Rattle.std.specs.Prelude.{ℕ, zero, suc, ◌%◌, List, [], ◌∷◌, ◌++◌, get_or, take, drop}
use Rattle.sheet.specs.declared.Registers.{Registers}
use Rattle.sheet.specs.declared.Both.{Both}
use Rattle.sheet.specs.declared.Chip.{Chip}

-- twelve bytes, in the order E B M P A I O AB BF and the marks of pointer high, pointer low and device-select
abbrev pub registers_in : List ℕ → Registers
registers_in l = record {
  e = get_or l 0 0;
  b = get_or l 1 0;
  m = get_or l 2 0;
  p = get_or l 3 0;
  a = get_or l 4 0;
  i = get_or l 5 0;
  o = get_or l 6 0;
  ab = get_or l 7 0;
  bf = get_or l 8 0;
  unknown = record { high = get_or l 9 0; low = get_or l 10 0; device = get_or l 11 0 };
}

-- P and A come from bytes and stay as given or in range, so a byte holds them
abbrev pub bytes_of : Registers → List ℕ
bytes_of r = r.e ∷ r.b ∷ r.m ∷ r.p % 256 ∷ r.a % 256 ∷ r.i ∷ r.o ∷ r.ab ∷ r.bf ∷ r.unknown.high ∷ r.unknown.low ∷ r.unknown.device ∷ []

-- group 0's and then group 1's
abbrev pub both_of : List ℕ → Both
both_of l = record { zero = registers_in (take 12 l); one = registers_in (drop 12 l) }

abbrev pub both_bytes : Both → List ℕ
both_bytes r = bytes_of r.zero ++ bytes_of r.one

-- a chip is 174 bytes: 160 columns, SA0, subaddress, twelve registers
abbrev pub chip_in : List ℕ → Chip
chip_in l = record { columns = take 160 l; sa0 = get_or l 160 0; subaddress = get_or l 161 0; registers = registers_in (drop 162 l) }

abbrev pub chip_bytes : Chip → List ℕ
chip_bytes c = c.columns ++ (c.sa0 ∷ c.subaddress ∷ bytes_of c.registers)

-- n chips one after the other
unfoldable pub list_in : ℕ → List ℕ → List Chip
list_in zero l = []
list_in (suc n) l = chip_in (take 174 l) ∷ list_in n (drop 174 l)

unfoldable pub list_bytes : List Chip → List ℕ
list_bytes [] = []
list_bytes (c ∷ cs) = chip_bytes c ++ list_bytes cs
