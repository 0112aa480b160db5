-- A group's registers (paper 01, "Chips on the bus"; sheet 003, tables 6 to 11): at power-on, in range, and what the mode and the banks mean.
use Rattle.std.specs.Prelude.{ℕ, ◌*◌, Bool, cond, ◌&&◌, eqb, leb, ltb}
use Rattle.sheet.specs.declared.Marks.{Marks}
use Rattle.sheet.specs.declared.Registers.{Registers}
use Rattle.sheet.specs.declared.Both.{Both}
use Rattle.sheet.specs.Parts.{Part}

-- ---- marks: 1 where pointer high, pointer low or device-select is unknown (paper 02, request 8)

abbrev pub marked : ℕ → Marks
marked t = record { high = t; low = t; device = t }

-- none is unknown
abbrev pub known : Marks → Bool
known u = eqb u.high 0 && (eqb u.low 0 && eqb u.device 0)

-- ---- registers

-- power-on: M = 00 (1:4), all else 0
abbrev pub power_on : Registers
power_on = record { e = 0; b = 0; m = 0; p = 0; a = 0; i = 0; o = 0; ab = 0; bf = 0; unknown = marked 0 }

-- the registers with another pointer and counter
abbrev pub at_place : Registers → ℕ → ℕ → Registers
at_place r p a = record { e = r.e; b = r.b; m = r.m; p = p; a = a; i = r.i; o = r.o; ab = r.ab; bf = r.bf; unknown = r.unknown }

-- and with other marks
abbrev pub with_marks : Registers → Marks → Registers
with_marks r u = record { e = r.e; b = r.b; m = r.m; p = r.p; a = r.a; i = r.i; o = r.o; ab = r.ab; bf = r.bf; unknown = u }

-- after a byte that is cut: data makes pointer and counter unknown, which keep their numbers; any other byte does nothing (paper 02, request 8)
abbrev pub lost_by : Bool → Registers → Registers
lost_by is_data r = with_marks r (cond is_data (marked 1) r.unknown)

-- every register in its range: P below the part's columns, A at most its limit, a mark 0 or 1
unfoldable pub in_range : Part → Registers → Bool
in_range K r =
    ltb r.e 2 && (ltb r.b 2 && (ltb r.m 4 && (ltb r.p K.columns && (leb r.a K.limit
    && (ltb r.i 2 && (ltb r.o 2 && (ltb r.ab 2 && (ltb r.bf 4
    && (ltb r.unknown.high 2 && (ltb r.unknown.low 2 && ltb r.unknown.device 2))))))))))

-- backplanes m: M = 01, 10, 11, 00 give 1, 2, 3, 4
unfoldable pub backplanes : Registers → ℕ
backplanes r = cond (eqb r.m 0) 4 r.m

-- the first row of a bank: 2 × the bank for m = 1 or 2, and 0 otherwise
unfoldable pub bank_row : ℕ → ℕ → ℕ
bank_row m bank = cond (ltb m 3) (2 * bank) 0

-- ---- two register sets

-- a group's own
abbrev pub registers_of : ℕ → Both → Registers
registers_of g r = cond (eqb g 0) r.zero r.one
