-- What the commands do to a group's registers (paper 01, "A transfer, byte by byte"; sheet 003, tables 5 to 12; sheet 002, tables 11 to 16).
use Rattle.std.specs.Prelude.{ℕ, ◌+◌, ◌-◌, ◌*◌, ◌%◌, Bool, true, ◌&&◌, List, [], ◌∷◌}
use Rattle.sheet.specs.declared.Marks.{Marks}
use Rattle.sheet.specs.declared.Registers.{Registers}
use Rattle.sheet.specs.declared.Command.{Command}
use Rattle.sheet.specs.declared.Command.TheVariants.{PointerHigh, PointerLow, Pointer, ModeSet, DeviceSelect, FrequencyCtrl, BlinkSelect, BankSelect, Undefined}
use Rattle.sheet.specs.Parts.{Part}
use Rattle.sheet.specs.Registers.{at_place, with_marks}

abbrev pub defined : Command → Bool
defined (PointerHigh n) = Bool.true
defined (PointerLow n) = Bool.true
defined (Pointer p) = Bool.true
defined (ModeSet s) = Bool.true
defined (DeviceSelect n) = Bool.true
defined FrequencyCtrl = Bool.true
defined (BlinkSelect ab bf) = Bool.true
defined (BankSelect i o) = Bool.true
defined Undefined = Bool.false

-- what each command sets. B is kept and the frequency is not; I and O are kept in every mode (house)
abbrev pub sets : Registers → Command → Registers
sets r (PointerHigh n) = at_place r (16 * n + r.p % 16) r.a
sets r (PointerLow n) = at_place r (r.p - r.p % 16 + n) r.a
sets r (Pointer p) = at_place r p r.a
sets r (ModeSet s) = record { e = s.e; b = s.b; m = s.m; p = r.p; a = r.a; i = r.i; o = r.o; ab = r.ab; bf = r.bf; unknown = r.unknown }
sets r (DeviceSelect n) = at_place r r.p n
sets r FrequencyCtrl = r
sets r (BlinkSelect ab bf) = record { e = r.e; b = r.b; m = r.m; p = r.p; a = r.a; i = r.i; o = r.o; ab = ab; bf = bf; unknown = r.unknown }
sets r (BankSelect i o) = record { e = r.e; b = r.b; m = r.m; p = r.p; a = r.a; i = i; o = o; ab = r.ab; bf = r.bf; unknown = r.unknown }
sets r Undefined = r

-- which marks it restores: each its own; the PCA85133's one pointer command both of the pointer (paper 02, request 8)
abbrev pub restored : Command → Marks → Marks
restored (PointerHigh n) u = record { high = 0; low = u.low; device = u.device }
restored (PointerLow n) u = record { high = u.high; low = 0; device = u.device }
restored (Pointer p) u = record { high = 0; low = 0; device = u.device }
restored (ModeSet s) u = u
restored (DeviceSelect n) u = record { high = u.high; low = u.low; device = 0 }
restored FrequencyCtrl u = u
restored (BlinkSelect ab bf) u = u
restored (BankSelect i o) u = u
restored Undefined u = u

-- the registers after a command
abbrev pub obeyed : Registers → Command → Registers
obeyed r c = with_marks (sets r c) (restored c r.unknown)

-- ---- command bytes, one after the other

abbrev pub obeyed_all : Part → List ℕ → Registers → Registers
obeyed_all K [] r = r
obeyed_all K (x ∷ xs) r = obeyed_all K xs (obeyed r (K.command x))

abbrev pub all_defined : Part → List ℕ → Bool
all_defined K [] = true
all_defined K (x ∷ xs) = defined (K.command x) && all_defined K xs
