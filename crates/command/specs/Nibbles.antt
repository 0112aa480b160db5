-- What obeying a pointer high or a pointer low asks of it.
use Rattle.std.specs.Prelude.{ℕ}
use Rattle.sheet.specs.declared.Command.{Command}
use Rattle.sheet.specs.declared.Command.TheVariants.{PointerHigh, PointerLow, Pointer, ModeSet, DeviceSelect, FrequencyCtrl, BlinkSelect, BankSelect, Undefined}

-- the nibble that it carries
abbrev pub nibble_of : Command → ℕ
nibble_of (PointerHigh n) = n
nibble_of (PointerLow n) = n
nibble_of (Pointer p) = 0
nibble_of (ModeSet s) = 0
nibble_of (DeviceSelect n) = 0
nibble_of FrequencyCtrl = 0
nibble_of (BlinkSelect ab bf) = 0
nibble_of (BankSelect i o) = 0
nibble_of Undefined = 0
