-- obey: by the case of the command; a pointer low fits since it carries a nibble.
-- Assumes nothing.
use mathlib.Core.Path.{sym, ap, subst}
use Prim.Native.Nat.{◌<◌}
use native.Mathlib.Omega.{arith}
use Rattle.sheet.specs.declared.Command.{Command}
use Rattle.sheet.specs.Commands.{obeyed}
use Rattle.command.specs.Nibbles.{nibble_of}
use Rattle.command.proofs.obey.Goals as goal

pub overflow_add-registers-in-PointerLow : goal.overflow_add-registers-in-PointerLow
overflow_add-registers-in-PointerLow c = let h = subst (λ (k : Command). nibble_of k < 16) c.in-PointerLow.is c.requires in omega arith

pub returns-in-PointerHigh : goal.returns-in-PointerHigh
returns-in-PointerHigh c = sym (ap (obeyed _) c.in-PointerHigh.is)

pub returns-in-PointerLow : goal.returns-in-PointerLow
returns-in-PointerLow c = sym (ap (obeyed _) c.in-PointerLow.is)

pub returns-in-Pointer : goal.returns-in-Pointer
returns-in-Pointer c = sym (ap (obeyed _) c.in-Pointer.is)

pub returns-in-ModeSet : goal.returns-in-ModeSet
returns-in-ModeSet c = sym (ap (obeyed _) c.in-ModeSet.is)

pub returns-in-DeviceSelect : goal.returns-in-DeviceSelect
returns-in-DeviceSelect c = sym (ap (obeyed _) c.in-DeviceSelect.is)

pub returns-in-BlinkSelect : goal.returns-in-BlinkSelect
returns-in-BlinkSelect c = sym (ap (obeyed _) c.in-BlinkSelect.is)

pub returns-in-BankSelect : goal.returns-in-BankSelect
returns-in-BankSelect c = sym (ap (obeyed _) c.in-BankSelect.is)

pub returns-in-FrequencyCtrl : goal.returns-in-FrequencyCtrl
returns-in-FrequencyCtrl c = sym (ap (obeyed _) c.in-FrequencyCtrl.is)

pub returns-in-Undefined : goal.returns-in-Undefined
returns-in-Undefined c = sym (ap (obeyed _) c.in-Undefined.is)
