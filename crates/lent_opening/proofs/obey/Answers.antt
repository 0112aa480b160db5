-- `lent_opening::obey` meets its contract, by the case of the command.
-- Assumes nothing.
use mathlib.Core.Path.{subst, sym, ap}
use Prim.Native.Nat.{◌<◌}
use native.Mathlib.Omega.{arith}
use Rattle.sheet.specs.declared.Command.{Command}
use Rattle.sheet.specs.Commands.{obeyed}
use Rattle.command.specs.Nibbles.{nibble_of}
use Rattle.lent_opening.proofs.Twelve.{obeys_told, pointer-high, pointer-low, pointer, mode-set, device-select, blink-select, bank-select}
use Rattle.lent_opening.proofs.obey.Goals as goal

pub overflow_mul-set : goal.overflow_mul-set
overflow_mul-set c = let h = subst (λ (k : Command). nibble_of k < 16) c.in-PointerHigh.is c.requires.1 in omega arith

pub overflow_add-set : goal.overflow_add-set
overflow_add-set c = let h = subst (λ (k : Command). nibble_of k < 16) c.in-PointerHigh.is c.requires.1 in omega arith

pub overflow_add-set-in-PointerLow : goal.overflow_add-set-in-PointerLow
overflow_add-set-in-PointerLow c = let h = subst (λ (k : Command). nibble_of k < 16) c.in-PointerLow.is c.requires.1 in omega arith

pub returns-in-PointerHigh : goal.returns-in-PointerHigh
returns-in-PointerHigh c = obeys_told c.in-PointerHigh.is (pointer-high c.args.set.now c.requires.0 _)

pub returns-in-PointerLow : goal.returns-in-PointerLow
returns-in-PointerLow c = obeys_told c.in-PointerLow.is (pointer-low c.args.set.now c.requires.0 _)

pub returns-in-Pointer : goal.returns-in-Pointer
returns-in-Pointer c = obeys_told c.in-Pointer.is (pointer c.args.set.now c.requires.0 _)

pub returns-in-ModeSet : goal.returns-in-ModeSet
returns-in-ModeSet c = obeys_told c.in-ModeSet.is (mode-set c.args.set.now c.requires.0 _)

pub returns-in-DeviceSelect : goal.returns-in-DeviceSelect
returns-in-DeviceSelect c = obeys_told c.in-DeviceSelect.is (device-select c.args.set.now c.requires.0 _)

pub returns-in-BlinkSelect : goal.returns-in-BlinkSelect
returns-in-BlinkSelect c = obeys_told c.in-BlinkSelect.is (blink-select c.args.set.now c.requires.0 _ _)

pub returns-in-BankSelect : goal.returns-in-BankSelect
returns-in-BankSelect c = obeys_told c.in-BankSelect.is (bank-select c.args.set.now c.requires.0 _ _)

pub returns-in-FrequencyCtrl : goal.returns-in-FrequencyCtrl
returns-in-FrequencyCtrl c = (sym (ap (obeyed _) c.in-FrequencyCtrl.is), c.requires.0)

pub returns-in-Undefined : goal.returns-in-Undefined
returns-in-Undefined c = (sym (ap (obeyed _) c.in-Undefined.is), c.requires.0)
