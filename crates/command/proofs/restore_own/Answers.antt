-- restore_own: by the case of the command that was decoded.
-- Assumes nothing.
use mathlib.Core.Path.{◌≡◌, sym, ap, ◌∙◌}
use Rattle.sheet.specs.declared.Command.{Command}
use Rattle.sheet.specs.declared.Marks.{Marks}
use Rattle.sheet.specs.Commands.{restored}
use Rattle.command.proofs.restore_own.Goals as goal

-- what a case restores
case_is : (marks : Marks) {d k f : Command} → d ≡ f → d ≡ k → restored k marks ≡ restored f marks
case_is marks e i = ap (λ (x : Command). restored x marks) (sym i ∙ e)

pub returns-in-PointerHigh : goal.returns-in-PointerHigh
returns-in-PointerHigh c = case_is c.args.marks c.decode.ensures c.in-PointerHigh.is

pub returns-in-PointerLow : goal.returns-in-PointerLow
returns-in-PointerLow c = case_is c.args.marks c.decode.ensures c.in-PointerLow.is

pub returns-in-Pointer : goal.returns-in-Pointer
returns-in-Pointer c = case_is c.args.marks c.decode.ensures c.in-Pointer.is

pub returns-in-ModeSet : goal.returns-in-ModeSet
returns-in-ModeSet c = case_is c.args.marks c.decode.ensures c.in-ModeSet.is

pub returns-in-DeviceSelect : goal.returns-in-DeviceSelect
returns-in-DeviceSelect c = case_is c.args.marks c.decode.ensures c.in-DeviceSelect.is

pub returns-in-BlinkSelect : goal.returns-in-BlinkSelect
returns-in-BlinkSelect c = case_is c.args.marks c.decode.ensures c.in-BlinkSelect.is

pub returns-in-BankSelect : goal.returns-in-BankSelect
returns-in-BankSelect c = case_is c.args.marks c.decode.ensures c.in-BankSelect.is

pub returns-in-FrequencyCtrl : goal.returns-in-FrequencyCtrl
returns-in-FrequencyCtrl c = case_is c.args.marks c.decode.ensures c.in-FrequencyCtrl.is

pub returns-in-Undefined : goal.returns-in-Undefined
returns-in-Undefined c = case_is c.args.marks c.decode.ensures c.in-Undefined.is
