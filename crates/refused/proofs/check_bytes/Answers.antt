-- `refused::check_bytes` meets its contract, heard or not.
-- Assumes nothing.
use mathlib.Core.Path.{◌≡◌, sym, ap, ◌∙◌}
use Rattle.sheet.specs.declared.Registers.{Registers}
use Rattle.sheet.specs.Results.{Addressed}
use Rattle.sheet.specs.Parts.{Part, part_of}
use Rattle.sheet.specs.declared.Both.{Both}
use Rattle.sheet.specs.declared.Chips.{Chips}
use Prim.Native.Nat.{ℕ}
use Rattle.sheet.specs.Protocol.{Sent, heard_by, sent, address_byte}
use Rattle.sheet.specs.Checks.{fault_of_sent, check_bytes}
use Rattle.refused.proofs.check_bytes.Goals as goal

-- what is checked, by who hears
by_hearer : (part : Part) (registers : Both) (chips : Chips) (t : Sent) {byte : ℕ} {heard to : Addressed}
    → heard ≡ heard_by chips byte → byte ≡ address_byte t → heard ≡ to
    → check_bytes part registers to t ≡ check_bytes part registers (heard_by chips (address_byte t)) t
by_hearer part registers chips t h b told = ap (λ (k : Addressed). check_bytes part registers k t) (sym told ∙ h ∙ ap (heard_by chips) b)

pub returns-in-Some : goal.returns-in-Some
returns-in-Some c = let a = c.args in
    c.first_fault.ensures
    ∙ ap (λ (r : Registers). fault_of_sent (part_of a.bus.now.part) r.unknown (sent a.bytes.now a.bits)) c.registers_of-called.ensures
    ∙ by_hearer (part_of a.bus.now.part) a.registers a.bus.now.chips (sent a.bytes.now a.bits) c.heard_by.ensures c.address_byte.ensures c.in-Some.is

pub returns-in-None : goal.returns-in-None
returns-in-None c = let a = c.args in
    by_hearer (part_of a.bus.now.part) a.registers a.bus.now.chips (sent a.bytes.now a.bits) c.heard_by.ensures c.address_byte.ensures c.in-None.is
