-- A refused call gives C back the bytes that it lent, and power-on of a chip writes its registers only.
-- Assumes nothing.
use mathlib.Core.Path.{◌≡◌, refl, ap, ◌∙◌}
use mathlib.Core.List.{List, ◌++◌}
use Prim.Native.Nat.{ℕ, ◌%◌}
use native.Mathlib.Omega.{arith}
use lib.ListN.{length, take}
use borrow.Author.Tests.{eq-eqb}
use Rattle.sheet.specs.declared.Both.{Both}
use Rattle.sheet.specs.declared.Chips.{Chips}
use Rattle.std.specs.Prelude.{Err, None, Ok, Some}
use Rattle.sheet.specs.Results.{Addressed, Check}
use Rattle.sheet.specs.declared.Refusal.{Refusal}
use Rattle.sheet.specs.Parts.{Part, part_of}
use Rattle.sheet.specs.Registers.{power_on}
use Rattle.sheet.specs.Protocol.{heard_by, Sent, address_byte}
use Rattle.sheet.specs.Checks.{check_part, check_transfer}
use Rattle.sheet.specs.Long.{taken, answered, transfer_call, transfer_part}
use Rattle.sheet.specs.Plain.{chip_power_on_part}
use Rattle.lent.specs.Lent.{lent_call}
use Rattle.wire.specs.Bytes.{bytes_of, both_of, both_bytes}
use Rattle.wire.proofs.Given.{Bytes, both-back, unwritten}
use Rattle.lent_long.specs.LongCalls.{transfer_c}
use Rattle.cabi.specs.Calls.{chip_power_on_c, plain_c}

-- power-on of a chip writes its registers only, taken or refused
pub powered_chip : (part : ℕ) (chip answer : List ℕ) → length chip ≡ 174 → length answer ≡ 6 → (chip_power_on_c part chip answer).buffer ≡ take 162 chip ++ bytes_of power_on
unfolding chip_power_on_c chip_power_on_part
powered_chip part chip answer e six = rw (eq-eqb (length chip) 174 e, eq-eqb (length answer) 6 six) (unwritten chip (bytes_of power_on) e)

-- ---- refused

-- a refused transfer has the registers and the RAM that it was given
refused : (K : Part) (n : Chips) (r : Both) (ram : List ℕ) (t : Sent) (x : Refusal) → (transfer_call K n r ram t).result.answer ≡ Err x
    → ((transfer_call K n r ram t).result.registers ≡ r) × ((transfer_call K n r ram t).ram ≡ ram)
unfolding transfer_call
refused K n r ram t x = by (check_transfer K n r ram t) (heard_by n (address_byte t))
  where
    by : (k : Check) (h : Addressed) → let a = answered k r ram (taken K n r ram t h) in a.result.answer ≡ Err x → (a.result.registers ≡ r) × (a.ram ≡ ram)
    by (Err y) h e = (refl, refl)
    by (Ok _) (Some g) e = let z : ◌≡◌ {A = ℕ} 0 1 = cc in absurd (omega arith)
    by (Ok _) None e = let z : ◌≡◌ {A = ℕ} 0 1 = cc in absurd (omega arith)

-- of an unknown part too
refused-part : (part : ℕ) (n : Chips) (r : Both) (ram : List ℕ) (t : Sent) (x : Refusal) → (transfer_part part n r ram t).result.answer ≡ Err x
    → ((transfer_part part n r ram t).result.registers ≡ r) × ((transfer_part part n r ram t).ram ≡ ram)
unfolding transfer_part
refused-part part n r ram t x = by (check_part part)
  where
    by : (k : Check) → let a = answered k r ram (transfer_call (part_of part) n r ram t) in a.result.answer ≡ Err x → (a.result.registers ≡ r) × (a.ram ≡ ram)
    by (Ok _) e = refused (part_of part) n r ram t x e
    by (Err y) e = (refl, refl)

-- a refused transfer gives C back the registers byte for byte, and the RAM
pub refused-transfer : (part : ℕ) (n : Chips) (registers ram : List ℕ) (t : Sent) (answer : List ℕ) (x : Refusal) → length registers ≡ 24 → Bytes registers → length answer ≡ 6
    → (transfer_part part n (both_of registers) ram t).result.answer ≡ Err x
    → let c = transfer_c part n registers ram t answer in (c.registers ≡ registers) × (c.buffer ≡ ram)
unfolding transfer_c
refused-transfer part n registers ram t answer x e w six h =
    let same = refused-part part n (both_of registers) ram t x h in
    rw (eq-eqb (length registers) 24 e, eq-eqb (length answer) 6 six) (ap both_bytes same.0 ∙ both-back registers e w, same.1)

-- and one of the plain account gives back the chips
pub refused-plain : (part : ℕ) (chips : List ℕ) (t : Sent) (answer : List ℕ) (x : Refusal) → length chips % 174 ≡ 0 → length answer ≡ 6 → (lent_call part chips t).answer ≡ Err x
    → (plain_c part chips t answer).buffer ≡ chips
unfolding plain_c lent_call
refused-plain part chips t answer x e six h = rw (eq-eqb (length chips % 174) 0 e, eq-eqb (length answer) 6 six, h) refl
