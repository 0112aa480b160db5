-- A call of the packed RAM is the one of the unpacked RAM, and packs what that leaves.
-- Assumes nothing.
use mathlib.Core.Path.{◌≡◌, refl, sym, ap, ◌∙◌}
use mathlib.Core.Bool.{Bool, true, false, cond, ◌&&◌}
use mathlib.Core.List.{List}
use Prim.Native.Nat.{ℕ}
use lib.Dec.{eqb}
use lib.ListN.{length, get_or}
use Rattle.sheet.specs.declared.Chips.{Chips}
use Rattle.sheet.specs.Refusals.{numbers, check_numbers}
use Rattle.sheet.specs.Parts.{part_of}
use Rattle.sheet.specs.Protocol.{Sent}
use Rattle.sheet.specs.Long.{power_on_part, transfer_part}
use Rattle.packed_sheet.specs.Packed.{unpacked, packed, power_on_packed, transfer_packed}
use Rattle.laws.proofs.Packed.{packed-unpacked}
use Rattle.wire.specs.Bytes.{both_of, both_bytes}
use Rattle.lent_long.specs.LongCalls.{Called, power_on_c, transfer_c}
use Rattle.cabi.specs.Calls.{packed_power_on_c, packed_transfer_c}

abbrev packed_called : Called → Called
packed_called c = record { number = c.number; registers = c.registers; buffer = packed c.buffer; answer = c.answer }

repacked : {c : Called} {number : ℕ} {registers answer : List ℕ} (ram : List ℕ) → c ≡ record { number = number; registers = registers; buffer = unpacked ram; answer = answer }
    → packed_called c ≡ record { number = number; registers = registers; buffer = ram; answer = answer }
repacked {number = number} {registers = registers} {answer = answer} ram e =
    ap packed_called e ∙ ap (λ (l : List ℕ). record { number = number; registers = registers; buffer = l; answer = answer }) (packed-unpacked ram)

-- also where 255 is returned and nothing is written
sized_packs : (sizes : Bool) (registers ram answer : List ℕ) (c d : Called) → c ≡ packed_called d
    → cond sizes c (record { number = 255; registers = registers; buffer = ram; answer = answer }) ≡ packed_called (cond sizes d (record { number = 255; registers = registers; buffer = unpacked ram; answer = answer }))
sized_packs true registers ram answer c d e = e
sized_packs false registers ram answer c d e = ap (λ (l : List ℕ). record { number = 255; registers = registers; buffer = l; answer = answer }) (sym (packed-unpacked ram))

module _ (part : ℕ) (n : Chips) (registers ram answer : List ℕ) {number : ℕ} {registers' answer' : List ℕ} where
  pub power_on_packs : power_on_c part n (unpacked ram) registers answer ≡ record { number = number; registers = registers'; buffer = unpacked ram; answer = answer' }
      → packed_power_on_c part n ram registers answer ≡ record { number = number; registers = registers'; buffer = ram; answer = answer' }
  unfolding power_on_c packed_power_on_c power_on_packed
  power_on_packs e =
      let p = power_on_part part n (unpacked ram) in
      let k = check_numbers p.check in
      sized_packs (eqb (length registers) 24 && eqb (length answer) 6) registers ram answer (record { number = get_or k 0 0; registers = both_bytes p.registers; buffer = ram; answer = k })
      (record { number = get_or k 0 0; registers = both_bytes p.registers; buffer = unpacked ram; answer = k })
      (ap (λ (l : List ℕ). record { number = get_or k 0 0; registers = both_bytes p.registers; buffer = l; answer = k }) (sym (packed-unpacked ram)))
      ∙ repacked ram e

  pub transfer_packs : (t : Sent) (after : List ℕ) → transfer_c part n registers (unpacked ram) t answer ≡ record { number = number; registers = registers'; buffer = unpacked after; answer = answer' }
      → packed_transfer_c part n registers ram t answer ≡ record { number = number; registers = registers'; buffer = after; answer = answer' }
  unfolding transfer_c packed_transfer_c transfer_packed
  transfer_packs t after e =
      let s = transfer_part part n (both_of registers) (unpacked ram) t in
      let k = numbers (part_of part) s.result.answer in
      let left : Called = record { number = get_or k 0 0; registers = both_bytes s.result.registers; buffer = s.ram; answer = k } in
      sized_packs (eqb (length registers) 24 && eqb (length answer) 6) registers ram answer (packed_called left) left refl ∙ repacked after e
