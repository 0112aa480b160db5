-- What the chips of a list are asked and become is, for chips whose registers are in range and a byte that is whole, what the sheet says; and they stay in range.
-- Assumes nothing.
use mathlib.Core.Path.{◌≡◌, refl, sym}
use mathlib.Core.Bool.{Bool, true, false, cond, not, ◌&&◌}
use mathlib.Core.List.{List, [], ◌∷◌, map}
use Rattle.sheet.specs.declared.Chip.{Chip}
use Rattle.sheet.specs.Parts.{part_of}
use Rattle.sheet.specs.Registers.{in_range}
use Rattle.sheet.specs.Protocol.{is_data}
use Rattle.sheet.specs.Plain.{hears, takes, chip_byte, acknowledges_byte, chip_lost, lower, smallest, acknowledged_by}
use Rattle.laws.proofs.Ranges.{range-of, in-range}
use Rattle.laws.proofs.Kept.{lost_in, part-keeps}
use Rattle.laws.proofs.Moves.{byte_still_in}
use Rattle.turns.specs.declared.BusByte.{BusByte}
use Rattle.turns.specs.Asking.{answers, taken}
use Rattle.sheet.specs.Agree.{AllIn}

module _ (h : BusByte) (whole : h.cut ≡ false) where
  pub asked : (cs : List Chip) → AllIn (part_of h.part) cs → acknowledged_by (part_of h.part) h.address h.expect h.byte cs ≡ smallest (answers h) cs
  unfolding smallest
  asked [] i = refl
  asked (c ∷ cs) i = λ j. let others = asked cs i.1 j in
      cond (hears h.address c && (not (sym whole j) && (sym i.0 j && acknowledges_byte (part_of h.part) h.expect h.byte c))) (lower c.subaddress others) others

  pub all-taken : (cs : List Chip) → AllIn (part_of h.part) cs → map (takes (part_of h.part) h.address h.expect h.byte) cs ≡ map (taken h) cs
  all-taken [] i = refl
  all-taken (c ∷ cs) i = λ j. cond (hears h.address c) (cond (sym whole j) (chip_lost (is_data h.expect) c) (cond (sym i.0 j) (chip_byte (part_of h.part) h.expect h.byte c) c)) c ∷ all-taken cs i.1 j

pub all-kept : (h : BusByte) (cs : List Chip) → AllIn (part_of h.part) cs → AllIn (part_of h.part) (map (taken h) cs)
all-kept h [] i = tt
all-kept h (c ∷ cs) i = (one (hears h.address c) h.cut (in_range (part_of h.part) c.registers), all-kept h cs i.1)
  where
    one : (t cut u : Bool) → in_range (part_of h.part) (cond t (cond cut (chip_lost (is_data h.expect) c) (cond u (chip_byte (part_of h.part) h.expect h.byte c) c)) c).registers ≡ true
    one true true u = in-range (part_of h.part) _ (lost_in (part_of h.part) (is_data h.expect) c.registers (range-of (part_of h.part) c.registers i.0))
    one true false true = byte_still_in (part_of h.part) (part-keeps h.part) h.expect h.byte c i.0
    one true false false = i.0
    one false cut u = i.0
