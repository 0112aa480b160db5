-- What the chips of a list answer to a byte, and what becomes of each, said of every chip. For chips in range it is the sheet's meaning (proofs/Agreeing).
use Rattle.std.specs.Prelude.{ℕ, min, Bool, cond, ◌&&◌, not, List, [], ◌∷◌, ltb, None}
use Rattle.sheet.specs.declared.Chip.{Chip}
use Rattle.sheet.specs.Parts.{part_of}
use Rattle.sheet.specs.Protocol.{is_data}
use Rattle.columns.specs.Stored.{room_in, chip_ran}
use Rattle.turns.specs.declared.Said.{Said}
use Rattle.sheet.specs.Plain.{hears, lower, chip_stepped, chip_answers, chip_lost}
use Rattle.turns.specs.declared.BusByte.{BusByte}

-- whether it hears and acknowledges a byte, which is not cut
abbrev pub answers : BusByte → Chip → Bool
answers h c = hears h.address c && (not h.cut && chip_answers (part_of h.part) h.expect h.byte c)

-- a count, or one instead of none
abbrev pub one_or : ℕ → ℕ
one_or n = cond (ltb n 1) 1 n

-- how many bytes from it on, of so many, the chip answers alike
abbrev pub alike_of : BusByte → Chip → ℕ → ℕ
alike_of h c most = cond (ltb most 2) most (cond (hears h.address c) (one_or (min (room_in (part_of h.part) c.registers) most)) most)

abbrev pub nothing_said : ℕ → Said
nothing_said most = record { who = None; count = most }

abbrev pub said_with : BusByte → Chip → Said → Said
said_with h c s = record { who = cond (answers h c) (lower c.subaddress s.who) s.who; count = alike_of h c s.count }

-- what the chips say of it: who acknowledges it, and how many are answered alike
unfoldable pub said_by : BusByte → ℕ → List Chip → Said
said_by h most [] = nothing_said most
said_by h most (c ∷ cs) = said_with h c (said_by h most cs)

-- the chip after data bytes, one after the other
abbrev pub ran_by : BusByte → List ℕ → Chip → Chip
ran_by h xs c = cond (hears h.address c) (chip_ran (part_of h.part) xs c) c

-- the chip after a byte
abbrev pub taken : BusByte → Chip → Chip
taken h c = cond (hears h.address c) (cond h.cut (chip_lost (is_data h.expect) c) (chip_stepped (part_of h.part) h.expect h.byte c)) c
