-- What the chips of a list are asked before a transfer.
use Rattle.std.specs.Prelude.{ℕ, suc, Bool, cond, ◌&&◌, not, List, [], ◌∷◌, eqb, length}
use Rattle.sheet.specs.declared.Chip.{Chip}
use Rattle.sheet.specs.Parts.{part_of}
use Rattle.sheet.specs.Plain.{hears, chip_fits}
use Rattle.starts.specs.declared.Found.{Found}
use Rattle.starts.specs.declared.Question.{Question}
use Rattle.starts.specs.declared.Question.TheVariants.{Misfit, Hears, HighUnknown, LowUnknown, DeviceUnknown}

-- whether it is no chip of a part
abbrev pub misfits : ℕ → Chip → Bool
misfits part c = not (chip_fits (part_of part) c)

-- whether it hears an address and has a mark that is unknown
abbrev pub high_unknown : ℕ → Chip → Bool
high_unknown address c = hears address c && eqb c.registers.unknown.high 1

abbrev pub low_unknown : ℕ → Chip → Bool
low_unknown address c = hears address c && eqb c.registers.unknown.low 1

abbrev pub device_unknown : ℕ → Chip → Bool
device_unknown address c = hears address c && eqb c.registers.unknown.device 1

abbrev pub yes : Question → Chip → Bool
yes (Misfit part) c = misfits part c
yes (Hears address) c = hears address c
yes (HighUnknown address) c = high_unknown address c
yes (LowUnknown address) c = low_unknown address c
yes (DeviceUnknown address) c = device_unknown address c

-- the place of the first chip of which f holds, or the count
unfoldable pub first_yes : (Chip → Bool) → List Chip → ℕ
first_yes f [] = 0
first_yes f (c ∷ cs) = cond (f c) 0 (suc (first_yes f cs))

-- what a list holds: how many chips, and where the first misfit, the first that hears, and the first that hears and has each mark unknown stand
abbrev pub found_in : ℕ → ℕ → List Chip → Found
found_in part address cs = record {
  count = length cs;
  misfit = first_yes (misfits part) cs;
  hearer = first_yes (hears address) cs;
  high = first_yes (high_unknown address) cs;
  low = first_yes (low_unknown address) cs;
  device = first_yes (device_unknown address) cs;
}
