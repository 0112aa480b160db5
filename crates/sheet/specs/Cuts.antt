-- Request 8's law, stated: "At any cut, RAM equals what the whole bytes before it give." Of every prefix of every transfer and every bit count, in both accounts.
-- Proved in `laws` for any part.
use Rattle.std.specs.Prelude.{ℕ, ◌<◌, ◌≡◌, false, List, [], ◌∷◌, ◌++◌, map, length, Ok}
use Rattle.sheet.specs.declared.Registers.{Registers}
use Rattle.sheet.specs.declared.Both.{Both}
use Rattle.sheet.specs.declared.Chips.{Chips}
use Rattle.sheet.specs.declared.Chip.{Chip}
use Rattle.sheet.specs.Parts.{Part}
use Rattle.sheet.specs.Registers.{marked, with_marks}
use Rattle.sheet.specs.Protocol.{Sent, sent, whole, cut_data}
use Rattle.sheet.specs.Checks.{check_transfer}
use Rattle.sheet.specs.Long.{transfer_call}
use Rattle.sheet.specs.Plain.{with_registers, check_plain, plain_call}

-- some whole bytes, and so many bits of one more
abbrev pub cut_after : List ℕ → ℕ → ℕ → Sent
cut_after bytes x bits = sent (bytes ++ (x ∷ [])) bits

-- what is left of registers and of a chip without their marks
abbrev pub unmarked : Registers → Registers
unmarked r = with_marks r (marked 0)

abbrev pub both_unmarked : Both → Both
both_unmarked r = record { zero = unmarked r.zero; one = unmarked r.one }

abbrev pub chip_unmarked : Chip → Chip
chip_unmarked c = with_registers (unmarked c.registers) c

-- the long account, over the columns of its RAM
pub record LongCut (K : Part) (n : Chips) (r : Both) (columns bytes : List ℕ) (x bits : ℕ) : Type 0 where
  -- the RAM, always: also after no whole byte, and where 18 refuses the byte that is cut
  pub ram : (transfer_call K n r columns (cut_after bytes x bits)).ram ≡ (transfer_call K n r columns (whole bytes)).ram
  -- a byte that is cut and no data does nothing
  pub other : 0 < length bytes → cut_data (cut_after bytes x bits) ≡ false → transfer_call K n r columns (cut_after bytes x bits) ≡ transfer_call K n r columns (whole bytes)
  -- taken, it is answered as the whole bytes are, and changes no register but the marks
  pub answer : 0 < length bytes → check_transfer K n r columns (cut_after bytes x bits) ≡ Ok tt
      → (transfer_call K n r columns (cut_after bytes x bits)).result.answer ≡ (transfer_call K n r columns (whole bytes)).result.answer
  pub registers : check_transfer K n r columns (cut_after bytes x bits) ≡ Ok tt
      → both_unmarked (transfer_call K n r columns (cut_after bytes x bits)).result.registers ≡ both_unmarked (transfer_call K n r columns (whole bytes)).result.registers

-- the same of any list of chips
pub record PlainCut (K : Part) (cs : List Chip) (bytes : List ℕ) (x bits : ℕ) : Type 0 where
  pub columns : map (λ c. c.columns) (plain_call K cs (cut_after bytes x bits)).chips ≡ map (λ c. c.columns) (plain_call K cs (whole bytes)).chips
  pub other : 0 < length bytes → cut_data (cut_after bytes x bits) ≡ false → plain_call K cs (cut_after bytes x bits) ≡ plain_call K cs (whole bytes)
  pub answer : 0 < length bytes → check_plain K cs (cut_after bytes x bits) ≡ Ok tt → (plain_call K cs (cut_after bytes x bits)).answer ≡ (plain_call K cs (whole bytes)).answer
  pub chips : check_plain K cs (cut_after bytes x bits) ≡ Ok tt → map chip_unmarked (plain_call K cs (cut_after bytes x bits)).chips ≡ map chip_unmarked (plain_call K cs (whole bytes)).chips

-- the claim: any bytes that leave room for one more, of which 1 to 7 bits come
pub record AtAnyCut (K : Part) : Type 1 where
  pub long : (n : Chips) (r : Both) (columns bytes : List ℕ) (x bits : ℕ) → length bytes < 4096 → 0 < bits → bits < 8 → LongCut K n r columns bytes x bits
  pub plain : (cs : List Chip) (bytes : List ℕ) (x bits : ℕ) → length bytes < 4096 → 0 < bits → bits < 8 → PlainCut K cs bytes x bits
