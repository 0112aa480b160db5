-- What is shown (paper 01, "The picture"; sheet 003, 7.5.4 and table 11).
use Rattle.std.specs.Prelude.{ℕ, ◌+◌, ◌-◌, ◌/◌, ◌%◌, ◌^◌, Bool, cond, ◌&&◌, ◌||◌, not, List, [], ◌∷◌, map, eqb, ltb, Err, None, Ok, Some}
use Rattle.std.specs.Int.Count.{ones}
use Rattle.sheet.specs.declared.Registers.{Registers}
use Rattle.sheet.specs.Results.{Shown, Check, Pictured}
use Rattle.sheet.specs.Registers.{backplanes, bank_row}

-- BF is not 0 and phase is 1
abbrev pub blinked : Registers → ℕ → Bool
blinked r phase = not (eqb r.bf 0) && eqb phase 1

-- dark, or the rows from a first one on. Blinked, AB = 0 is dark and AB = 1 shows the other bank;
-- with three or four backplanes there is none, and normal blinking is assumed: dark (table 11, notes 2 and 3; paper 02, request 3)
unfoldable pub shown : Registers → ℕ → Shown
shown r phase =
    cond (eqb r.e 0 || blinked r phase && (eqb r.ab 0 || ltb 2 (backplanes r))) None
    (Some (bank_row (backplanes r) (cond (blinked r phase) (1 - r.o) r.o)))

-- a column's byte: bit r is set if the element on backplane r is lit
abbrev pub lit : ℕ → Shown → ℕ → ℕ
lit m None q = 0
lit m (Some b) q = q / 2 ^ b % 2 ^ m

-- a byte a column
unfoldable pub picture_of : Registers → ℕ → List ℕ → List ℕ
picture_of r phase ram = map (lit (backplanes r) (shown r phase)) ram

-- the number of lit elements: the ones over all columns
unfoldable pub lit_in : List ℕ → ℕ
lit_in [] = 0
lit_in (q ∷ qs) = ones q + lit_in qs

-- what a call for a picture gives: the lit elements and the buffer after it, which a refusal leaves
pub record Seen : Type 0 where
  pub result : Pictured
  pub out : List ℕ

abbrev pub seen_by : Check → Seen → List ℕ → Seen
seen_by (Ok _) s out = s
seen_by (Err x) s out = record { result = Err x; out = out }

abbrev pub seen : Check → List ℕ → List ℕ → Seen
seen check picture out = seen_by check (record { result = Ok (lit_in picture); out = picture }) out
