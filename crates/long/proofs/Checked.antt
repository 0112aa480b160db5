-- A transfer and a picture by what their checks answer.
-- Assumes nothing.
use mathlib.Core.Path.{◌≡◌, ap, ◌∙◌}
use mathlib.Core.List.{List}
use Prim.Native.Nat.{ℕ}
use lib.ListN.{length}
use Rattle.sheet.specs.declared.Both.{Both}
use Rattle.sheet.specs.declared.Chips.{Chips}
use Rattle.sheet.specs.Results.{Check}
use Rattle.sheet.specs.Parts.{part_of}
use Rattle.sheet.specs.Registers.{registers_of}
use Rattle.sheet.specs.Protocol.{heard_by, Sent, address_byte}
use Rattle.sheet.specs.Checks.{or_else, check_part, check_transfer, check_picture}
use Rattle.sheet.specs.Pictures.{picture_of, seen}
use Rattle.sheet.specs.Long.{columns_of, taken, answered, transfer_call, transfer_part, picture_call, picture_part}
use Rattle.laws.proofs.First.{answered-first, seen_first}

-- what the call is, by what its checks answer
pub by-check : (part : ℕ) (n : Chips) (r : Both) (ram : List ℕ) (t : Sent) (k : Check) → or_else (check_part part) (check_transfer (part_of part) n r ram t) ≡ k
    → transfer_part part n r ram t ≡ answered k r ram (taken (part_of part) n r ram t (heard_by n (address_byte t)))
unfolding transfer_part transfer_call
by-check part n r ram t k e =
    let s = taken (part_of part) n r ram t (heard_by n (address_byte t)) in
    answered-first (check_part part) (check_transfer (part_of part) n r ram t) r ram s ∙ ap (λ (k : Check). answered k r ram s) e

-- and a picture
pub shown-by-check : (part : ℕ) (n : Chips) (r : Both) (ram : List ℕ) (g phase : ℕ) (out : List ℕ) (k : Check) → or_else (check_part part) (check_picture (part_of part) n r ram g phase (length out)) ≡ k
    → picture_part part n r ram g phase out ≡ seen k (picture_of (registers_of g r) phase (columns_of (part_of part) n g ram)) out
unfolding picture_part picture_call
shown-by-check part n r ram g phase out k e =
    seen_first (check_part part) (check_picture (part_of part) n r ram g phase (length out)) _ out
    ∙ ap (λ (k : Check). seen k (picture_of (registers_of g r) phase (columns_of (part_of part) n g ram)) out) e
