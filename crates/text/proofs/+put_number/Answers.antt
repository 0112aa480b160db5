-- `text::put_number` meets its contract, by the number: one digit, or the digits of its tenth and one more.
-- Assumes nothing.
use Rattle.std.proofs.Common.{List, [], ◌∷◌, ◌++◌, ℕ, ◌+◌, ◌/◌, ◌%◌, ◌≤◌, length, arith}
use native.Mathlib.Nat.{mod-lt}
use Rattle.log_sheet.specs.Logs.{decimal}
use Rattle.text.proofs.Writing.{Writing, begin, rest-is, turn, last, room_for}
use Rattle.text.proofs.Decimals.{more-digits}
use Rattle.text.proofs.+put_number.Goals as goal

-- the digits of the tenth are to be written, and the last one
all_digits : (at n : ℕ) (out : List ℕ) → 10 ≤ n → at + length (decimal n) ≤ length out → Writing at (decimal n) out at (decimal (n / 10) ++ ((48 + n % 10) ∷ [])) out
all_digits at n out h room = rest-is (begin at (decimal n) out room) (more-digits n h)

pub put_number-last-requires : goal.put_number-last-requires
put_number-last-requires t c = (omega (arith, c.decreases), room_for (decimal (c.args.n / 10)) _ (all_digits c.args.at c.args.n c.args.out.now (omega arith) c.requires))

pub put_digit-requires-2 : goal.put_digit-requires-2
put_digit-requires-2 t c = (mod-lt c.args.n (omega arith), (turn (all_digits c.args.at c.args.n c.args.out.now (omega arith) c.requires) c.put_number-last.ensures).room)

pub returns : goal.returns
returns t c = last (turn (all_digits c.args.at c.args.n c.args.out.now (omega arith) c.requires) c.put_number-last.ensures) c.put_digit-2.ensures
