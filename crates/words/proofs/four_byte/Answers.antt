-- `words::four_byte` meets its contract: two columns of four rows, all of them new.
-- Assumes nothing.
use native.Mathlib.Omega.{arith}
use lib.ListN.{length-set}
use Rattle.laws.proofs.Nibbles.{nibbles-of}
use Rattle.words.proofs.Bytes.{four-put}
use Rattle.words.proofs.four_byte.Goals as goal

pub bounds-ram-at-2 : goal.bounds-ram-at-2
bounds-ram-at-2 c = simp length-set (omega arith)

pub returns : goal.returns
returns c = four-put c.args.x c.args.at c.reversed-y.result c.args.ram.now c.reversed-y.ensures (nibbles-of 0 c.args.ram.now c.requires.1)
