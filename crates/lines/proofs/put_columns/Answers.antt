-- `lines::put_columns` meets its contract: a column a turn; what is left gives the whole.
-- Assumes nothing.
use mathlib.Core.Path.{◌≡◌}
use mathlib.Core.List.{List, ◌++◌}
use Prim.Native.Nat.{ℕ, ◌+◌, ◌<◌}
use native.Mathlib.Numerals.{add-one}
use lib.ListN.{length, get_or, drop, drop_of_length-le}
use Rattle.lemmas.proofs.Lists.{next}
use Rattle.log_sheet.specs.Logs.{column_line, column_lines}
use Rattle.text.proofs.Writing.{begin, rest-is, turn, done, room_for, puts-length}
use Rattle.lines.proofs.put_columns.Goals as goal

-- column i's line, and those after it
one_more : (g : ℕ) (picture : List ℕ) (i : ℕ) → i < length picture → column_lines g i (drop i picture) ≡ column_line g i (get_or picture i 0) ++ column_lines g (i + 1) (drop (i + 1) picture)
unfolding column_lines
one_more g picture i h = rw (next picture i h, add-one i)

pub put_column-place-requires : goal.put_column-place-requires
put_column-place-requires c = let a = c.args in
    room_for (column_line a.group c.loop-i.i (get_or a.picture.now c.loop-i.i 0)) _ (rest-is c.loop-i.invariant (one_more a.group a.picture.now c.loop-i.i c.loop-i-test.true))

pub loop-i-preserved : goal.loop-i-preserved
loop-i-preserved c = let a = c.args in
    turn (rest-is c.loop-i.invariant (one_more a.group a.picture.now c.loop-i.i c.loop-i-test.true)) c.put_column-place.ensures

pub returns : goal.returns
unfolding column_lines
returns c = done (rest-is c.loop-i.invariant (rw (drop_of_length-le c.args.picture.now c.loop-i-test.false)))

pub loop-i-init : goal.loop-i-init
loop-i-init c = begin _ _ _ c.requires

pub shape_of-out : goal.shape_of-out
shape_of-out c = puts-length (returns c)
