-- `image::put_file` meets its contract: the data records, then the end record.
-- Assumes nothing.
use mathlib.Core.List.{List, [], ◌++◌}
use Prim.Native.Nat.{ℕ, ◌+◌, ◌/◌}
use native.Mathlib.Omega.{arith}
use lib.ListN.{length}
use Rattle.image_sheet.specs.Hex.{record_of, line_of, data_lines, file_of}
use Rattle.text.specs.Texts.{Puts}
use Rattle.text.proofs.Writing.{Writing, begin, turn, last, room_for}
use Rattle.image.specs.Room.{Room}
use Rattle.image.proofs.put_file.Goals as goal

-- the data records are next
opened : (ram out : List ℕ) → Room ram (file_of ram) out → Writing 0 (file_of ram) out 0 (data_lines ((length ram + 15) / 16) 0 ram ++ line_of (record_of 1 0 [])) out
unfolding file_of
opened ram out r = begin 0 (file_of ram) out (omega (arith, r.room))

-- and then the end record
then-end : (ram out : List ℕ) {end : ℕ} {after : List ℕ} → Room ram (file_of ram) out → Puts 0 (data_lines ((length ram + 15) / 16) 0 ram) out after end → Writing 0 (file_of ram) out end (line_of (record_of 1 0 [])) after
then-end ram out r p = turn (opened ram out r) p

pub put_data-end-requires : goal.put_data-end-requires
put_data-end-requires c = let ram = c.args.ram.now in
    let fits = room_for (data_lines ((length ram + 15) / 16) 0 ram) (line_of (record_of 1 0 [])) (opened ram c.args.out.now c.requires) in
    record { sixteens = c.requires.sixteens; near = c.requires.near; room = omega (arith, fits) }

pub put_record-requires : goal.put_record-requires
put_record-requires c = record { few = omega arith; near = omega arith; room = (then-end c.args.ram.now c.args.out.now c.requires c.put_data-end.ensures).room }

pub returns : goal.returns
returns c = last (then-end c.args.ram.now c.args.out.now c.requires c.put_data-end.ensures) c.put_record.ensures
