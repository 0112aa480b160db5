use mathlib.Core.List.{List}
use Prim.Native.Nat.{ℕ, ◌+◌, ◌*◌, ◌/◌}
use lib.ListN.{length}
use Rattle.image_sheet.specs.Hex.{data_lines}
use Rattle.text.proofs.Writing.{Writing}
use Rattle.imagelaws.proofs.Sizes.{lines_from}
use Rattle.image.proofs.put_data.Given as goal

abbrev pub all : List ℕ → List ℕ
all ram = data_lines ((length ram + 15) / 16) 0 ram

abbrev pub invariant-loop-i : goal.invariant-loop-i
invariant-loop-i l = Writing 0 (all l.ram) l.initial.out l.place (lines_from l.ram (16 * l.i)) l.out
