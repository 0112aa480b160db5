use Prim.Native.Nat.{◌*◌}
use Rattle.lemmas.proofs.Mapped.{Mapped}
use Rattle.std.specs.Prelude.{Some}
use Rattle.sheet.specs.Pictures.{lit}
use Rattle.packed_sheet.specs.Packed.{unpacked}
use Rattle.picture.proofs.draw_pairs.Given as goal

abbrev pub invariant-loop-i : goal.invariant-loop-i
invariant-loop-i l = Mapped (lit l.height (Some l.first)) (unpacked l.ram) l.out (2 * l.i)
