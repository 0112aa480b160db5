use mathlib.Core.Path.{◌≡◌}
use mathlib.Core.List.{List, ◌++◌}
use Prim.Native.Nat.{ℕ, ◌*◌}
use lib.ListN.{length, take, drop}
use Rattle.image_sheet.specs.Images.{bytes_of}
use Rattle.hexadecimal.proofs.read.Given as goal

pub record Reading (text bytes : List ℕ) (i : ℕ) : Type 0 where
  pub size : length text ≡ 2 * length bytes
  pub so_far : take i bytes ++ bytes_of (drop (2 * i) text) ≡ bytes_of text

abbrev pub invariant-loop-i : goal.invariant-loop-i
invariant-loop-i l = Reading l.text l.bytes l.i
