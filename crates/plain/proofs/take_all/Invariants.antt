-- take_all: in the turn at i the first i of the chips that the turn reaches have taken the bytes.
-- Assumes nothing.
use Rattle.std.proofs.Common.{◌≡◌, ◌≤◌, ℕ, List}
use lib.ListN.{take}
use Rattle.walks.proofs.Firsts.{first_of}
use Rattle.sheet.specs.declared.Chip.{Chip}
use Rattle.turns.specs.declared.Turn.{Turn}
use Rattle.turns.specs.Turns.{taken_by}
use Rattle.plain.proofs.take_all.Given as goal

pub record Taken (bytes : List ℕ) (turn : Turn) (count limit : ℕ) (chips₀ chips : List Chip) (i : ℕ) : Type 0 where
  pub so_far : chips ≡ first_of (taken_by bytes turn count) i chips₀
  pub most : i ≤ limit

abbrev pub invariant-loop-chip : goal.invariant-loop-chip
invariant-loop-chip l = Taken l.bytes l.turn l.count l.limit (take l.limit l.fn.chips) l.chip-items l.chip-index
