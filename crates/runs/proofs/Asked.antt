-- A run from where the registers point is a run of their mode and bank from their position.
-- Assumes nothing.
use mathlib.Core.Path.{◌≡◌}
use mathlib.Core.List.{List}
use Prim.Native.Nat.{ℕ}
use native.Mathlib.Omega.{arith}
use Rattle.sheet.specs.declared.Registers.{Registers}
use Rattle.sheet.specs.Parts.{part_of}
use Rattle.sheet.specs.Registers.{backplanes}
use Rattle.sheet.specs.Places.{position}
use Rattle.laws.proofs.Ranges.{range-of, rows_fit}
use Rattle.laws.proofs.Named.{position-small}
use Rattle.runs.specs.Asks.{Run, Writable}

pub run-asked : (part : ℕ) (r : Registers) (bytes ram : List ℕ) (v m : ℕ) → Writable (part_of part) ram r bytes → v ≡ position (part_of part) r → m ≡ backplanes r → Run ram v m r.i bytes
run-asked part r bytes ram v m w ev em =
    let h = range-of (part_of part) r w.range in
    let fit = rows_fit r r.i h.m-in h.i-in in
    record { some = rw em fit.0; four = rw em (omega (arith, fit.1)); two = h.i-in; near = rw ev (omega (arith, position-small part r h)); short = w.short; few = w.few; nibbles = w.nibbles }
