-- What the bytes of a transfer keep of a group, if the commands keep registers in range; those of both parts do.
-- Assumes nothing.
use mathlib.Core.Path.{◌≡◌, ◌∙◌}
use mathlib.Core.Bool.{Bool, true, false}
use mathlib.Core.List.{List, [], ◌∷◌}
use Prim.Native.Nat.{ℕ, ◌+◌}
use native.Mathlib.Nat.{le_of_suc-le-suc}
use native.Mathlib.Omega.{arith}
use lib.ListN.{length, drop}
use Rattle.sheet.specs.declared.Registers.{Registers}
use Rattle.sheet.specs.declared.Expect.{Expect}
use Rattle.sheet.specs.declared.Kind.{Kind}
use Rattle.sheet.specs.declared.Expect.TheVariants.{Control, One, All}
use Rattle.sheet.specs.Parts.{Part, part_of, pcf8532, pca85133}
use Rattle.sheet.specs.Registers.{backplanes, bank_row, marked, lost_by}
use Rattle.sheet.specs.Commands.{obeyed}
use Rattle.sheet.specs.Protocol.{next, Sent, whole_of, cut_data}
use Rattle.sheet.specs.Long.{Group, byte_of, byte, data_byte, heard, heard_whole}
use Rattle.sheet.specs.Places.{position, at_position}
use Rattle.sheet.specs.Data.{width_of}
use Rattle.sheet.specs.Agree.{Keeps}
use Rattle.laws.proofs.Ranges.{InRange, range-of, in-range, marked_in, pcf8532-kept, pca85133-kept, rows_fit}
use Rattle.laws.proofs.Named.{of-both}
use Rattle.laws.proofs.Steps.{stays_in}
use Rattle.laws.proofs.Runs.{length-bits}
use Rattle.laws.proofs.Nibbles.{Nibbles, bits-nibbles}

-- a group of so many columns: registers in range, every column below 16
pub record Kept (K : Part) (size : ℕ) (s : Group) : Type 0 where
  pub range : InRange K s.registers
  pub columns : length s.ram ≡ size
  pub nibbles : Nibbles s.ram

-- a byte that is cut keeps P and A, and a mark is 0 or 1
pub lost_in : (K : Part) (is_data : Bool) (r : Registers) → InRange K r → InRange K (lost_by is_data r)
lost_in K true r h = marked_in K r (marked 1) h (record { high-in = omega arith; low-in = omega arith; device-in = omega arith })
lost_in K false r h = h

module _ (K : Part) (n : ℕ) (keeps : Keeps K) where
  command-range : (r : Registers) (x : ℕ) → InRange K r → InRange K (obeyed r (K.command x))
  command-range r x h = range-of K (obeyed r (K.command x)) (keeps r x (in-range K r h))

  data_keeps : (x : ℕ) (s : Group) → Kept K n s → Kept K n (data_byte K x s)
  unfolding data_byte at_position
  data_keeps x s k =
      let r = s.registers in
      let h = k.range in
      let m = backplanes r in
      let u : ℕ = position K r + width_of m in
      let fit = rows_fit r r.i h.m-in h.i-in in
      record {
        range = stays_in K u r h;
        columns = length-bits 8 m (bank_row m r.i) (position K r) x s.ram ∙ k.columns;
        nibbles = bits-nibbles 8 m (bank_row m r.i) (position K r) x s.ram fit.0 (le_of_suc-le-suc fit.1) k.nibbles;
      }

  kind_keeps : (k : Kind) (x : ℕ) (s : Group) → Kept K n s → Kept K n (byte_of K k x s)
  kind_keeps Kind.Command x s k = record { range = command-range s.registers x k.range; columns = k.columns; nibbles = k.nibbles }
  kind_keeps Kind.Data x s k = data_keeps x s k

  pub byte-keeps : (e : Expect) (x : ℕ) (s : Group) → Kept K n s → Kept K n (byte K e x s)
  byte-keeps Control x s k = record { range = k.range; columns = k.columns; nibbles = k.nibbles }
  byte-keeps (One t) x s k = kind_keeps t x s k
  byte-keeps (All t) x s k = kind_keeps t x s k

  pub heard-keeps : (xs : List ℕ) (e : Expect) (s : Group) → Kept K n s → Kept K n (heard K e xs s)
  unfolding heard
  heard-keeps [] e s k = k
  heard-keeps (x ∷ xs) e s k = heard-keeps xs (next e x) (byte K e x s) (byte-keeps e x s k)

  pub whole-keeps : (t : Sent) (s : Group) → Kept K n s → Kept K n (heard_whole K t s)
  whole-keeps t s k =
      let w = heard-keeps (drop 1 (whole_of t)) Control s k in
      record { range = lost_in K (cut_data t) _ w.range; columns = w.columns; nibbles = w.nibbles }

-- P stays below 160 and A at most 4
pub pcf8532-keeps : Keeps pcf8532
pcf8532-keeps r x h = in-range pcf8532 (obeyed r (pcf8532.command x)) (pcf8532-kept r x (range-of pcf8532 r h))

-- below 80, and at most 8
pub pca85133-keeps : Keeps pca85133
pca85133-keeps r x h = in-range pca85133 (obeyed r (pca85133.command x)) (pca85133-kept r x (range-of pca85133 r h))

pub part-keeps : (part : ℕ) → Keeps (part_of part)
part-keeps part = of-both Keeps part pcf8532-keeps pca85133-keeps
