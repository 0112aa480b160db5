-- Half the RAM (paper 02, request 6) for any part with an even number of columns: its check, and what a packed transfer leaves.
-- Assumes nothing.
use mathlib.Core.Path.{◌≡◌, refl, ap, ap₂, ◌∙◌}
use mathlib.Core.Bool.{Bool}
use mathlib.Core.List.{List, ◌++◌}
use Prim.Native.Nat.{ℕ, ◌+◌, ◌*◌, ◌/◌}
use native.Mathlib.Nat.{mul_assoc}
use lib.Dec.{eqb}
use lib.ListN.{length, take, drop}
use Rattle.sheet.specs.declared.Both.{Both}
use Rattle.sheet.specs.declared.Chips.{Chips}
use Rattle.std.specs.Prelude.{Err, None, Ok, Some}
use Rattle.sheet.specs.Results.{Addressed, Check}
use Rattle.sheet.specs.declared.Refusal.TheVariants.{RamLength}
use Rattle.sheet.specs.Parts.{Part, part_of}
use Rattle.sheet.specs.Registers.{registers_of}
use Rattle.sheet.specs.Protocol.{heard_by, chips_in, Sent, address_byte}
use Rattle.sheet.specs.Checks.{unless, or_else, check_ram, check_transfer}
use Rattle.sheet.specs.Long.{begun, heard_whole, start_of, end_of, columns_of, with_columns, taken, answered, transfer_call}
use Rattle.sheet.specs.Agree.{Keeps}
use Rattle.packed_sheet.specs.Packed.{unpacked, packed, Bytes, Halves}
use Rattle.laws.proofs.Nibbles.{take-nibbles, drop-nibbles, join_nibbles}
use Rattle.laws.proofs.Kept.{whole-keeps, part-keeps}
use Rattle.laws.proofs.Fits.{Fits, fits-of, transfer-passed}
use Rattle.laws.proofs.First.{or-passed}
use Rattle.laws.proofs.Lens.{length-with, group-kept}
use Rattle.laws.proofs.Named.{columns-even}
use Rattle.laws.proofs.Packed.{length-unpacked, packed-unpacked, unpacked-packed, half_length, never-over}

module _ (K : Part) (keeps : Keeps K) (even : K.columns ≡ 2 * (K.columns / 2)) where
  checked : (n : Chips) (ram : List ℕ) → Bytes ram → check_ram K n (unpacked ram) ≡ unless (eqb (length ram) (K.columns / 2 * (n.zero + n.one))) RamLength
  unfolding check_ram
  checked n ram w =
      let size = ap (λ (k : ℕ). k * (n.zero + n.one)) even ∙ mul_assoc 2 (K.columns / 2) (n.zero + n.one) in
      ap₂ (λ (holds : Bool) (k : Check). or_else (unless holds RamLength) k) (half_length (K.columns * (n.zero + n.one)) (K.columns / 2 * (n.zero + n.one)) ram size) (never-over ram w)
      ∙ or-passed _

  -- what a group that hears leaves has as many columns as before, all below 16
  module _ (n : Chips) (r : Both) (ram : List ℕ) (t : Sent) where
    heard_packs : Fits K n r (unpacked ram) → (g : ℕ) → let after = (taken K n r (unpacked ram) t (Some g)).ram in unpacked (packed after) ≡ after
    heard_packs f g =
        let columns = unpacked ram in
        let before = begun (registers_of g r) (columns_of K n g columns) in
        let own = (heard_whole K t before).ram in
        let rest = drop (end_of K n g) columns in
        let kept = whole-keeps K (K.columns * chips_in g n) keeps t before (group-kept K n r columns f g) in
        unpacked-packed (length ram) (with_columns K n g own columns) (length-with K n r columns f g own kept.columns ∙ length-unpacked ram)
        (join_nibbles (take (start_of K n g) columns) (own ++ rest) (take-nibbles (start_of K n g) columns f.nibbles) (join_nibbles own rest kept.nibbles (drop-nibbles (end_of K n g) columns f.nibbles)))

    taken_packs : Fits K n r (unpacked ram) → (to : Addressed) → let after = (taken K n r (unpacked ram) t to).ram in unpacked (packed after) ≡ after
    taken_packs f (Some g) = heard_packs f g
    taken_packs f None = ap unpacked (packed-unpacked ram)

    result : unpacked (packed (transfer_call K n r (unpacked ram) t).ram) ≡ (transfer_call K n r (unpacked ram) t).ram
    unfolding transfer_call
    result = go (check_transfer K n r (unpacked ram) t) refl
      where
        go : (k : Check) → check_transfer K n r (unpacked ram) t ≡ k → let after = (answered k r (unpacked ram) (taken K n r (unpacked ram) t (heard_by n (address_byte t)))).ram in unpacked (packed after) ≡ after
        go (Ok _) e = taken_packs (fits-of K n r (unpacked ram) (transfer-passed K n r (unpacked ram) t e).0) (heard_by n (address_byte t))
        go (Err x) e = ap unpacked (packed-unpacked ram)

  pub halves : Halves K
  halves = record { checked = checked; back = packed-unpacked; result = result }

-- each part
pub part-halves : (part : ℕ) → Halves (part_of part)
part-halves part = halves (part_of part) (part-keeps part) (columns-even part)
