-- store_run: what is left of the bytes gives the whole answer.
-- Assumes nothing.
use mathlib.Core.Path.{◌≡◌, sym, ap, ap₂, ◌∙◌}
use mathlib.Core.List.{List}
use Prim.Native.Nat.{ℕ, ◌+◌, ◌≤◌, ◌<◌}
use native.Mathlib.Nat.{mul-one}
use native.Mathlib.Omega.{arith}
use lib.ListN.{length, get_or, drop, drop_of_length-le}
use Rattle.lemmas.proofs.Lists.{next as next_of}
use Rattle.sheet.specs.declared.Chip.{Chip}
use Rattle.sheet.specs.declared.Registers.{Registers}
use Rattle.sheet.specs.Parts.{Part, part_of}
use Rattle.sheet.specs.Registers.{in_range, backplanes}
use Rattle.sheet.specs.Places.{advanced_by}
use Rattle.sheet.specs.Data.{width_of}
use Rattle.laws.proofs.Ranges.{range-of, in-range}
use Rattle.laws.proofs.Named.{columns-small}
use Rattle.columns.specs.Stored.{ran_over, columns_after}
use Rattle.columns.proofs.Apart.{with, byte-apart, length-after, on_in}
use Rattle.columns.proofs.store_run.Invariants.{Stored}
use Rattle.columns.proofs.store_run.Goals as goal

-- a byte more
more : (K : Part) (chip : Chip) (bytes : List ℕ) (columns : List ℕ) (r : Registers) (i : ℕ) (after : List ℕ) (next : Registers)
    → Stored K chip bytes columns r i → i < length bytes → after ≡ columns_after K chip.subaddress (get_or bytes i 0) r (width_of (backplanes r)) columns → next ≡ advanced_by K (width_of (backplanes r)) r
    → Stored K chip bytes after next (i + 1)
unfolding ran_over
more K chip bytes columns r i after next s l ec er =
    let x = get_or bytes i 0 in
    record {
      left =
          ap (ran_over K (drop (i + 1) bytes)) (ap₂ (with chip) ec er ∙ sym (byte-apart K x (with chip columns r)))
          ∙ sym (ap (λ (xs : List ℕ). ran_over K xs (with chip columns r)) (next_of bytes i l))
          ∙ s.left;
      right = ap (in_range K) er ∙ in-range K _ (on_in K (width_of (backplanes r)) r (range-of K r s.right));
      same = ap length ec ∙ length-after K chip.subaddress x r (width_of (backplanes r)) columns ∙ s.same;
    }

-- at the end none is left
done : (K : Part) (chip : Chip) (bytes : List ℕ) (columns : List ℕ) (r : Registers) (i : ℕ) → Stored K chip bytes columns r i → length bytes ≤ i → with chip columns r ≡ ran_over K bytes chip
unfolding ran_over
done K chip bytes columns r i s l = sym (ap (λ (xs : List ℕ). ran_over K xs (with chip columns r)) (drop_of_length-le bytes l)) ∙ s.left

pub put_byte-requires : goal.put_byte-requires
put_byte-requires c = (omega (arith, c.loop-byte.invariant.same, columns-small c.args.part), c.loop-byte.invariant.right)

pub loop-byte-preserved : goal.loop-byte-preserved
loop-byte-preserved c = let a = c.args in
    let K = part_of a.part in
    let r = c.loop-byte.registers in
    more K a.chip a.bytes.now c.loop-byte.columns r c.loop-byte.byte-index _ _ c.loop-byte.invariant c.loop-byte-test.true c.put_byte.ensures
    (c.pass-registers.ensures ∙ ap (λ (n : ℕ). advanced_by K n r) (mul-one (width_of (backplanes r))))

pub returns : goal.returns
returns c = let a = c.args in
    done (part_of a.part) a.chip a.bytes.now c.loop-byte.columns c.loop-byte.registers c.loop-byte.byte-index c.loop-byte.invariant (omega (arith, c.loop-byte-test.false))
