-- `hexadecimal::read` meets its contract: the bytes read so far, and those of the digits left, are all.
-- Assumes nothing.
use mathlib.Core.Path.{◌≡◌, refl, sym, ap, ap₂, ◌∙◌}
use mathlib.Core.List.{List, [], ◌∷◌, ◌++◌, append_assoc, append-nil}
use Prim.Native.Nat.{ℕ, ◌+◌, ◌*◌, ◌<◌, ◌≤◌}
use native.Mathlib.Numerals.{add-one}
use native.Mathlib.Omega.{arith}
use lib.ListN.{length, get_or, take, drop, set, length-set}
use lib.Seq.{take_all, take-suc-set}
use Rattle.image_sheet.specs.Images.{pair_of, bytes_of}
use Rattle.hexadecimal.proofs.Digits.{digit_at, one_pair, no_pair}
use Rattle.hexadecimal.proofs.read.Invariants.{Reading}
use Rattle.hexadecimal.proofs.read.Goals as goal

turn : (text bytes : List ℕ) (i x : ℕ) → i < length bytes → x ≡ pair_of (get_or text (2 * i) 0) (get_or text (2 * i + 1) 0) → Reading text bytes i → Reading text (set bytes i x) (i + 1)
turn text bytes i x h e r = record {
  size = omega (arith, length-set bytes i x, r.size);
  so_far =
      rw (add-one i, take-suc-set bytes i x h, e, ← add-one i)
      (append_assoc (take i bytes) (pair_of (get_or text (2 * i) 0) (get_or text (2 * i + 1) 0) ∷ []) (bytes_of (drop (2 * (i + 1)) text))
      ∙ ap (λ (l : List ℕ). take i bytes ++ l) (sym (one_pair text i (omega (arith, r.size)))) ∙ r.so_far);
}

done : (text bytes : List ℕ) (i : ℕ) → length bytes ≤ i → Reading text bytes i → bytes ≡ bytes_of text
done text bytes i h r = sym (append-nil bytes) ∙ sym (ap₂ (λ (x y : List ℕ). x ++ y) (take_all i bytes h) (no_pair text i (omega (arith, r.size)))) ∙ r.so_far

pub overflow_cast-byte : goal.overflow_cast-byte
overflow_cast-byte c =
    let size = c.loop-i.invariant.size in
    omega (arith, c.pair_of.ensures.0, digit_at c.args.text.now (2 * c.loop-i.i) c.requires.1 (omega (arith, size)), digit_at c.args.text.now (2 * c.loop-i.i + 1) c.requires.1 (omega (arith, size)))

pub loop-i-preserved : goal.loop-i-preserved
loop-i-preserved c = turn c.args.text.now c.loop-i.bytes c.loop-i.i c.pair_of.result (omega arith) c.pair_of.ensures.0 c.loop-i.invariant

pub returns : goal.returns
returns c = done _ _ _ (omega arith) c.loop-i.invariant

pub loop-i-init : goal.loop-i-init
loop-i-init c = record { size = c.requires.0; so_far = refl }
