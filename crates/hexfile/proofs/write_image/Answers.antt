-- `hexfile::write_image` is safe: what is written lies inside the buffer.
-- Assumes nothing.
use Rattle.std.proofs.Common.{◌≡◌, ℕ, ◌≤◌, List, length, arith, sym, ap, ◌∙◌, Ok}
use lib.Seq.{length-take-le}
use Rattle.sheet.specs.Results.{Written}
use Rattle.sheet.specs.Written.{WrittenAfter}
use Rattle.imagelaws.proofs.Calls.{written-inside}
use Rattle.hexfile.proofs.write_image.Goals as goal

-- of a call that writes no more than the buffer had
inside : (s : WrittenAfter) (result : Written) (before after : List ℕ) (count : ℕ) → ((size : ℕ) → s.result ≡ Ok size → size ≤ length before) → ◌≡◌ {A = WrittenAfter} (record { result = result; out = after }) s
    → result ≡ Ok count → length after ≡ length before → count ≤ length after
inside s result before after count few e is same = omega (arith, few count (sym (ap (λ (a : WrittenAfter). a.result) e) ∙ is), same)

pub slice_bounds-file-end : goal.slice_bounds-file-end
slice_bounds-file-end c = inside _ _ _ _ _ (written-inside _ _ _ _) c.write.ensures.out_after c.in-Ok.is c.write.auto.out

pub slice_bounds-write_file-end : goal.slice_bounds-write_file-end
slice_bounds-write_file-end c = sym (length-take-le _ _ (inside _ _ _ _ _ (written-inside _ _ _ _) c.write.ensures.out_after c.in-Ok.is c.write.auto.out))
