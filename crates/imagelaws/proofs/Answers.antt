-- What a call that reads answers: refused before the file, by the file, or all of it.
-- Assumes nothing.
use mathlib.Core.Path.{◌≡◌, refl, sym, ap, ap₂, ◌∙◌}
use mathlib.Core.List.{List, ◌∷◌, ◌++◌, append-nil}
use Prim.Native.Nat.{ℕ, zero, suc, ◌*◌, ◌≤◌}
use native.Mathlib.Nat.{le_refl}
use native.Mathlib.Omega.{arith}
use lib.ListN.{length, take, drop, replicate, drop_of_length-le}
use Rattle.std.specs.Prelude.{Err, Ok}
use Rattle.sheet.specs.Results.{Written, Check}
use Rattle.sheet.specs.declared.Refusal.{Refusal}
use Rattle.sheet.specs.Parts.{part_of}
use Rattle.sheet.specs.Checks.{or_else}
use Rattle.sheet.specs.Written.{written_by}
use Rattle.image_sheet.specs.Images.{Image, image, image_of, check_file, hex_read_part}

pub take-replicate : (n m : ℕ) (a : ℕ) → n ≤ m → take n (replicate m a) ≡ replicate n a
take-replicate zero m a h = refl
take-replicate (suc n) zero a h = absurd (omega arith)
take-replicate (suc n) (suc m) a h = ap (λ (l : List ℕ). a ∷ l) (take-replicate n m a (omega arith))

-- what is read into an output that is as long
into : (columns out : List ℕ) → length columns ≡ length out → columns ++ drop (length columns) out ≡ columns
into columns out e = ap (λ (l : List ℕ). columns ++ l) (drop_of_length-le out {i = length columns} (rw e (le_refl (length out)))) ∙ append-nil columns

module _ (part n : ℕ) (file out : List ℕ) where
  -- the image, and the call by its checks
  abbrev its : Image
  its = image_of ((part_of part).columns * n) file

  by-checks : (k : Check) (i : Image) → check_file part n (length file) (length out) ≡ k → i ≡ its → written_by (or_else k i.check) i.columns out ≡ hex_read_part part n file out
  unfolding hex_read_part
  by-checks k i e f = ap₂ (λ (x : Check) (y : Image). written_by (or_else x y.check) y.columns out) (sym e) f

  pub not-read : (r : Refusal) → check_file part n (length file) (length out) ≡ Err r → record { result = Err r; out = out } ≡ hex_read_part part n file out
  not-read r e = by-checks (Err r) its e refl

  module _ (passes : check_file part n (length file) (length out) ≡ Ok tt) (columns : List ℕ) where
    pub faulty : (r : Refusal) → image (Err r) columns ≡ its → record { result = Err r; out = out } ≡ hex_read_part part n file out
    faulty r e = by-checks (Ok tt) (image (Err r) columns) passes e

    pub all_read : image (Ok tt) columns ≡ its → length columns ≡ length out → record { result = Ok (length out); out = columns } ≡ hex_read_part part n file out
    all_read e size = ap₂ (λ (k : ℕ) (l : List ℕ). record { result = Ok k; out = l }) (sym size) (sym (into columns out size)) ∙ by-checks (Ok tt) (image (Ok tt) columns) passes e
