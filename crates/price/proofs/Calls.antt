-- What both calls answer: refused by their sizes, by 15, or what is written.
-- Assumes nothing.
use mathlib.Core.Path.{◌≡◌, refl, sym, ap, ◌∙◌}
use mathlib.Core.List.{List, [], ◌++◌}
use Prim.Native.Nat.{ℕ, ◌≤◌}
use lib.ListN.{length, take, drop, take-append-drop}
use lib.Seq.{length-take-le}
use Rattle.std.specs.Prelude.{Err, Ok}
use Rattle.sheet.specs.Results.{Written, Check}
use Rattle.sheet.specs.declared.Refusal.{Refusal}
use Rattle.sheet.specs.Checks.{or_else}
use Rattle.sheet.specs.Written.{written_by}
use Rattle.price_sheet.specs.Price.{Spelled, check_price, Sizes, price_by}
use Rattle.laws.proofs.Spelling.{sizes}
use Rattle.price.specs.Fronts.{Put, settled}

module _ (p : Spelled) (bytes : List ℕ) (room : ℕ) (out after : List ℕ) where
  by-fault : (k : Check) (w : Written) → p.fault ≡ k → room ≤ length out → Put p bytes room out after w → settled w (take room out) after ≡ written_by k bytes out
  unfolding settled
  by-fault (Ok tt) w e h f =
      ap (λ (r : Written). settled r (take room out) after) (f.result ∙ ap (λ (k : Check). (written_by k bytes []).result) e)
      ∙ ap (λ (l : List ℕ). record { result = Ok (length bytes); out = l }) (f.whole e)
  by-fault (Err x) w e h f =
      ap (λ (r : Written). settled r (take room out) after) (f.result ∙ ap (λ (k : Check). (written_by k bytes []).result) e)
      ∙ ap (λ (l : List ℕ). record { result = Err x; out = take room out ++ l }) (ap (λ (n : ℕ). drop n after) (length-take-le room out h) ∙ f.far)
      ∙ ap (λ (l : List ℕ). record { result = Err x; out = l }) (take-append-drop room out)

-- a call whose check of the sizes answers k
module _ (size mode room : ℕ) (out : List ℕ) (k : Check) (told : k ≡ check_price size mode room (length out)) where
  pub refused : (p : Spelled) (bytes : List ℕ) (x : Refusal) → k ≡ Err x → record { result = Err x; out = out } ≡ price_by (check_price size mode room (length out)) p bytes out
  refused p bytes x e = sym (ap (λ (c : Check). written_by (or_else c p.fault) bytes out) (sym told ∙ e))

  pub fits : k ≡ Ok tt → Sizes size mode room (length out)
  fits e = sizes size mode room (length out) (sym told ∙ e)

  pub taken : {p : Spelled} {bytes after : List ℕ} {w : Written} → k ≡ Ok tt → Put p bytes room out after w → settled w (take room out) after ≡ price_by (check_price size mode room (length out)) p bytes out
  taken {p} {bytes} {after} {w} e f =
      by-fault p bytes room out after p.fault w refl (fits e).enough f ∙ sym (ap (λ (c : Check). written_by (or_else c p.fault) bytes out) (sym told ∙ e))
