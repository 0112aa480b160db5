-- What a record is, is how the walk over a file goes on.
-- Assumes nothing.
use mathlib.Core.Path.{◌≡◌, refl, sym, subst, ◌∙◌}
use mathlib.Core.Bool.{Bool, true, false, cond}
use mathlib.Core.List.{List, ◌∷◌}
use Prim.Native.Nat.{ℕ, ◌+◌, ◌<◌}
use native.Mathlib.Omega.{arith}
use lib.Dec.{eqb}
use lib.ListN.{length, drop}
use lib.Seq.{drop-drop}
use Rattle.lemmas.proofs.Lists.{next}
use Rattle.std.specs.Prelude.{Result, Err, Ok}
use Rattle.sheet.specs.declared.Refusal.{Refusal}
use Rattle.sheet.specs.Results.{Check}
use Rattle.image_sheet.specs.Images.{bytes_of, digits_in, size_in, kind_of, stored, image, ended, or_fault, fault_in, image_from, a-record}
use Rattle.hexrecord.specs.declared.Step.{Step}
use Rattle.hexrecord.specs.declared.Step.TheVariants.{Next, Last}
use Rattle.hexrecord.specs.Lines.{step_of, given_after}

module _ (file : List ℕ) (given : List ℕ) (at : ℕ) where
  -- the walk from a place on, by the step there and what is given after it
  abbrev pub Stepped : List ℕ → Result Step Refusal → Type 0
  Stepped after (Ok (Next next)) = (at < next) × (image_from at given (drop at file) ≡ image_from next after (drop next file))
  Stepped after (Ok (Last end)) = image_from at given (drop at file) ≡ ended after (drop end file)
  Stepped after (Err r) = image_from at given (drop at file) ≡ image (Err r) after

  -- what is left there
  abbrev text : List ℕ
  text = drop at file

  abbrev bytes : List ℕ
  bytes = bytes_of (digits_in text)

  -- one record of it
  walk : at < length file → image_from at given text ≡ or_fault (fault_in given at text) given (cond (eqb (kind_of bytes) 1) (ended (stored given bytes) (drop (at + size_in text) file)) (image_from (at + size_in text) (stored given bytes) (drop (at + size_in text) file)))
  walk h = rw (← drop-drop (size_in text) at file) (at_head text (next file at h))
    where
      at_head : (l : List ℕ) {c : ℕ} {cs : List ℕ} → l ≡ c ∷ cs → image_from at given l ≡ or_fault (fault_in given at l) given (cond (eqb (kind_of (bytes_of (digits_in l))) 1) (ended (stored given (bytes_of (digits_in l))) (drop (size_in l) l)) (image_from (at + size_in l) (stored given (bytes_of (digits_in l))) (drop (size_in l) l)))
      at_head l {c} {cs} e = rw e (a-record at given c cs)

  abbrev after_it : ℕ
  after_it = at + size_in text

  further : at < after_it
  unfolding size_in
  further = omega arith

  by_kind : at < length file → fault_in given at text ≡ Ok tt → (b : Bool) → eqb (kind_of bytes) 1 ≡ b → Stepped (stored given bytes) (cond b (Ok (Last after_it)) (Ok (Next after_it)))
  by_kind h e true t = walk h ∙ rw (e, t)
  by_kind h e false t = (further, walk h ∙ rw (e, t))

  by-fault : at < length file → (k : Check) → fault_in given at text ≡ k → Stepped (given_after k given bytes) (step_of k (kind_of bytes) after_it)
  by-fault h (Ok _) e = by_kind h e (eqb (kind_of bytes) 1) refl
  by-fault h (Err r) e = walk h ∙ rw e

  pub stepped : at < length file → (s : Result Step Refusal) (after : List ℕ) → s ≡ step_of (fault_in given at text) (kind_of bytes) after_it → after ≡ given_after (fault_in given at text) given bytes → Stepped after s
  stepped h s after e f = subst (λ (l : List ℕ). Stepped l s) (sym f) (subst (Stepped (given_after (fault_in given at text) given bytes)) (sym e) (by-fault h (fault_in given at text) refl))
