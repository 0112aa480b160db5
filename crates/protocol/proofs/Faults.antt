-- The search for the first fault, from place i to place i + 1.
-- Assumes nothing.
use mathlib.Core.Path.{◌≡◌, refl, sym, ap, ◌∙◌}
use mathlib.Core.List.{List, [], ◌∷◌}
use mathlib.Core.Bool.{Bool, true, false, cond, ◌&&◌, ◌||◌, false≢true}
use Prim.Native.Nat.{ℕ, suc, ◌+◌, ◌≤◌, ◌<◌}
use native.Mathlib.Numerals.{add-one}
use lib.ListN.{length, get_or, drop, drop_of_length-le}
use lib.Dec.{ltb}
use borrow.Author.Tests.{ltb-true, ltb-false}
use Rattle.lemmas.proofs.Lists.{next}
use Rattle.sheet.specs.declared.Marks.{Marks}
use Rattle.sheet.specs.declared.Kind.{Kind}
use Rattle.sheet.specs.declared.Expect.{Expect}
use Rattle.sheet.specs.declared.Expect.TheVariants.{Control, One, All}
use Rattle.sheet.specs.declared.Refusal.{Refusal}
use Rattle.sheet.specs.declared.Refusal.TheVariants.{UnknownPlace}
use Rattle.std.specs.Prelude.{Err, Ok}
use Rattle.sheet.specs.Results.{Check}
use Rattle.sheet.specs.Parts.{Part}
use Rattle.sheet.specs.Registers.{known}
use Rattle.sheet.specs.Checks.{unless, fault, marks_after, last_fault, fault_in}
use Rattle.sheet.specs.Protocol.{control_of}
use Rattle.sheet.specs.Protocol as protocol
use Rattle.protocol.specs.Left.{only_left}

module _ (K : Part) (cut : Bool) (u : Marks) (e : Expect) (bytes : List ℕ) (i : ℕ) (h : i < length bytes) where
  pub found : (r : Refusal) → fault K u e i (get_or bytes i 0) ≡ Err r → fault_in K cut u e i (drop i bytes) ≡ Err r
  unfolding fault_in
  found r t = rw (next bytes i h, t)

  pub go_on : fault K u e i (get_or bytes i 0) ≡ Ok tt
      → fault_in K cut u e i (drop i bytes) ≡ fault_in K cut (marks_after K u e (get_or bytes i 0)) (protocol.next e (get_or bytes i 0)) (i + 1) (drop (i + 1) bytes)
  unfolding fault_in
  go_on t = rw (next bytes i h, t, add-one i)

-- data has no fault while nothing is unknown
in_data : (K : Part) (cut : Bool) (u : Marks) (i : ℕ) (xs : List ℕ) → known u ≡ true → fault_in K cut u (All Kind.Data) i xs ≡ Ok tt
unfolding fault_in
in_data K cut u i [] t = rw t (go cut)
  where
    go : (b : Bool) → ◌≡◌ {A = Check} (cond (b && true) (Ok tt) (Ok tt)) (Ok tt)
    go true = refl
    go false = refl
in_data K cut u i (x ∷ xs) t = rw t (in_data K cut u (suc i) xs t)

pub in_run : (K : Part) (cut : Bool) (u : Marks) (e : Expect) (i : ℕ) (xs : List ℕ) → only_left true e ≡ true → known u ≡ true → fault_in K cut u e i xs ≡ Ok tt
in_run K cut u Control i xs t k = absurd (false≢true t)
in_run K cut u (One kind) i xs t k = absurd (false≢true t)
in_run K cut u (All Kind.Command) i xs t k = absurd (false≢true t)
in_run K cut u (All Kind.Data) i xs t k = in_data K cut u i xs k

pub all-looked : (K : Part) (cut : Bool) (u : Marks) (e : Expect) (bytes : List ℕ) (i : ℕ) → length bytes ≤ i → fault_in K cut u e i (drop i bytes) ≡ last_fault cut u e i
unfolding fault_in
all-looked K cut u e bytes i h = rw (drop_of_length-le bytes h)

-- after a control byte 40 all that is left is data, and its first byte, whole or cut, is the one to look at
pub of-run : (K : Part) (cut : Bool) (u : Marks) (bytes : List ℕ) (i : ℕ) → i < length bytes → get_or bytes i 0 ≡ 64
    → fault_in K cut u Control i (drop i bytes) ≡ cond (ltb (i + 1) (length bytes) || cut) (unless (known u) (UnknownPlace (i + 1))) (Ok tt)
unfolding control_of
of-run K cut u bytes i h e =
    go_on K cut u Control bytes i h (rw e)
    ∙ ap (λ (x : ℕ). fault_in K cut u (control_of x) (i + 1) (drop (i + 1) bytes)) e
    ∙ go (ltb (i + 1) (length bytes)) refl (known u) refl
  where
    either : (b : Bool) → ◌≡◌ {A = Check} (cond b (Ok tt) (Ok tt)) (Ok tt)
    either true = refl
    either false = refl

    last : (b : Bool) → ◌≡◌ {A = Check} (cond (b && true) (Err (UnknownPlace (i + 1))) (Ok tt)) (cond b (Err (UnknownPlace (i + 1))) (Ok tt))
    last true = refl
    last false = refl

    go : (more : Bool) → ltb (i + 1) (length bytes) ≡ more → (k : Bool) → known u ≡ k
        → fault_in K cut u (All Kind.Data) (i + 1) (drop (i + 1) bytes) ≡ cond (more || cut) (unless k (UnknownPlace (i + 1))) (Ok tt)
    go more em true ek = in_data K cut u (i + 1) (drop (i + 1) bytes) ek ∙ sym (either (more || cut))
    go true em false ek = found K cut u (All Kind.Data) bytes (i + 1) (ltb-true (i + 1) (length bytes) em) (UnknownPlace (i + 1)) (rw ek)
    go false em false ek = all-looked K cut u (All Kind.Data) bytes (i + 1) (ltb-false (i + 1) (length bytes) em) ∙ rw ek (last cut)
