-- What is accepted gives each column exactly once: the values that the records of a file hold for it are the one that is read.
-- Assumes nothing.
use mathlib.Core.Path.{◌≡◌, refl, sym, ap, ap₂, subst, ◌∙◌}
use mathlib.Core.Logic.{⊎_elim, inl, inr, ◌⊎◌}
use mathlib.Core.Bool.{Bool, true, false, cond, true≢false}
use mathlib.Core.List.{List, [], ◌∷◌, ◌++◌}
use Prim.Native.Nat.{ℕ, zero, suc, ◌+◌, ◌-◌, ◌≤◌, ◌<◌}
use native.Mathlib.Omega.{arith}
use lib.Dec.{eqb, ltb}
use lib.ListN.{length, get_or, set, take, drop, replicate, length-set, length-replicate, get_or-replicate, length-take}
use lib.Seq.{sets, length-sets, get_or-set_same, get_or-set_other, drop-cons, drop-set-lt}
use borrow.Author.Tests.{eq-eqb, ne_eqb, ltb-true, ltb-false, leb-true}
use Rattle.lemmas.proofs.Tests.{both_true}
use Rattle.lemmas.proofs.Order.{equal_or_not}
use Rattle.std.specs.Prelude.{Err, Ok}
use Rattle.sheet.specs.Results.{Check}
use Rattle.sheet.specs.declared.Refusal.{Refusal}
use Rattle.sheet.specs.declared.Refusal.TheVariants.{RamByte, RecordForm, AddressOutside, AddressTwice, NoEnd}
use Rattle.sheet.specs.Checks.{unless, passed, over_in}
use Rattle.image_sheet.specs.Images.{bytes_of, digits_in, size_in, count_of, address_of, kind_of, data_of, is_line, inside, none_given, head_fault, data_fault, fault_of, fault_in, stored, Image, image, missing_in, ended, or_fault, image_in, image_from, image_of}
use Rattle.image_sheet.specs.Covered.{values_at, values_in, Covered, Accepted}
use Rattle.laws.proofs.Fits.{both_pass, unless-passes}
use Rattle.laws.proofs.Nibbles.{nibbles-of}

-- ---- one record's data, stored from an address on

-- below the address nothing is given, and nothing changes
below : (c a : ℕ) (columns given : List ℕ) → c < a → (values_at c a columns ≡ []) × (get_or (sets given a columns) c 0 ≡ get_or given c 0)
unfolding values_at
below c a [] given h = (refl, refl)
below c a (x ∷ xs) given h =
    let rest = below c (suc a) xs (set given a x) (omega arith) in
    (rw (ne_eqb c a (omega arith)) rest.0, rest.1 ∙ get_or-set_other given a c x 0 (omega arith))

-- nor behind it
behind : (c a : ℕ) (columns : List ℕ) → a + length columns ≤ c → values_at c a columns ≡ []
unfolding values_at
behind c a [] h = refl
behind c a (x ∷ xs) h = rw (ne_eqb c a (omega arith)) (behind c (suc a) xs (omega arith))

-- a column that the record gives, and had not been given; or one that it leaves
abbrev Gives : ℕ → ℕ → List ℕ → List ℕ → Type 0
Gives c a columns given =
    ((15 < get_or given c 0) × (get_or (sets given a columns) c 0 < 16) × (values_at c a columns ≡ get_or (sets given a columns) c 0 ∷ []))
    ⊎ ((get_or (sets given a columns) c 0 ≡ get_or given c 0) × (values_at c a columns ≡ []))

gives : (c a : ℕ) (columns given : List ℕ) → a + length columns ≤ length given → none_given (take (length columns) (drop a given)) ≡ true → ((i : ℕ) → get_or columns i 0 < 16) → Gives c a columns given
unfolding values_at none_given
gives c a [] given l n small = inr (refl, refl)
gives c a (x ∷ xs) given l n small =
    let first = both_true (ltb 15 (get_or given a 0)) (none_given (take (length xs) (drop (suc a) given))) (rw (drop-cons given a 0 (omega arith)) at n) in
    let free = ltb-true 15 (get_or given a 0) first.0 in
    ⊎_elim
    (λ (e : c ≡ a).
    let low = below a (suc a) xs (set given a x) (omega arith) in
    let is : get_or (sets (set given a x) (suc a) xs) a 0 ≡ x = low.1 ∙ get_or-set_same given a x 0 (omega arith) in
    subst (λ (k : ℕ). Gives k a (x ∷ xs) given) (sym e)
    (inl (free, rw is (small 0), rw (eq-eqb a a refl, low.0, is))))
    (λ (d : c ≡ a → ⊥).
    let other = get_or-set_other given a c x 0 d in
    rw (ne_eqb c a d)
    (rw other at (gives c (suc a) xs (set given a x) (omega (arith, length-set given a x)) (rw (drop-set-lt (suc a) given a x (omega arith)) first.1) (λ i. small (suc i)))))
    (equal_or_not c a)

-- ---- a record that passes

fewer : (m n : ℕ) (l : List ℕ) → m ≤ n → none_given (take n l) ≡ true → none_given (take m l) ≡ true
unfolding none_given
fewer zero n l h e = refl
fewer (suc m) zero l h e = absurd (omega arith)
fewer (suc m) (suc n) [] h e = refl
fewer (suc m) (suc n) (q ∷ qs) h e =
    let both = both_true (ltb 15 q) (none_given (take n qs)) e in
    rw both.0 (fewer m n qs (omega arith) both.1)

passed-of : (k : Check) → passed k ≡ true → k ≡ Ok tt
passed-of (Ok _) e = refl
passed-of (Err r) e = absurd (true≢false (sym e))

module _ (given : List ℕ) (at : ℕ) (bytes : List ℕ) (passes : fault_of given at bytes ≡ Ok tt) where
  rest : data_fault given at bytes ≡ Ok tt
  rest = (both_pass (head_fault at bytes) (data_fault given at bytes) passes).1

  is-inside : inside given bytes ≡ true
  unfolding data_fault
  is-inside = unless-passes (inside given bytes) (AddressOutside at) (both_pass _ _ rest).0

  values : (none_given (take (count_of bytes) (drop (address_of bytes) given)) ≡ true) × (over_in 0 (data_of bytes) ≡ Ok tt)
  unfolding data_fault
  values =
      let v = both_pass (unless (none_given (take (count_of bytes) (drop (address_of bytes) given))) (AddressTwice at)) (unless (passed (over_in 0 (data_of bytes))) (RamByte at)) (both_pass (unless (inside given bytes) (AddressOutside at)) _ rest).1 in
      (unless-passes _ (AddressTwice at) v.0, passed-of (over_in 0 (data_of bytes)) (unless-passes _ (RamByte at) v.1))

  few : length (data_of bytes) ≤ count_of bytes
  few = omega (arith, length-take (count_of bytes) (drop 4 bytes))

  -- no data, or all of it inside
  fits : (data_of bytes ≡ []) ⊎ (address_of bytes + length (data_of bytes) ≤ length given)
  fits = by_count (count_of bytes) refl
    where
      by_count : (n : ℕ) → count_of bytes ≡ n → (data_of bytes ≡ []) ⊎ (address_of bytes + length (data_of bytes) ≤ length given)
      by_count zero e = inl (ap (λ (k : ℕ). take k (drop 4 bytes)) e)
      by_count (suc n) e =
          let l = leb-true (address_of bytes + count_of bytes) (length given) (rw (ne_eqb (count_of bytes) 0 (omega (arith, e))) at is-inside) in
          inr (omega (arith, few, l))

  record-gives : (c : ℕ) → Gives c (address_of bytes) (data_of bytes) given
  unfolding values_at
  record-gives c =
      ⊎_elim (λ (e : data_of bytes ≡ []). subst (λ (l : List ℕ). Gives c (address_of bytes) l given) (sym e) (inr (refl, refl)))
      (λ (l : address_of bytes + length (data_of bytes) ≤ length given).
      gives c (address_of bytes) (data_of bytes) given l (fewer (length (data_of bytes)) (count_of bytes) (drop (address_of bytes) given) few values.0) (nibbles-of 0 (data_of bytes) values.1))
      fits

  record-behind : (c : ℕ) → length given ≤ c → values_at c (address_of bytes) (data_of bytes) ≡ []
  unfolding values_at
  record-behind c h =
      ⊎_elim (λ (e : data_of bytes ≡ []). ap (values_at c (address_of bytes)) e) (λ (l : address_of bytes + length (data_of bytes) ≤ length given). behind c (address_of bytes) (data_of bytes) (omega arith)) fits

-- ---- the walk

-- of column c: where it is not given yet, the rest of a file gives it once, and else not again
abbrev Rest : ℕ → List ℕ → List ℕ → List ℕ → Type 0
Rest c given more ram =
    ((15 < get_or given c 0) → more ≡ get_or ram c 0 ∷ []) × ((get_or given c 0 < 16) → (more ≡ []) × (get_or ram c 0 ≡ get_or given c 0))

with-record : (c a : ℕ) (columns given more ram : List ℕ) → Gives c a columns given → Rest c (sets given a columns) more ram → Rest c given (values_at c a columns ++ more) ram
with-record c a columns given more ram (inl g) r =
    let after = r.1 g.1 in
    ((λ h. rw (g.2, after.0, after.1)), (λ h. absurd (omega (arith, g.0, h))))
with-record c a columns given more ram (inr g) r = rw g.1 (rw g.0 at r)

-- after an end record every column is there
first-there : (t : Bool) (r : Refusal) (k : Check) → cond t (Err r) k ≡ Ok tt → (t ≡ false) × (k ≡ Ok tt)
first-there true r k e = absurd (true≢false (sym (ap passed e)))
first-there false r k e = (refl, e)

none_missing : (i c : ℕ) (given : List ℕ) → missing_in i given ≡ Ok tt → c < length given → get_or given c 0 < 16
unfolding missing_in
none_missing i c [] e h = absurd (omega arith)
none_missing i zero (q ∷ qs) e h = let t = ltb-false 15 q (first-there (ltb 15 q) _ _ e).0 in omega arith
none_missing i (suc c) (q ∷ qs) e h = none_missing (suc i) c qs (first-there (ltb 15 q) _ _ e).1 (omega arith)

-- an image that passed
refused-not : (r : Refusal) (given ram : List ℕ) → image (Err r) given ≡ image (Ok tt) ram → ⊥
refused-not r given ram e = true≢false (sym (ap (λ (i : Image). passed i.check) e))

at-end : (c : ℕ) (given more ram : List ℕ) → ended given more ≡ image (Ok tt) ram → c < length given → Rest c given [] ram
at-end c given (x ∷ xs) ram e h = absurd (refused-not NoEnd given ram e)
at-end c given [] ram e h =
    let there = none_missing 0 c given (ap (λ (i : Image). i.check) e) h in
    ((λ l. absurd (omega (arith, there, l))), (λ l. (refl, ap (λ (i : Image). get_or i.columns c 0) (sym e))))

-- one record and what follows it
one-record : (c at : ℕ) (given text next ram more : List ℕ) (f : Check) → fault_in given at text ≡ f → (after : Image)
    → (after ≡ image (Ok tt) ram → Rest c (stored given (bytes_of (digits_in text))) more ram)
    → or_fault f given after ≡ image (Ok tt) ram → Rest c given (values_at c (address_of (bytes_of (digits_in text))) (data_of (bytes_of (digits_in text))) ++ more) ram
one-record c at given text next ram more (Err r) e after then p = absurd (refused-not r given ram p)
one-record c at given text next ram more (Ok tt) e after then p =
    let bytes = bytes_of (digits_in text) in
    let passes = (both_pass (unless (is_line text) (RecordForm at)) (fault_of given at bytes) e).1 in
    with-record c (address_of bytes) (data_of bytes) given more ram (record-gives given at bytes passes c) (then p)

each : (k c at : ℕ) (given text ram : List ℕ) → image_in k at given text ≡ image (Ok tt) ram → c < length given → Rest c given (values_in k c text) ram
unfolding image_in values_in
each zero c at given text ram e h = absurd (refused-not NoEnd given ram e)
each (suc k) c at given [] ram e h = absurd (refused-not NoEnd given ram e)
each (suc k) c at given (x ∷ xs) ram e h =
    let text = x ∷ xs in
    let bytes = bytes_of (digits_in text) in
    let rest = drop (size_in text) text in
    let size = length-sets given (address_of bytes) (data_of bytes) in
    one-record c at given text [] ram _ (fault_in given at text) refl _
    (by_kind (eqb (kind_of bytes) 1) (stored given bytes) rest (values_in k c rest) (image_in k (at + size_in text) (stored given bytes) rest)
    (λ p. at-end c (stored given bytes) rest ram p (omega (arith, size)))
    (λ p. each k c (at + size_in text) (stored given bytes) rest ram p (omega (arith, size)))) e
  where
    by_kind : (b : Bool) (given rest more : List ℕ) (next : Image) → (ended given rest ≡ image (Ok tt) ram → Rest c given [] ram) → (next ≡ image (Ok tt) ram → Rest c given more ram)
        → cond b (ended given rest) next ≡ image (Ok tt) ram → Rest c given (cond b [] more) ram
    by_kind true given rest more next last on p = last p
    by_kind false given rest more next last on p = on p

-- ---- and no column that is not there

none-behind : (k c at : ℕ) (given text ram : List ℕ) → image_in k at given text ≡ image (Ok tt) ram → length given ≤ c → values_in k c text ≡ []
unfolding image_in values_in
none-behind zero c at given text ram e h = refl
none-behind (suc k) c at given [] ram e h = refl
none-behind (suc k) c at given (x ∷ xs) ram e h =
    let text = x ∷ xs in
    let bytes = bytes_of (digits_in text) in
    let rest = drop (size_in text) text in
    let size = length-sets given (address_of bytes) (data_of bytes) in
    by-fault (fault_in given at text) refl (λ p. by_kind (eqb (kind_of bytes) 1) (ended (stored given bytes) rest) (image_in k (at + size_in text) (stored given bytes) rest) (values_in k c rest) (λ q. none-behind k c (at + size_in text) (stored given bytes) rest ram q (omega (arith, size))) p) e
  where
    by_kind : (b : Bool) (last next : Image) (more : List ℕ) → (next ≡ image (Ok tt) ram → more ≡ []) → cond b last next ≡ image (Ok tt) ram → cond b [] more ≡ []
    by_kind true last next more on p = refl
    by_kind false last next more on p = on p

    by-fault : (f : Check) {after : Image} {more : List ℕ} → fault_in given at (x ∷ xs) ≡ f → (after ≡ image (Ok tt) ram → more ≡ []) → or_fault f given after ≡ image (Ok tt) ram
        → values_at c (address_of (bytes_of (digits_in (x ∷ xs)))) (data_of (bytes_of (digits_in (x ∷ xs)))) ++ more ≡ []
    by-fault (Err r) f on p = absurd (refused-not r given ram p)
    by-fault (Ok tt) f on p =
        let bytes = bytes_of (digits_in (x ∷ xs)) in
        ap₂ (λ (a b : List ℕ). a ++ b) (record-behind given at bytes (both_pass (unless (is_line (x ∷ xs)) (RecordForm at)) (fault_of given at bytes) f).1 c h) (on p)

-- ---- the law

pub covered : (size : ℕ) (file ram : List ℕ) → Accepted size file ram → Covered size file ram
unfolding image_of image_from
covered size file ram e =
    record {
      once = λ c h. (each (length file) c 0 (replicate size 16) file ram e (omega (arith, length-replicate {A = ℕ} size 16))).0 (omega (arith, get_or-replicate {A = ℕ} size c 16 0 h));
      no_other = λ c h. none-behind (length file) c 0 (replicate size 16) file ram e (omega (arith, length-replicate {A = ℕ} size 16));
    }
