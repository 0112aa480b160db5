-- A record's faults, as the code tests them.
-- Assumes nothing.
use mathlib.Core.Path.{◌≡◌, refl, sym, ap, ◌∙◌}
use mathlib.Core.Bool.{Bool, true, false, cond, ◌&&◌, ◌||◌}
use mathlib.Core.List.{List, ◌++◌, append_assoc}
use Prim.Native.Nat.{ℕ, zero, suc, ◌+◌, ◌-◌, ◌≤◌, ◌<◌}
use native.Mathlib.Nat.{add-sub_cancel_left}
use native.Mathlib.Omega.{arith}
use lib.Dec.{eqb, ltb, leb}
use lib.ListN.{length, take, drop, length-drop}
use lib.Seq.{length-take-le, drop-drop, sets, sets-eq}
use borrow.Author.Tests.{leb-true, lt-ltb, ne_eqb, le-leb, lt-leb}
use Rattle.std.specs.Prelude.{Err, Ok}
use Rattle.sheet.specs.declared.Refusal.TheVariants.{RamByte, AddressOutside, AddressTwice}
use Rattle.sheet.specs.Checks.{unless, passed, over_in}
use Rattle.image_sheet.specs.Images.{count_of, address_of, data_of, inside, none_given, head_fault, data_fault, fault_of, stored}
use Rattle.laws.proofs.Fits.{both_pass, unless-passes}
use Rattle.hexrecord.specs.Lines.{Whole}

-- 0, or over it
zero_test : (n : ℕ) → eqb n 0 ≡ cond (ltb 0 n) false true
zero_test zero = refl
zero_test (suc n) = rw (ne_eqb (suc n) 0 (omega arith), lt-ltb 0 (suc n) (omega arith))

neither : (a b t : Bool) → (a || b) ≡ t → (cond a false true && cond b false true) ≡ cond t false true
neither true b t e = ap (λ (k : Bool). cond k false true) e
neither false b t e = ap (λ (k : Bool). cond k false true) e

-- an end record's form, as it is tested
pub end-form : (kind n m : ℕ) (t : Bool) → (eqb kind 1 && (ltb 0 n || ltb 0 m)) ≡ t → cond (eqb kind 1) (eqb n 0 && eqb m 0) true ≡ cond t false true
end-form kind n m t e = by_kind (eqb kind 1) e
  where
    by_kind : (b : Bool) → (b && (ltb 0 n || ltb 0 m)) ≡ t → cond b (eqb n 0 && eqb m 0) true ≡ cond t false true
    by_kind true h = rw (zero_test n, zero_test m) (neither (ltb 0 n) (ltb 0 m) t h)
    by_kind false h = ap (λ (k : Bool). cond k false true) h

-- data that is inside, where there is any
pub inside_of : (given bytes : List ℕ) → inside given bytes ≡ true → 0 < count_of bytes → address_of bytes + count_of bytes ≤ length given
inside_of given bytes e h = by_count (count_of bytes) e h
  where
    by_count : (n : ℕ) → (eqb n 0 || leb (address_of bytes + n) (length given)) ≡ true → 0 < n → address_of bytes + n ≤ length given
    by_count zero f l = absurd (omega arith)
    by_count (suc n) f l = leb-true (address_of bytes + suc n) (length given) (rw (ne_eqb (suc n) 0 (omega arith)) at f)

-- ---- 24, 25, 5

module _ (given : List ℕ) (at : ℕ) (bytes : List ℕ) where
  -- no data, no fault
  pub no_data : count_of bytes ≡ 0 → data_fault given at bytes ≡ Ok tt
  unfolding data_fault none_given over_in
  no_data e = rw e

  -- a record that passes is inside
  pub passed-inside : fault_of given at bytes ≡ Ok tt → inside given bytes ≡ true
  unfolding data_fault
  passed-inside e = unless-passes (inside given bytes) (AddressOutside at) (both_pass _ _ (both_pass (head_fault at bytes) (data_fault given at bytes) e).1).0

  -- some
  module _ (some : 0 < count_of bytes) where
    pub outside : length given < address_of bytes + count_of bytes → data_fault given at bytes ≡ Err (AddressOutside at)
    unfolding data_fault
    outside l = rw (ne_eqb (count_of bytes) 0 (omega arith), lt-leb (address_of bytes + count_of bytes) (length given) l)

    -- all of it inside, by the columns that it gives, from start on
    module _ (start : ℕ) (e : start ≡ address_of bytes) (l : start + count_of bytes ≤ length given) where
      columns-are : take (start + count_of bytes - start) (drop start given) ≡ take (count_of bytes) (drop (address_of bytes) given)
      columns-are = ap (λ (k : ℕ). take k (drop start given)) (add-sub_cancel_left start (count_of bytes)) ∙ ap (λ (k : ℕ). take (count_of bytes) (drop k given)) e

      fits : leb (address_of bytes + count_of bytes) (length given) ≡ true
      fits = le-leb (address_of bytes + count_of bytes) (length given) (omega (arith, e))

      pub twice : none_given (take (start + count_of bytes - start) (drop start given)) ≡ false → data_fault given at bytes ≡ Err (AddressTwice at)
      unfolding data_fault
      twice h = rw (ne_eqb (count_of bytes) 0 (omega arith), fits, sym (ap none_given columns-are) ∙ h)

      pub by_value : none_given (take (start + count_of bytes - start) (drop start given)) ≡ true → data_fault given at bytes ≡ unless (passed (over_in 0 (data_of bytes))) (RamByte at)
      unfolding data_fault
      by_value h = rw (ne_eqb (count_of bytes) 0 (omega arith), fits, sym (ap none_given columns-are) ∙ h)

      -- what is given then
      pub stored_is : Whole bytes → take start given ++ (take (4 + count_of bytes - 4) (drop 4 bytes) ++ drop (start + count_of bytes - start) (drop start given)) ≡ stored given bytes
      stored_is w =
          let size = length-take-le (count_of bytes) (drop 4 bytes) (omega (arith, length-drop 4 bytes)) in
          ap (λ (k : ℕ). take start given ++ (take k (drop 4 bytes) ++ drop (start + count_of bytes - start) (drop start given))) (add-sub_cancel_left 4 (count_of bytes))
          ∙ ap (λ (l : List ℕ). take start given ++ (data_of bytes ++ l)) (drop-drop (start + count_of bytes - start) start given ∙ ap (λ (k : ℕ). drop k given) {x = start + (start + count_of bytes - start)} {y = start + length (data_of bytes)} (omega (arith, size)))
          ∙ sym (append_assoc (take start given) (data_of bytes) (drop (start + length (data_of bytes)) given))
          ∙ sym (sets-eq (data_of bytes) given start (omega (arith, size)))
          ∙ ap (λ (k : ℕ). sets given k (data_of bytes)) e
