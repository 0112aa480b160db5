-- A transfer to a list of chips, as it is begun and answered, is the sheet's: the checks, what is left to follow, and the answer.
-- Assumes nothing.
use mathlib.Core.Path.{◌≡◌, refl, sym, ap, subst, ◌∙◌}
use mathlib.Core.Bool.{Bool, true, false, cond, not, ◌&&◌}
use mathlib.Core.List.{List, [], ◌∷◌}
use Prim.Native.Nat.{ℕ, suc, ◌+◌, ◌*◌, ◌<◌, zero-le}
use native.Mathlib.Nat.{lt_irrefl, le_refl}
use native.Mathlib.Omega.{arith}
use lib.Dec.{T, leb, leb-suc-zero, leb-suc-suc}
use lib.ListN.{length}
use lib.Seq.{drop-length}
use Rattle.lemmas.proofs.Tests.{both_true}
use Rattle.sheet.specs.declared.Chip.{Chip}
use Rattle.sheet.specs.declared.Expect.TheVariants.{Control}
use Rattle.sheet.specs.declared.Refusal.TheVariants.{ManyChips, ChipField}
use Rattle.std.specs.Prelude.{Err, Ok}
use Rattle.sheet.specs.Results.{Check}
use Rattle.sheet.specs.Parts.{part_of}
use Rattle.sheet.specs.Checks.{unless, or_else, check_part, check_sent, passed, fault_of_sent}
use Rattle.sheet.specs.Protocol.{Sent, cut, address_byte}
use Rattle.sheet.specs.Plain.{begun_by, any, hears, chip_fits, misfit_in, check_plain, marks_in, plain_whole, plain_said, plain_taken, plain_answered, plain_call, plain_part}
use Rattle.sheet.specs.Agree.{AllIn}
use Rattle.laws.proofs.Fits.{both_pass, sent-passed, all_in}
use Rattle.laws.proofs.First.{or-else, plain-first}
use Rattle.starts.specs.declared.Found.{Found}
use Rattle.starts.specs.declared.Start.{Start}
use Rattle.starts.specs.Questions.{misfits, high_unknown, low_unknown, device_unknown, first_yes, found_in}
use Rattle.turns.specs.Turns.{tally_of, plain_left, followed, Ready}
use Rattle.starts.specs.Starts.{marks_found, check_of, turn_at, first_turn, start_of, answer_of}
use Rattle.starts.proofs.Searching.{any-first}
use Rattle.starts.proofs.Lefts.{left_is}

-- ---- the answer, by the check and whether a chip hears
module _ (part : ℕ) (cs : List Chip) (t : Sent) where
  -- nothing is left to follow
  idle : followed cs t.bytes (turn_at part t (length t.bytes) 0) ≡ begun_by 0 cs
  unfolding plain_left
  idle = ap (λ (l : List ℕ). plain_left (part_of part) (address_byte t) (cut t) Control l (begun_by 0 cs)) (drop-length t.bytes)

  answered : (k : Check) (heard : Bool) → record { answer = answer_of k (tally_of (followed cs t.bytes (first_turn part t k heard))); chips = (followed cs t.bytes (first_turn part t k heard)).chips }
      ≡ plain_answered k cs (plain_said (cond heard (plain_whole (part_of part) (address_byte t) t (begun_by 1 cs)) (begun_by 0 cs)))
  answered (Ok _) true = ap plain_said (left_is (part_of part) (address_byte t) (begun_by 1 cs) t)
  answered (Ok _) false = ap plain_said idle
  answered (Err r) heard = λ j. record { answer = Err r; chips = (idle j).chips }

-- ---- the checks

-- the first chip that does not fit, counted from i, stands at i and the place of the first that says so
misfit : (part i : ℕ) (cs : List Chip) → misfit_in (part_of part) i cs ≡ unless (leb (length cs) (first_yes (misfits part) cs)) (ChipField (i + first_yes (misfits part) cs))
unfolding misfit_in first_yes
misfit part i [] = refl
misfit part i (c ∷ cs) = by-test (chip_fits (part_of part) c) (length cs) (first_yes (misfits part) cs) (misfit_in (part_of part) (suc i) cs) (misfit part (suc i) cs)
  where
    by-test : (t : Bool) (n m : ℕ) (r : Check) → r ≡ unless (leb n m) (ChipField (suc i + m)) → cond t r (Err (ChipField i)) ≡ unless (leb (suc n) (cond (not t) 0 (suc m))) (ChipField (i + cond (not t) 0 (suc m)))
    by-test true n m r e = let on : suc i + m ≡ i + suc m = omega arith in e ∙ (λ j. unless (sym (leb-suc-suc n m) j) (ChipField (on j)))
    by-test false n m r e = let at : i ≡ i + 0 = omega arith in λ j. unless (sym (leb-suc-zero n) j) (ChipField (at j))

passed_is : (k : Check) → passed k ≡ true → k ≡ Ok tt
passed_is (Ok _) e = refl
passed_is (Err r) e = absurd (subst T (sym e) tt)

module _ (part : ℕ) (cs : List Chip) (t : Sent) where
  -- what the list is found to hold
  abbrev pub found : Found
  found = found_in part (address_byte t) cs

  -- the marks of those that hear
  marks-found : marks_found found ≡ marks_in (address_byte t) cs
  marks-found = λ j. record {
    high = cond (sym (any-first (high_unknown (address_byte t)) cs) j) 1 0;
    low = cond (sym (any-first (low_unknown (address_byte t)) cs) j) 1 0;
    device = cond (sym (any-first (device_unknown (address_byte t)) cs) j) 1 0;
  }

  abbrev pub begun : Start
  begun = start_of part t found

  -- a chip hears byte 0
  abbrev heard : Bool
  heard = any (hears (address_byte t)) cs

  -- the sheet's checks, with that of the part
  abbrev checks : Check
  checks = or_else (check_part part) (check_plain (part_of part) cs t)

  checked : check_of part t found ≡ checks
  unfolding check_plain
  checked =
      sym (or-else (check_part part) (unless (leb (length cs) (2 * (part_of part).limit)) ManyChips) _)
      ∙ (λ j. or_else (check_part part) (or_else (unless (leb (length cs) (2 * (part_of part).limit)) ManyChips) (or_else (fields j) (or_else (check_sent t) (cond (sym (any-first (hears (address_byte t)) cs) j) (fault_of_sent (part_of part) (marks-found j) t) (Ok tt))))))
    where
      fields : unless (leb (length cs) (first_yes (misfits part) cs)) (ChipField (first_yes (misfits part) cs)) ≡ misfit_in (part_of part) 0 cs
      fields = let at : first_yes (misfits part) cs ≡ 0 + first_yes (misfits part) cs = omega arith in ap (λ (m : ℕ). unless (leb (length cs) (first_yes (misfits part) cs)) (ChipField m)) at ∙ sym (misfit part 0 cs)

  -- so the turn from which the chips follow is the one of a transfer that the sheet takes
  turned : begun.turn ≡ first_turn part t checks heard
  turned = λ j. first_turn part t (checked j) (sym (any-first (hears (address_byte t)) cs) j)

  -- what a transfer that is taken is known to be: there is a byte, and the chips are in range
  taken_is : checks ≡ Ok tt → (0 < length t.bytes) × AllIn (part_of part) cs
  unfolding check_plain
  taken_is e =
      let u = both_pass (unless (leb (length cs) (2 * (part_of part).limit)) ManyChips) _ (both_pass (check_part part) (check_plain (part_of part) cs t) e).1 in
      let v = both_pass (misfit_in (part_of part) 0 cs) _ u.1 in
      ((sent-passed t (both_pass (check_sent t) _ v.1).0).0, all_in (part_of part) 0 cs v.0)

  pub ready : Ready cs t.bytes begun.turn
  ready = subst (Ready cs t.bytes) (sym turned) (by-test (passed checks && heard) refl)
    where
      by-test : (b : Bool) → (passed checks && heard) ≡ b → Ready cs t.bytes (cond b (turn_at part t 1 1) (turn_at part t (length t.bytes) 0))
      by-test true e =
          let i = taken_is (passed_is checks (both_true (passed checks) heard e).0) in
          record { within = i.0; counted = le_refl 1; byte = refl; cut = refl; right = λ _. i.1 }
      by-test false e = record { within = le_refl (length t.bytes); counted = zero-le; byte = refl; cut = refl; right = λ l. absurd (lt_irrefl (length t.bytes) l) }

  -- the call, as it is begun, followed and answered
  pub concluded : record { answer = answer_of begun.check (tally_of (followed cs t.bytes begun.turn)); chips = (followed cs t.bytes begun.turn).chips } ≡ plain_part part cs t
  unfolding plain_part plain_call
  concluded =
      (λ j. record { answer = answer_of (checked j) (tally_of (followed cs t.bytes (turned j))); chips = (followed cs t.bytes (turned j)).chips })
      ∙ answered part cs t checks heard
      ∙ sym (plain-first (check_part part) (check_plain (part_of part) cs t) cs (plain_said (plain_taken (part_of part) cs t)))
