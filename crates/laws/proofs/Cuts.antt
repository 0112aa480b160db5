-- At any cut, RAM equals what the whole bytes before it give: the columns of any list of chips, and the long RAM's.
-- Assumes nothing.
use mathlib.Core.Path.{◌≡◌, refl, sym, ap, ap₂, subst, ◌∙◌}
use mathlib.Core.Logic.{◌⊎◌, inl, inr, ⊎_elim}
use mathlib.Core.Bool.{Bool, true, false, cond, true≢false}
use mathlib.Core.List.{List, [], ◌∷◌, map}
use Prim.Native.Nat.{ℕ, ◌*◌, ◌<◌}
use native.Mathlib.Nat.{not-suc-le-zero}
use native.Mathlib.Omega.{arith}
use lib.Dec.{leb}
use lib.ListN.{length, get_or, drop}
use borrow.Author.Tests.{lt-ltb, ne_eqb}
use Rattle.sheet.specs.declared.Marks.{Marks}
use Rattle.sheet.specs.declared.Chip.{Chip}
use Rattle.sheet.specs.declared.Expect.TheVariants.{Control}
use Rattle.sheet.specs.declared.Refusal.TheVariants.{ManyChips}
use Rattle.std.specs.Prelude.{Err, Ok}
use Rattle.sheet.specs.Results.{Check}
use Rattle.sheet.specs.Parts.{Part}
use Rattle.sheet.specs.Registers.{with_marks}
use Rattle.sheet.specs.Protocol.{address_of, Sent, whole, cut, whole_of, address_byte, cut_data}
use Rattle.sheet.specs.Checks.{unless, or_else, passed, check_sent, fault_in}
use Rattle.sheet.specs.Plain.{with_registers, hears, any, Plain, plain_heard, chip_ended, plain_whole, marks_in, misfit_in, check_plain, PlainAfter, plain_said, begun_by, plain_taken, plain_answered, plain_call}
use Rattle.sheet.specs.Cuts.{cut_after, chip_unmarked, PlainCut, AtAnyCut}
use Rattle.laws.proofs.CutWalks.{refused-after, not-passed, Quiet, outcome, other-alike, map-kept, heard-or-not, quiet-columns, whole_is, cut-passes, whole-passes, cut-other, no_address, none-whole}
use Rattle.laws.proofs.CutLong.{long-cut}

module _ (K : Part) (cs : List Chip) where
  -- 10 and 11 come first
  abbrev first : Check → Check
  first k = or_else (unless (leb (length cs) (2 * K.limit)) ManyChips) (or_else (misfit_in K 0 cs) k)

  -- 7, 17 and 18 of the bytes after the address, by whether a byte is cut behind them
  abbrev walk : ℕ → List ℕ → Bool → Check
  walk address xs cut = fault_in K cut (marks_in address cs) Control 1 xs

  -- where some chip hears them
  abbrev plain_checked : Bool → Bool → ℕ → List ℕ → Check
  plain_checked some cut address xs = first (cond some (walk address xs cut) (Ok tt))

  -- the chips after the bytes, and after a cut one that is data or is not
  abbrev followed : ℕ → List ℕ → Plain
  followed address xs = plain_heard K address Control xs (begun_by 1 cs)

  abbrev plain_took : Bool → Bool → ℕ → List ℕ → PlainAfter
  plain_took some lost address xs = plain_said (cond some (record { acknowledged = (followed address xs).acknowledged; last = (followed address xs).last; chips = map (chip_ended address lost) (followed address xs).chips }) (begun_by 0 cs))

  abbrev checked_by : Bool → List ℕ → Check
  checked_by cut bytes = plain_checked (any (hears (get_or bytes 0 0)) cs) cut (get_or bytes 0 0) (drop 1 bytes)

  abbrev plain_called : Bool → Bool → List ℕ → PlainAfter
  plain_called cut lost bytes = plain_answered (checked_by cut bytes) cs (plain_took (any (hears (get_or bytes 0 0)) cs) lost (get_or bytes 0 0) (drop 1 bytes))

  -- a call, by the whole bytes of its transfer
  plain-check-is : (t : Sent) → check_sent t ≡ Ok tt → check_plain K cs t ≡ checked_by (cut t) (whole_of t)
  unfolding check_plain
  plain-check-is t p = rw p

  plain-call-is : (t : Sent) → check_sent t ≡ Ok tt → plain_call K cs t ≡ plain_called (cut t) (cut_data t) (whole_of t)
  unfolding plain_call
  plain-call-is t p = ap (λ (k : Check). plain_answered k cs (plain_said (plain_taken K cs t))) (plain-check-is t p)

  -- two calls that differ in marks at most
  record PlainSame (a b : PlainAfter) : Type 0 where
    pub columns-same : map (λ c. c.columns) a.chips ≡ map (λ c. c.columns) b.chips
    pub answer-same : a.answer ≡ b.answer
    pub chips-same : map chip_unmarked a.chips ≡ map chip_unmarked b.chips

  -- what f says of chips that it says without marks too
  lost-kept : {B : Type 0} (f : Chip → B) → ((c : Chip) (u : Marks) → f (with_registers (with_marks c.registers u) c) ≡ f c)
      → (address : ℕ) (lost : Bool) (ds : List Chip) → map f (map (chip_ended address lost) ds) ≡ map f ds
  lost-kept f h address lost ds = map-kept f (chip_ended address lost) (λ c. heard-or-not f (hears address c) c _ (h c _)) ds

  columns-kept : (address : ℕ) (lost : Bool) (ds : List Chip) → map (λ c. c.columns) (map (chip_ended address lost) ds) ≡ map (λ c. c.columns) ds
  columns-kept = lost-kept (λ c. c.columns) (λ c u. refl)

  chips-kept : (address : ℕ) (lost : Bool) (ds : List Chip) → map chip_unmarked (map (chip_ended address lost) ds) ≡ map chip_unmarked ds
  chips-kept = lost-kept chip_unmarked (λ c u. refl)

  plain-took-same : (some lost : Bool) (address : ℕ) (xs : List ℕ) → PlainSame (plain_took some lost address xs) (plain_took some false address xs)
  plain-took-same true lost address xs =
      let ds = (followed address xs).chips in
      record {
        columns-same = columns-kept address lost ds ∙ sym (columns-kept address false ds);
        answer-same = refl;
        chips-same = chips-kept address lost ds ∙ sym (chips-kept address false ds);
      }
  plain-took-same false lost address xs = record { columns-same = refl; answer-same = refl; chips-same = refl }

  plain-answered-same : (k : Check) (a b : PlainAfter) → PlainSame a b → PlainSame (plain_answered k cs a) (plain_answered k cs b)
  plain-answered-same (Ok _) a b s = s
  plain-answered-same (Err x) a b s = record { columns-same = refl; answer-same = refl; chips-same = refl }

  columns_stay : (k : Check) (a : PlainAfter) → map (λ c. c.columns) a.chips ≡ map (λ c. c.columns) cs → map (λ c. c.columns) (plain_answered k cs a).chips ≡ map (λ c. c.columns) cs
  columns_stay (Ok _) a e = e
  columns_stay (Err x) a e = refl

  chips-refused : (k : Check) (a : PlainAfter) → passed k ≡ false → (plain_answered k cs a).chips ≡ cs
  chips-refused (Ok _) a h = absurd (true≢false h)
  chips-refused (Err x) a h = refl

  -- with the byte that is cut and without: the same but for marks, or it is refused and the columns stay either way
  abbrev PlainAlike : PlainAfter → PlainAfter → Check → Type 0
  PlainAlike a b k = PlainSame a b ⊎ ((passed k ≡ false) × (map (λ c. c.columns) a.chips ≡ map (λ c. c.columns) b.chips))

  plain-alike-by : (some lost : Bool) (address : ℕ) (xs : List ℕ)
      → PlainAlike (plain_answered (plain_checked some true address xs) cs (plain_took some lost address xs)) (plain_answered (plain_checked some false address xs) cs (plain_took some false address xs)) (plain_checked some true address xs)
  plain-alike-by false lost address xs = inl (plain-answered-same (plain_checked false true address xs) _ _ (plain-took-same false lost address xs))
  plain-alike-by true lost address xs = ⊎_elim
      (λ (e : walk address xs true ≡ walk address xs false).
      inl (subst (λ (k : Check). PlainSame (plain_answered (first k) cs (plain_took true lost address xs)) (plain_answered (first (walk address xs false)) cs (plain_took true false address xs))) (sym e)
      (plain-answered-same (first (walk address xs false)) _ _ (plain-took-same true lost address xs))))
      (λ (l : (passed (walk address xs true) ≡ false) × Quiet Control xs).
      let refused = refused-after (unless (leb (length cs) (2 * K.limit)) ManyChips) _ (refused-after (misfit_in K 0 cs) (walk address xs true) l.0) in
      inr (
        refused,
        ap (map (λ c. c.columns)) (chips-refused (first (walk address xs true)) (plain_took true lost address xs) refused)
            ∙ sym (columns_stay (first (walk address xs false)) (plain_took true false address xs)
            (columns-kept address false (followed address xs).chips ∙ quiet-columns K address Control xs (begun_by 1 cs) l.1)),
      ))
      (outcome K (marks_in address cs) Control 1 xs)

  -- where byte 0 did not come, nothing changes
  none-hears : (ds : List Chip) → any (hears 0) ds ≡ false
  none-hears [] = refl
  none-hears (c ∷ ds) = rw (ne_eqb 0 (address_of c.sa0) (λ e. omega (arith, e))) (none-hears ds)

  plain-unheard : (t : Sent) → address_byte t ≡ 0 → (plain_call K cs t).chips ≡ cs
  unfolding plain_call
  plain-unheard t e = go (check_plain K cs t) (any (hears (address_byte t)) cs) (ap (λ (address : ℕ). any (hears address) cs) e ∙ none-hears cs)
    where
      go : (k : Check) (some : Bool) → some ≡ false → (plain_answered k cs (plain_said (cond some (plain_whole K (address_byte t) t (begun_by 1 cs)) (begun_by 0 cs)))).chips ≡ cs
      go (Ok _) true h = absurd (true≢false h)
      go (Ok _) false h = refl
      go (Err x) some h = refl

  module _ (bytes : List ℕ) (x bits : ℕ) (room : length bytes < 4096) (some : 0 < bits) (few : bits < 8) where
    abbrev plain_lost : Bool
    plain_lost = cut_data (cut_after bytes x bits)

    plain-cut-check : check_plain K cs (cut_after bytes x bits) ≡ checked_by true bytes
    plain-cut-check = plain-check-is (cut_after bytes x bits) (cut-passes bytes x bits room some few) ∙ (λ i. checked_by (lt-ltb bits 8 few i) (whole_is bytes x bits few i))

    plain-cut-call : plain_call K cs (cut_after bytes x bits) ≡ plain_called true plain_lost bytes
    plain-cut-call = plain-call-is (cut_after bytes x bits) (cut-passes bytes x bits room some few) ∙ (λ i. plain_called (lt-ltb bits 8 few i) plain_lost (whole_is bytes x bits few i))

    plain-whole-call : 0 < length bytes → plain_call K cs (whole bytes) ≡ plain_called false false bytes
    unfolding whole_of cut_data
    plain-whole-call one = plain-call-is (whole bytes) (whole-passes bytes one room)

    plain-alike : PlainAlike (plain_called true plain_lost bytes) (plain_called false false bytes) (checked_by true bytes)
    plain-alike = plain-alike-by (any (hears (get_or bytes 0 0)) cs) plain_lost (get_or bytes 0 0) (drop 1 bytes)

    -- where the cut byte is taken
    plain-same : check_plain K cs (cut_after bytes x bits) ≡ Ok tt → PlainSame (plain_called true plain_lost bytes) (plain_called false false bytes)
    plain-same h = ⊎_elim (λ (s : PlainSame _ _). s) (λ l. not-passed (checked_by true bytes) l.0 (sym plain-cut-check ∙ h)) plain-alike

    -- where it is no data
    plain_no_data : plain_lost ≡ false → plain_called true plain_lost bytes ≡ plain_called false false bytes
    plain_no_data h =
        let address = get_or bytes 0 0 in
        ap₂ (λ (k : Check) (b : Bool). plain_answered (first (cond (any (hears address) cs) k (Ok tt))) cs (plain_took (any (hears address) cs) b address (drop 1 bytes)))
        (other-alike K (marks_in address cs) Control 1 (drop 1 bytes) (cut-other bytes x bits few h)) h

    -- after some whole bytes
    plain-some : 0 < length bytes → PlainCut K cs bytes x bits
    plain-some one = record {
      columns = ap (λ (a : PlainAfter). map (λ c. c.columns) a.chips) plain-cut-call ∙ ⊎_elim (λ (s : PlainSame _ _). s.columns-same) (λ l. l.1) plain-alike ∙ sym (ap (λ (a : PlainAfter). map (λ c. c.columns) a.chips) (plain-whole-call one));
      other = λ _ h. plain-cut-call ∙ plain_no_data h ∙ sym (plain-whole-call one);
      answer = λ _ h. ap (λ (a : PlainAfter). a.answer) plain-cut-call ∙ (plain-same h).answer-same ∙ sym (ap (λ (a : PlainAfter). a.answer) (plain-whole-call one));
      chips = λ h. ap (λ (a : PlainAfter). map chip_unmarked a.chips) plain-cut-call ∙ (plain-same h).chips-same ∙ sym (ap (λ (a : PlainAfter). map chip_unmarked a.chips) (plain-whole-call one));
    }

  -- and after none
  plain-none : (x bits : ℕ) → bits < 8 → PlainCut K cs [] x bits
  plain-none x bits few =
      let still = plain-unheard (cut_after [] x bits) (no_address x bits few) ∙ sym (plain-unheard (whole []) none-whole) in
      record { columns = ap (map (λ c. c.columns)) still; other = λ h. absurd (not-suc-le-zero h); answer = λ h. absurd (not-suc-le-zero h); chips = λ _. ap (map chip_unmarked) still }

  plain-cut : (bytes : List ℕ) (x bits : ℕ) → length bytes < 4096 → 0 < bits → bits < 8 → PlainCut K cs bytes x bits
  plain-cut [] x bits room some few = plain-none x bits few
  plain-cut (b ∷ bs) x bits room some few = plain-some (b ∷ bs) x bits room some few (omega arith)

-- the law, for any part
pub at-any-cut : (K : Part) → AtAnyCut K
at-any-cut K = record {
  long = λ n r columns bytes x bits room some few. long-cut K n r columns bytes x bits room some few;
  plain = λ cs bytes x bits room some few. plain-cut K cs bytes x bits room some few;
}
