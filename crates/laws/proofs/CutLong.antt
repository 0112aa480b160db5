-- At any cut, the long RAM equals what the whole bytes before it give.
-- Assumes nothing.
use mathlib.Core.Path.{◌≡◌, refl, sym, ap, ap₂, subst, ◌∙◌}
use mathlib.Core.Logic.{◌⊎◌, inl, inr, ⊎_elim}
use mathlib.Core.Bool.{Bool, true, false, cond, true≢false}
use mathlib.Core.List.{List, [], ◌∷◌, ◌++◌}
use Prim.Native.Nat.{ℕ, ◌*◌, ◌<◌}
use native.Mathlib.Nat.{not-suc-le-zero}
use native.Mathlib.Omega.{arith}
use lib.Dec.{eqb}
use lib.ListN.{length, get_or, take, drop, take-append-drop}
use lib.Seq.{drop-drop}
use borrow.Author.Tests.{lt-ltb}
use Rattle.sheet.specs.declared.Registers.{Registers}
use Rattle.sheet.specs.declared.Both.{Both}
use Rattle.sheet.specs.declared.Chips.{Chips}
use Rattle.std.specs.Prelude.{Err, None, Ok, Some}
use Rattle.sheet.specs.Results.{Acknowledger, Answer, Addressed, Check}
use Rattle.sheet.specs.declared.Expect.TheVariants.{Control}
use Rattle.sheet.specs.Parts.{Part}
use Rattle.sheet.specs.Registers.{lost_by, registers_of}
use Rattle.sheet.specs.Protocol.{heard_by, chips_in, Sent, whole, cut, whole_of, address_byte, cut_data}
use Rattle.sheet.specs.Checks.{or_else, passed, check_sent, fault_in, check_bytes, check_state, check_transfer}
use Rattle.sheet.specs.Long.{Group, After, begun, no_counts, heard, start_of, columns_of, with_columns, heard_in, taken, answered, transfer_call}
use Rattle.sheet.specs.Cuts.{cut_after, both_unmarked, LongCut}
use Rattle.laws.proofs.CutWalks.{refused-after, not-passed, Quiet, outcome, other-alike, quiet-ram, whole_is, cut-passes, whole-passes, cut-other, no_address, none-whole, nobody}

-- a group that loses pointer and counter, or does not
abbrev losing : Bool → Group → Group
losing lost g = record { registers = lost_by lost g.registers; ram = g.ram; counts = g.counts; last = g.last }

-- a group's columns put back where they were
pub put_back : (K : Part) (n : Chips) (g : ℕ) (ram : List ℕ) → with_columns K n g (columns_of K n g ram) ram ≡ ram
put_back K n g ram =
    ap (λ (l : List ℕ). take (start_of K n g) ram ++ (columns_of K n g ram ++ l)) (sym (drop-drop (K.columns * chips_in g n) (start_of K n g) ram))
    ∙ ap (λ (l : List ℕ). take (start_of K n g) ram ++ l) (take-append-drop (K.columns * chips_in g n) (drop (start_of K n g) ram))
    ∙ take-append-drop (start_of K n g) ram

module _ (K : Part) (n : Chips) (r : Both) (ram : List ℕ) where
  -- 3, 6, 4 and 5 come first
  abbrev after_state : Check → Check
  after_state k = or_else (check_state K n r ram) k

  -- 7, 17 and 18 of the bytes after the address, by whether a byte is cut behind them
  abbrev checked : Bool → List ℕ → Addressed → Check
  checked cut xs (Some g) = fault_in K cut (registers_of g r).unknown Control 1 xs
  checked cut xs None = Ok tt

  -- and what they do, by whether that byte is data
  abbrev took : Bool → List ℕ → Addressed → After
  took lost xs (Some g) = heard_in K n g r ram (losing lost (heard K Control xs (begun (registers_of g r) (columns_of K n g ram))))
  took lost xs None = record { result = record { answer = Ok (record { counts = no_counts; last = None }); registers = r }; ram = ram }

  abbrev checked_all : Bool → List ℕ → Check
  checked_all cut bytes = after_state (checked cut (drop 1 bytes) (heard_by n (get_or bytes 0 0)))

  abbrev called : Bool → Bool → List ℕ → After
  called cut lost bytes = answered (checked_all cut bytes) r ram (took lost (drop 1 bytes) (heard_by n (get_or bytes 0 0)))

  -- a call, by the whole bytes of its transfer
  check-is : (t : Sent) → check_sent t ≡ Ok tt → check_transfer K n r ram t ≡ checked_all (cut t) (whole_of t)
  unfolding check_transfer
  check-is t p = rw p (ap after_state (go (heard_by n (address_byte t))))
    where
      go : (to : Addressed) → check_bytes K r to t ≡ checked (cut t) (drop 1 (whole_of t)) to
      go (Some g) = refl
      go None = refl

  call-is : (t : Sent) → check_sent t ≡ Ok tt → transfer_call K n r ram t ≡ called (cut t) (cut_data t) (whole_of t)
  unfolding transfer_call
  call-is t p = ap₂ (λ (k : Check) (a : After). answered k r ram a) (check-is t p) (go (heard_by n (address_byte t)))
    where
      go : (to : Addressed) → taken K n r ram t to ≡ took (cut_data t) (drop 1 (whole_of t)) to
      go (Some g) = refl
      go None = refl

  -- two calls that differ in marks at most
  record Same (a b : After) : Type 0 where
    pub ram-same : a.ram ≡ b.ram
    pub answer-same : a.result.answer ≡ b.result.answer
    pub registers-same : both_unmarked a.result.registers ≡ both_unmarked b.result.registers

  took-same : (lost : Bool) (xs : List ℕ) (to : Addressed) → Same (took lost xs to) (took false xs to)
  took-same lost xs (Some g) = record { ram-same = refl; answer-same = refl; registers-same = go (eqb g 0) }
    where
      s : Bool → Registers
      s lost = (losing lost (heard K Control xs (begun (registers_of g r) (columns_of K n g ram)))).registers

      go : (b : Bool) → both_unmarked (cond b (record { zero = s lost; one = r.one }) (record { zero = r.zero; one = s lost }))
          ≡ both_unmarked (cond b (record { zero = s false; one = r.one }) (record { zero = r.zero; one = s false }))
      go true = refl
      go false = refl
  took-same lost xs None = record { ram-same = refl; answer-same = refl; registers-same = refl }

  answered-same : (k : Check) (a b : After) → Same a b → Same (answered k r ram a) (answered k r ram b)
  answered-same (Ok _) a b s = s
  answered-same (Err x) a b s = record { ram-same = refl; answer-same = refl; registers-same = refl }

  -- a call that changes nothing but its answer
  record Still (a : After) : Type 0 where
    pub ram-still : a.ram ≡ ram
    pub registers-still : a.result.registers ≡ r

  answered-still : (k : Check) (a : After) → Still a → Still (answered k r ram a)
  answered-still (Ok _) a s = s
  answered-still (Err x) a s = record { ram-still = refl; registers-still = refl }

  ram-stays : (k : Check) (a : After) → a.ram ≡ ram → (answered k r ram a).ram ≡ ram
  ram-stays (Ok _) a e = e
  ram-stays (Err x) a e = refl

  ram-refused : (k : Check) (a : After) → passed k ≡ false → (answered k r ram a).ram ≡ ram
  ram-refused (Ok _) a h = absurd (true≢false h)
  ram-refused (Err x) a h = refl

  -- with the byte that is cut and without: the same but for marks, or it is refused and the RAM stays either way
  abbrev Alike : After → After → Check → Type 0
  Alike a b k = Same a b ⊎ ((passed k ≡ false) × (a.ram ≡ b.ram))

  -- by who hears
  abbrev called_by : Bool → Bool → List ℕ → Addressed → After
  called_by cut lost xs to = answered (after_state (checked cut xs to)) r ram (took lost xs to)

  alike-by : (lost : Bool) (xs : List ℕ) (to : Addressed) → Alike (called_by true lost xs to) (called_by false false xs to) (after_state (checked true xs to))
  alike-by lost xs None = inl (answered-same (after_state (Ok tt)) _ _ (took-same lost xs None))
  alike-by lost xs (Some g) = ⊎_elim
      (λ (e : checked true xs (Some g) ≡ checked false xs (Some g)).
      inl (subst (λ (k : Check). Same (answered (after_state k) r ram (took lost xs (Some g))) (called_by false false xs (Some g))) (sym e)
      (answered-same (after_state (checked false xs (Some g))) _ _ (took-same lost xs (Some g)))))
      (λ (l : (passed (checked true xs (Some g)) ≡ false) × Quiet Control xs).
      let refused = refused-after (check_state K n r ram) (checked true xs (Some g)) l.0 in
      let still : (took false xs (Some g)).ram ≡ ram = ap (λ (l : List ℕ). with_columns K n g l ram) (quiet-ram K Control xs _ l.1) ∙ put_back K n g ram in
      inr (refused, ram-refused (after_state (checked true xs (Some g))) (took lost xs (Some g)) refused ∙ sym (ram-stays (after_state (checked false xs (Some g))) (took false xs (Some g)) still)))
      (outcome K (registers_of g r).unknown Control 1 xs)

  -- where byte 0 did not come, nothing changes
  unheard : (t : Sent) → address_byte t ≡ 0 → Still (transfer_call K n r ram t)
  unfolding transfer_call
  unheard t e =
      answered-still (check_transfer K n r ram t) (taken K n r ram t (heard_by n (address_byte t)))
      (subst (λ (to : Addressed). Still (taken K n r ram t to)) (sym (ap (heard_by n) e ∙ nobody n)) (record { ram-still = refl; registers-still = refl }))

  module _ (bytes : List ℕ) (x bits : ℕ) (room : length bytes < 4096) (some : 0 < bits) (few : bits < 8) where
    abbrev lost : Bool
    lost = cut_data (cut_after bytes x bits)

    cut-check : check_transfer K n r ram (cut_after bytes x bits) ≡ checked_all true bytes
    cut-check = check-is (cut_after bytes x bits) (cut-passes bytes x bits room some few) ∙ (λ i. checked_all (lt-ltb bits 8 few i) (whole_is bytes x bits few i))

    cut-call : transfer_call K n r ram (cut_after bytes x bits) ≡ called true lost bytes
    cut-call = call-is (cut_after bytes x bits) (cut-passes bytes x bits room some few) ∙ (λ i. called (lt-ltb bits 8 few i) lost (whole_is bytes x bits few i))

    whole-call : 0 < length bytes → transfer_call K n r ram (whole bytes) ≡ called false false bytes
    unfolding whole_of cut_data
    whole-call one = call-is (whole bytes) (whole-passes bytes one room)

    alike : Alike (called true lost bytes) (called false false bytes) (checked_all true bytes)
    alike = alike-by lost (drop 1 bytes) (heard_by n (get_or bytes 0 0))

    -- where the cut byte is taken
    same : check_transfer K n r ram (cut_after bytes x bits) ≡ Ok tt → Same (called true lost bytes) (called false false bytes)
    same h = ⊎_elim (λ (s : Same _ _). s) (λ l. not-passed (checked_all true bytes) l.0 (sym cut-check ∙ h)) alike

    -- where it is no data
    no_data : lost ≡ false → called true lost bytes ≡ called false false bytes
    no_data h = ap₂ (λ (k : Check) (b : Bool). answered (after_state k) r ram (took b (drop 1 bytes) (heard_by n (get_or bytes 0 0)))) (go (heard_by n (get_or bytes 0 0))) h
      where
        go : (to : Addressed) → checked true (drop 1 bytes) to ≡ checked false (drop 1 bytes) to
        go (Some g) = other-alike K (registers_of g r).unknown Control 1 (drop 1 bytes) (cut-other bytes x bits few h)
        go None = refl

    -- after some whole bytes
    long-some : 0 < length bytes → LongCut K n r ram bytes x bits
    long-some one = record {
      ram = ap (λ (a : After). a.ram) cut-call ∙ ⊎_elim (λ (s : Same _ _). s.ram-same) (λ l. l.1) alike ∙ sym (ap (λ (a : After). a.ram) (whole-call one));
      other = λ _ h. cut-call ∙ no_data h ∙ sym (whole-call one);
      answer = λ _ h. ap (λ (a : After). a.result.answer) cut-call ∙ (same h).answer-same ∙ sym (ap (λ (a : After). a.result.answer) (whole-call one));
      registers = λ h. ap (λ (a : After). both_unmarked a.result.registers) cut-call ∙ (same h).registers-same ∙ sym (ap (λ (a : After). both_unmarked a.result.registers) (whole-call one));
    }

  -- and after none
  long-none : (x bits : ℕ) → bits < 8 → LongCut K n r ram [] x bits
  long-none x bits few =
      let after = unheard (cut_after [] x bits) (no_address x bits few) in
      let before = unheard (whole []) none-whole in
      record {
        ram = after.ram-still ∙ sym before.ram-still;
        other = λ h. absurd (not-suc-le-zero h);
        answer = λ h. absurd (not-suc-le-zero h);
        registers = λ _. ap both_unmarked (after.registers-still ∙ sym before.registers-still);
      }

  pub long-cut : (bytes : List ℕ) (x bits : ℕ) → length bytes < 4096 → 0 < bits → bits < 8 → LongCut K n r ram bytes x bits
  long-cut [] x bits room some few = long-none x bits few
  long-cut (b ∷ bs) x bits room some few = long-some (b ∷ bs) x bits room some few (omega arith)
