-- Two groups, either order: a transfer's answer and what it makes of the group that it calls go by that group alone, and the other group stays.
-- So transfers that call no group in common may change places, in a sequence too.
-- Assumes nothing.
use mathlib.Core.Path.{◌≡◌, refl, sym, ap, ap₂, subst, ◌∙◌}
use mathlib.Core.Logic.{◌≢◌, ⊎_elim}
use mathlib.Core.List.{List, [], ◌∷◌, ◌++◌}
use Prim.Native.Nat.{ℕ, zero, suc, ◌<◌}
use native.Mathlib.Omega.{arith}
use Rattle.lemmas.proofs.Order.{equal_or_not}
use Rattle.sheet.specs.declared.Chips.{Chips}
use Rattle.sheet.specs.declared.Marks.{Marks}
use Rattle.sheet.specs.declared.Refusal.{Refusal}
use Rattle.std.specs.Prelude.{Err, None, Ok, Some}
use Rattle.sheet.specs.Results.{Check, Addressed, Answer}
use Rattle.sheet.specs.Parts.{Part, part_of}
use Rattle.sheet.specs.Registers.{registers_of}
use Rattle.sheet.specs.Protocol.{address_of, heard_by, Sent, address_byte}
use Rattle.sheet.specs.Checks.{or_else, check_sent, fault_of_sent, check_bytes, check_transfer}
use Rattle.sheet.specs.Long.{Group, After, begun, heard_whole, columns_of, taken, answered, transfer_call, State, state_after, state_after_all, picture_call}
use Rattle.sheet.specs.Agree.{Keeps, Valid}
use Rattle.sheet.specs.Either.{CallsGroup, Apart, ApartFrom, AllApart, Spares, answer_given, answers_given, SamePictures, Commute, OwnMarks, Merge, neither, one, other, to_one, to_other, Merged, EitherOrder, ClaimEither}
use Rattle.laws.proofs.Kept.{part-keeps}
use Rattle.laws.proofs.Fits.{fits-of}
use Rattle.laws.proofs.Lens.{own-registers, own-columns}
use Rattle.laws.proofs.Groups.{Calls, calls, group_after, length-after, stays}
use Rattle.agreement.proofs.Parts.{together, apart}
use Rattle.agreement.proofs.Transfer.{left, transfer}
use Rattle.agreement.proofs.Sequence.{sequence}

-- group g is the same in two states
record Alike (K : Part) (n : Chips) (g : ℕ) (s u : State) : Type 0 where
  registers : registers_of g s.registers ≡ registers_of g u.registers
  columns : columns_of K n g s.ram ≡ columns_of K n g u.ram

-- the group that a transfer calls is
abbrev OwnAlike : Part → Chips → Sent → State → State → Type 0
OwnAlike K n t s u = (g : ℕ) → g < 2 → CallsGroup g t → Alike K n g s u

module _ (K : Part) (n : Chips) where
  alike-back : {g : ℕ} {s u : State} → Alike K n g s u → Alike K n g u s
  alike-back a = record { registers = sym a.registers; columns = sym a.columns }

  alike_then : {g : ℕ} {s u v : State} → Alike K n g s u → Alike K n g u v → Alike K n g s v
  alike_then a b = record { registers = a.registers ∙ b.registers; columns = a.columns ∙ b.columns }

  -- valid states with the same groups are the same
  both-alike : (s u : State) → Valid K n s → Valid K n u → ((g : ℕ) → g < 2 → Alike K n g s u) → s ≡ u
  both-alike s u vs vu same =
      let a = same 0 (omega arith) in
      let b = same 1 (omega arith) in
      apart K n s (fits-of K n s.registers s.ram vs)
      ∙ (λ i. together (begun (a.registers i) (a.columns i)) (begun (b.registers i) (b.columns i)))
      ∙ sym (apart K n u (fits-of K n u.registers u.ram vu))

  -- a group that is not called stays
  spared : (s : State) (t : Sent) (h : ℕ) → h < 2 → (CallsGroup h t → ⊥) → Alike K n h (state_after K n s t) s
  spared s t h ph not = let a = stays K n s.registers s.ram t h ph not in record { registers = a.registers; columns = a.columns }

  -- ---- one transfer, from two states

  module _ (s u : State) (t : Sent) (vs : Valid K n s) (vu : Valid K n u) where
    abbrev address : ℕ
    address = address_byte t

    -- of a valid state only the transfer and the marks of the group that hears are left to check
    own-check : (v : State) → Valid K n v → check_transfer K n v.registers v.ram t ≡ or_else (check_sent t) (check_bytes K v.registers (heard_by n address) t)
    unfolding check_transfer
    own-check v e = rw e

    by-marks : (to : Addressed) → Calls address to → OwnMarks t s u → check_bytes K s.registers to t ≡ check_bytes K u.registers to t
    by-marks (Some g) c same = ap (λ (m : Marks). fault_of_sent K m t) (same g c.0 c.1)
    by-marks None c same = refl

    -- so a refusal belongs to them
    refusal : OwnMarks t s u → check_transfer K n s.registers s.ram t ≡ check_transfer K n u.registers u.ram t
    refusal same = own-check s vs ∙ ap (or_else (check_sent t)) (by-marks (heard_by n address) (calls n address) same) ∙ sym (own-check u vu)

    -- what a call gives, taken and refused
    abbrev took : State → Addressed → After
    took v to = taken K n v.registers v.ram t to

    abbrev kept : State → Refusal → After
    kept v x = record { result = record { answer = Err x; registers = v.registers }; ram = v.ram }

    -- a group that is the same, after the bytes
    same-group : (g : ℕ) → Alike K n g s u → group_after K n s.registers s.ram t g ≡ group_after K n u.registers u.ram t g
    same-group g a i = heard_whole K t (begun (a.registers i) (a.columns i))

    module _ (own : OwnAlike K n t s u) where
      -- what holds of both taken, and of both refused for the same, holds of the two calls
      of_calls : (P : After → After → Type 0) → ((x : Refusal) → P (kept s x) (kept u x)) → P (took s (heard_by n address)) (took u (heard_by n address))
          → P (transfer_call K n s.registers s.ram t) (transfer_call K n u.registers u.ram t)
      unfolding transfer_call
      of_calls P refused passed = rw (refusal (λ g p c i. ((own g p c).registers i).unknown)) (go (check_transfer K n u.registers u.ram t))
        where
          go : (k : Check) → P (answered k s.registers s.ram (took s (heard_by n address))) (answered k u.registers u.ram (took u (heard_by n address)))
          go (Ok _) = passed
          go (Err x) = refused x

      answer-by : (to : Addressed) → Calls address to → (took s to).result.answer ≡ (took u to).result.answer
      answer-by (Some g) c = ap (λ (h : Group). Ok (record { counts = h.counts; last = h.last })) (same-group g (own g c.0 c.1))
      answer-by None c = refl

      -- the answer goes by the group that is called
      same_answer : answer_given K n s t ≡ answer_given K n u t
      same_answer = of_calls (λ a b. a.result.answer ≡ b.result.answer) (λ x. refl) (answer-by (heard_by n address) (calls n address))

      module _ (h : ℕ) (ph : h < 2) (a : Alike K n h s u) where
        -- after it heard the bytes
        heard-alike : Alike K n h (left (took s (Some h))) (left (took u (Some h)))
        heard-alike =
            let heard : State → Group = λ v. group_after K n v.registers v.ram t h in
            let columns : (v : State) → Valid K n v → columns_of K n h (took v (Some h)).ram ≡ (heard v).ram =
            λ v e. let f = fits-of K n v.registers v.ram e in own-columns K n v.registers v.ram f h (heard v).ram (length-after K n v.registers v.ram t f h) in
            record {
              registers = own-registers h (heard s).registers s.registers ∙ ap (λ (g : Group). g.registers) (same-group h a) ∙ sym (own-registers h (heard u).registers u.registers);
              columns = columns s vs ∙ ap (λ (g : Group). g.ram) (same-group h a) ∙ sym (columns u vu);
            }

        -- after the transfer, by who hears
        called-by : CallsGroup h t → (to : Addressed) → Calls address to → Alike K n h (left (took s to)) (left (took u to))
        called-by called (Some g) c = let e : h ≡ g = omega (arith, called, c.1) in subst (λ (k : ℕ). Alike K n h (left (took s (Some k))) (left (took u (Some k)))) e heard-alike
        called-by called None c = a

        -- a group that is the same before is the same after, called or not
        follows : Alike K n h (state_after K n s t) (state_after K n u t)
        follows =
            ⊎_elim
            (λ (called : CallsGroup h t). of_calls (λ x y. Alike K n h (left x) (left y)) (λ x. a) (called-by called (heard_by n address) (calls n address)))
            (λ (not : address ≢ address_of h). alike_then (spared s t h ph not) (alike_then a (alike-back (spared u t h ph not))))
            (equal_or_not address (address_of h))

module _ (K : Part) (keeps : Keeps K) (n : Chips) where
  abbrev after : State → Sent → State
  after s t = state_after K n s t

  valid-after : (s : State) (t : Sent) → Valid K n s → Valid K n (after s t)
  valid-after s t v = (transfer K keeps n s t v).valid

  same-pictures : (s u : State) → s ≡ u → SamePictures K n s u
  same-pictures s u e g phase out = ap (λ (v : State). picture_call K n v.registers v.ram g phase out) e

  -- ---- two transfers

  -- whichever stands first
  apart-back : (t u : Sent) → Apart t u → Apart u t
  apart-back t u far g p c d = far g p d c

  -- the group that t calls stays in u
  others_stay : (s : State) (t u : Sent) → Apart t u → OwnAlike K n t (after s u) s
  others_stay s t u far g p c = spared K n s u g p (far g p c)

  -- a group that u does not call: it stays in u, and so comes to t as it was
  one-group : (s : State) (t u : Sent) → Valid K n s → Apart t u → (h : ℕ) → h < 2 → (CallsGroup h u → ⊥) → Alike K n h (after (after s t) u) (after (after s u) t)
  one-group s t u v far h p not =
      alike_then K n (spared K n (after s t) u h p not)
      (alike-back K n (follows K n (after s u) s t (valid-after s u v) v (others_stay s t u far) h p (spared K n s u h p not)))

  either-state : (s : State) (t u : Sent) → Valid K n s → Apart t u → after (after s t) u ≡ after (after s u) t
  either-state s t u v far =
      both-alike K n (after (after s t) u) (after (after s u) t) (valid-after (after s t) u (valid-after s t v)) (valid-after (after s u) t (valid-after s u v))
      (λ h p.
      ⊎_elim (λ (called : CallsGroup h u). alike-back K n (one-group s u t v (apart-back t u far) h p (λ c. far h p c called)))
      (λ (not : address_byte u ≢ address_of h). one-group s t u v far h p not)
      (equal_or_not (address_byte u) (address_of h)))

  commute : (s : State) (t u : Sent) → Valid K n s → Apart t u → Commute K n s t u
  commute s t u v far = record {
    state = either-state s t u v far;
    first = same_answer K n (after s u) s t (valid-after s u v) v (others_stay s t u far);
    second = same_answer K n (after s t) s u (valid-after s t v) v (others_stay s u t (apart-back t u far));
    pictures = same-pictures (after (after s t) u) (after (after s u) t) (either-state s t u v far);
  }

  -- ---- sequences

  abbrev after_all : State → List Sent → State
  after_all s ts = state_after_all K n s ts

  -- a transfer before a sequence is one after it, and changes none of its answers
  record Passes (s : State) (u : Sent) (ts : List Sent) : Type 0 where
    state : after_all (after s u) ts ≡ after (after_all s ts) u
    answers : answers_given K n (after s u) ts ≡ answers_given K n s ts

  passes : (s : State) (u : Sent) (ts : List Sent) → Valid K n s → ApartFrom u ts → Passes s u ts
  unfolding state_after_all answers_given
  passes s u [] v far = record { state = refl; answers = refl }
  passes s u (t ∷ ts) v far =
      let c = commute s t u v (apart-back u t far.0) in
      let rest = passes (after s t) u ts (valid-after s t v) far.1 in
      record {
        state = ap (λ (w : State). after_all w ts) (sym c.state) ∙ rest.state;
        answers = ap₂ (λ (a : Answer) (answers : List Answer). a ∷ answers) c.first (ap (λ (w : State). answers_given K n w ts) (sym c.state) ∙ rest.answers);
      }

  -- one sequence after another
  joined : (s : State) (ts us : List Sent) → after_all s (ts ++ us) ≡ after_all (after_all s ts) us
  unfolding state_after_all
  joined s [] us = refl
  joined s (t ∷ ts) us = joined (after s t) ts us

  -- the first transfer of the other sequence is apart from all of the one, and its rest is
  first-apart : (ts us : List Sent) (u : Sent) → AllApart ts (u ∷ us) → ApartFrom u ts
  first-apart [] us u far = tt
  first-apart (t ∷ ts) us u far = (apart-back t u far.0.0, first-apart ts us u far.1)

  rest-apart : (ts us : List Sent) (u : Sent) → AllApart ts (u ∷ us) → AllApart ts us
  rest-apart [] us u far = tt
  rest-apart (t ∷ ts) us u far = (far.0.1, rest-apart ts us u far.1)

  -- what a merge gives, but for its pictures and that no call refuses it
  record Ends (s : State) (xs ys zs : List Sent) (m : Merge xs ys zs) : Type 0 where
    state : after_all s zs ≡ after_all s (xs ++ ys)
    first : to_one m (answers_given K n s zs) ≡ answers_given K n s xs
    second : to_other m (answers_given K n s zs) ≡ answers_given K n s ys

  -- a transfer of xs stands first already; one of ys passes all of xs
  ends : (s : State) {xs ys zs : List Sent} (m : Merge xs ys zs) → Valid K n s → AllApart xs ys → Ends s xs ys zs m
  unfolding state_after_all answers_given
  ends s neither v far = record { state = refl; first = refl; second = refl }
  ends s (one {x} {xs} {ys} {zs} m) v far =
      let rest = ends (after s x) m (valid-after s x v) far.1 in
      record {
        state = rest.state;
        first = ap (λ (answers : List Answer). answer_given K n s x ∷ answers) rest.first;
        second = rest.second ∙ (passes s x ys v far.0).answers;
      }
  ends s (other {y} {xs} {ys} {zs} m) v far =
      let rest = ends (after s y) m (valid-after s y v) (rest-apart xs ys y far) in
      let past = passes s y xs v (first-apart xs ys y far) in
      record {
        state = rest.state ∙ joined (after s y) xs ys ∙ ap (λ (w : State). after_all w ys) past.state ∙ sym (joined s xs (y ∷ ys));
        first = rest.first ∙ past.answers;
        second = ap (λ (answers : List Answer). answer_given K n s y ∷ answers) rest.second;
      }

  merge : (s : State) (xs ys zs : List Sent) (m : Merge xs ys zs) → Valid K n s → AllApart xs ys → Merged K n s xs ys zs m
  merge s xs ys zs m v far =
      let e = ends s m v far in
      record {
        state = e.state;
        first = e.first;
        second = e.second;
        pictures = same-pictures (after_all s zs) (after_all s (xs ++ ys)) e.state;
        valid = (sequence K keeps n s zs v).valid;
      }

-- ---- two loggers

different : (t u : Sent) → (CallsGroup 1 t → ⊥) → (CallsGroup 0 u → ⊥) → Apart t u
different t u nt nu zero p c d = nu d
different t u nt nu (suc zero) p c d = nt c
different t u nt nu (suc (suc g)) p c d = absurd (omega arith)

one_logger : (t : Sent) (us : List Sent) → (CallsGroup 1 t → ⊥) → Spares 0 us → ApartFrom t us
one_logger t [] nt sparing = tt
one_logger t (u ∷ us) nt sparing = (different t u nt sparing.0, one_logger t us nt sparing.1)

loggers : (ts us : List Sent) → Spares 1 ts → Spares 0 us → AllApart ts us
loggers [] us st su = tt
loggers (t ∷ ts) us st su = (one_logger t us st.0 su, loggers ts us st.1 su)

-- ---- the claim

pub either : ClaimEither
either K keeps = record {
  refusal = λ n s u t vs vu same. refusal K n s u t vs vu same;
  commute = λ n s t u v far. commute K keeps n s t u v far;
  loggers = loggers;
  merge = λ n s xs ys zs m v far. merge K keeps n s xs ys zs m v far;
}

-- of both parts
pub part-either : (part : ℕ) → EitherOrder (part_of part)
part-either part = either (part_of part) (part-keeps part)
