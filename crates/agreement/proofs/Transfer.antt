-- One transfer: the chips hold and acknowledge what the long account does, and no call refuses the state after it.
-- Assumes nothing.
use mathlib.Core.Path.{◌≡◌, refl, sym, ap, subst, ◌∙◌}
use mathlib.Core.Bool.{Bool, true, false, cond, ◌&&◌, ◌||◌}
use mathlib.Core.List.{List, [], ◌++◌, append-nil}
use Prim.Native.Nat.{ℕ, ◌+◌, ◌*◌, ◌<◌}
use native.Mathlib.Nat.{mul-add, le_of_eq, zero-add}
use lib.Dec.{eqb, ltb}
use lib.ListN.{take, drop, drop_of_length-le}
use Rattle.sheet.specs.declared.Chips.{Chips}
use Rattle.sheet.specs.declared.Chip.{Chip}
use Rattle.std.specs.Prelude.{Err, None, Ok, Some}
use Rattle.sheet.specs.Results.{Check, Addressed, PlainAnswer}
use Rattle.sheet.specs.Parts.{Part}
use Rattle.sheet.specs.Protocol.{address_of, heard_by, Sent, address_byte}
use Rattle.sheet.specs.Checks.{check_transfer}
use Rattle.sheet.specs.Long.{Group, After, heard_whole, taken, answered, transfer_call, State, state_of}
use Rattle.sheet.specs.Plain.{begun_by, Plain, PlainAfter, plain_whole, plain_said, plain_taken, plain_answered, plain_call}
use Rattle.sheet.specs.Agree.{chips_of, plainly, Keeps, Valid, Agrees}
use Rattle.laws.proofs.Kept.{Kept, whole-keeps}
use Rattle.laws.proofs.Fits.{Fits, fits-of}
use Rattle.agreement.proofs.Group.{chips_of_group, plain_of, whole_agrees}
use Rattle.agreement.proofs.Checks.{group-hears, chips_hear, called_true, same-checks}
use Rattle.agreement.proofs.Parts.{together, begun_in, chips-together, valid-together, rest-one, kept-zero, kept-one, apart}

abbrev pub left : After → State
left a = state_of a.result.registers a.ram

-- what the two accounts leave and answer is the same
record Same (K : Part) (n : Chips) (p : PlainAfter) (a : After) : Type 0 where
  hold : p.chips ≡ chips_of K n (left a)
  acknowledge : p.answer ≡ plainly a.result.answer
  valid : Valid K n (left a)

module _ (K : Part) (keeps : Keeps K) (n : Chips) (s : State) (t : Sent) (v : Valid K n s) where
  fits : Fits K n s.registers s.ram
  fits = fits-of K n s.registers s.ram v

  abbrev group_zero : Group
  group_zero = begun_in K n 0 s

  abbrev group_one : Group
  group_one = begun_in K n 1 s

  -- a group after the bytes
  abbrev after : Group → Group
  after g = heard_whole K t g

  -- the chips before
  chips-before : chips_of K n s ≡ chips_of_group K n.zero 0 group_zero ++ chips_of_group K n.one 1 group_one
  chips-before = ap (λ (t : State). chips_of K n t) (apart K n s fits) ∙ chips-together K n group_zero group_one (kept-zero K n s fits)

  -- groups a and b after the transfer
  conclude : (a b : Group) (p : Plain) (u : After) → Kept K (K.columns * n.zero) a → Kept K (K.columns * n.one) b
      → p.chips ≡ chips_of_group K n.zero 0 a ++ chips_of_group K n.one 1 b → left u ≡ together a b
      → Ok (record { bytes = p.acknowledged; last = p.last }) ≡ plainly u.result.answer → Same K n (plain_said p) u
  conclude a b p u ka kb ep et ea = record {
    hold = ep ∙ sym (ap (λ (q : State). chips_of K n q) et ∙ chips-together K n a b ka);
    acknowledge = ea;
    valid = subst (λ (q : State). Valid K n q) (sym et) (valid-together K n a b fits.zero-few fits.one-few ka kb);
  }

  -- the transfer to a chip, by its address
  abbrev plain : ℕ → Plain
  plain address = plain_whole K address t (begun_by 1 (chips_of K n s))

  abbrev long : Addressed → After
  long to = taken K n s.registers s.ram t to

  to_zero : 0 < n.zero → Same K n (plain_said (plain (address_of 0))) (long (Some 0))
  to_zero pn =
      let others = chips_of_group K n.one 1 group_one in
      let e : plain (address_of 0) ≡ plain_of K n.zero 0 [] others (after group_zero) =
      ap (λ (cs : List Chip). plain_whole K (address_of 0) t (begun_by 1 cs)) chips-before
      ∙ whole_agrees K n.zero 0 keeps pn fits.zero-few [] others refl (group-hears (address_of 0) K n.one 1 group_one.registers group_one.ram) t group_zero (kept-zero K n s fits) in
      conclude (after group_zero) group_one (plain (address_of 0)) (long (Some 0)) (whole-keeps K (K.columns * n.zero) keeps t group_zero (kept-zero K n s fits)) (kept-one K n s fits)
      (ap (λ (p : Plain). p.chips) e)
      (λ i. record {
        registers = record { zero = (after group_zero).registers; one = s.registers.one };
        ram = (after group_zero).ram ++ (ap (λ (k : ℕ). drop k s.ram) (zero-add (K.columns * n.zero)) ∙ sym (rest-one K n s fits)) i;
      })
      (ap (λ (p : Plain). Ok (record { bytes = p.acknowledged; last = p.last })) e)

  to_one : 0 < n.one → Same K n (plain_said (plain (address_of 1))) (long (Some 1))
  to_one pn =
      let others = chips_of_group K n.zero 0 group_zero in
      let e : plain (address_of 1) ≡ plain_of K n.one 1 others [] (after group_one) =
      ap (λ (cs : List Chip). plain_whole K (address_of 1) t (begun_by 1 cs))
      (chips-before ∙ ap (λ (cs : List Chip). others ++ cs) (sym (append-nil (chips_of_group K n.one 1 group_one))))
      ∙ whole_agrees K n.one 1 keeps pn fits.one-few others [] (group-hears (address_of 1) K n.zero 0 group_zero.registers group_zero.ram) refl t group_one (kept-one K n s fits) in
      conclude group_zero (after group_one) (plain (address_of 1)) (long (Some 1)) (kept-zero K n s fits) (whole-keeps K (K.columns * n.one) keeps t group_one (kept-one K n s fits))
      (ap (λ (p : Plain). p.chips) e ∙ ap (λ (cs : List Chip). others ++ cs) (append-nil (chips_of_group K n.one 1 (after group_one))))
      (λ i. record {
        registers = record { zero = s.registers.zero; one = (after group_one).registers };
        ram = take (K.columns * n.zero) s.ram ++ (ap (λ (c : List ℕ). (after group_one).ram ++ c) (drop_of_length-le s.ram {i = K.columns * n.zero + K.columns * n.one} (le_of_eq (fits.columns ∙ mul-add K.columns n.zero n.one))) ∙ append-nil (after group_one).ram) i;
      })
      (ap (λ (p : Plain). Ok (record { bytes = p.acknowledged; last = p.last })) e)

  -- nobody hears: all stays
  to_nobody : Same K n (plain_said (begun_by 0 (chips_of K n s))) (long None)
  to_nobody = record { hold = refl; acknowledge = refl; valid = v }

  -- ---- by byte 0

  abbrev called : ℕ → ℕ → Bool
  called g k = eqb (address_byte t) (address_of g) && ltb 0 k

  abbrev Taken : Bool → Bool → Type 0
  Taken zero one =
      Same K n (plain_said (cond (zero || one) (plain (address_byte t)) (begun_by 0 (chips_of K n s))))
      (long (cond zero (Some 0) (cond one (Some 1) None)))

  by_address : (zero one : Bool) → (zero ≡ true → (address_byte t ≡ address_of 0) × (0 < n.zero)) → (one ≡ true → (address_byte t ≡ address_of 1) × (0 < n.one)) → Taken zero one
  by_address true one hz ho = let h = hz refl in subst (λ (a : ℕ). Same K n (plain_said (plain a)) (long (Some 0))) (sym h.0) (to_zero h.1)
  by_address false true hz ho = let h = ho refl in subst (λ (a : ℕ). Same K n (plain_said (plain a)) (long (Some 1))) (sym h.0) (to_one h.1)
  by_address false false hz ho = to_nobody

  taken-same : Same K n (plain_said (plain_taken K (chips_of K n s) t)) (long (heard_by n (address_byte t)))
  unfolding heard_by
  taken-same =
      rw (chips_hear K n s (address_byte t))
      (by_address (called 0 n.zero) (called 1 n.one) (called_true K n s fits (address_byte t) 0 n.zero) (called_true K n s fits (address_byte t) 1 n.one))

  -- ---- by the check

  by-check : (k : Check) (p : PlainAfter) (u : After) → Same K n p u → Same K n (plain_answered k (chips_of K n s) p) (answered k s.registers s.ram u)
  by-check (Ok _) p u h = h
  by-check (Err r) p u h = record { hold = refl; acknowledge = refl; valid = v }

  pub transfer : Agrees K n s t
  unfolding plain_call transfer_call
  transfer =
      let h : Same K n (plain_call K (chips_of K n s) t) (transfer_call K n s.registers s.ram t) =
      rw (same-checks K n s t v) (by-check (check_transfer K n s.registers s.ram t) (plain_said (plain_taken K (chips_of K n s) t)) (long (heard_by n (address_byte t))) taken-same) in
      record { hold = h.hold; acknowledge = h.acknowledge; valid = h.valid }
