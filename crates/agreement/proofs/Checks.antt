-- The chips of a state that no call refuses are chips that no call refuses, and both accounts refuse the same transfers.
-- Assumes nothing.
use mathlib.Core.Path.{◌≡◌, refl, sym, ap, ap₂, ◌∙◌}
use mathlib.Core.Logic.{◌≢◌, ⊎_elim}
use mathlib.Core.Bool.{Bool, true, false, cond, ◌&&◌, ◌||◌, and-false, or-false}
use mathlib.Core.List.{List, [], ◌++◌, append-nil}
use Prim.Native.Nat.{ℕ, zero, suc, ◌+◌, ◌*◌, ◌≤◌, ◌<◌}
use native.Mathlib.Nat.{add-zero, not-suc-le-zero, le_of_suc-le-suc}
use native.Mathlib.Omega.{arith}
use lib.Dec.{eqb, ltb}
use lib.ListN.{length, take, drop, length-append}
use lib.Seq.{take-take}
use borrow.Author.Tests.{eq-eqb, ne_eqb, eqb-true, lt-ltb, ltb-true, le-leb}
use Rattle.lemmas.proofs.Tests.{both_true}
use Rattle.lemmas.proofs.Order.{equal_or_not}
use Rattle.sheet.specs.declared.Marks.{Marks}
use Rattle.sheet.specs.declared.Registers.{Registers}
use Rattle.sheet.specs.declared.Chips.{Chips}
use Rattle.sheet.specs.declared.Chip.{Chip}
use Rattle.std.specs.Prelude.{None, Ok, Some}
use Rattle.sheet.specs.Results.{Check}
use Rattle.sheet.specs.Parts.{Part}
use Rattle.sheet.specs.Protocol.{address_of, heard_by, Sent, address_byte}
use Rattle.sheet.specs.Checks.{or_else, check_sent, fault_of_sent, check_bytes, check_transfer}
use Rattle.sheet.specs.Long.{State}
use Rattle.sheet.specs.Plain.{any, hears, unknown_in, marks_in, chip_fits, misfit_in, check_plain}
use Rattle.sheet.specs.Agree.{group_chips, group_of, chips_of, Valid}
use Rattle.laws.proofs.Ranges.{MarksIn, InRange, in-range}
use Rattle.laws.proofs.Nibbles.{Nibbles, check-nibbles, take-nibbles, drop-nibbles}
use Rattle.laws.proofs.Fits.{Fits, fits-of}
use Rattle.agreement.proofs.Acknowledge.{any-all, any_none}
use Rattle.agreement.proofs.Deaf.{any_join, Deaf, deaf_any}

-- ---- fields and columns

module _ (K : Part) (g : ℕ) (r : Registers) (pg : g < 2) (h : InRange K r) where
  -- n chips fit, and the others decide
  all_fit : (k n i : ℕ) (ram : List ℕ) (rest : List Chip) → i + n ≤ K.limit → Nibbles ram
      → misfit_in K k (group_chips K n g i r ram ++ rest) ≡ misfit_in K (k + n) rest
  unfolding misfit_in chip_fits group_chips
  all_fit k zero i ram rest l w = rw (add-zero k)
  all_fit k (suc n) i ram rest l w =
      rw (lt-ltb g 2 pg, lt-ltb i K.limit (omega arith), in-range K r h, take-take K.columns K.columns ram (omega arith), check-nibbles 0 (take K.columns ram) (take-nibbles K.columns ram w))
      (all_fit (suc k) n (suc i) (drop K.columns ram) rest (omega arith) (drop-nibbles K.columns ram w) ∙ ap (λ (j : ℕ). misfit_in K j rest) (omega arith))

-- as many chips as the counts say
length-group : (K : Part) (n g i : ℕ) (r : Registers) (ram : List ℕ) → length (group_chips K n g i r ram) ≡ n
unfolding group_chips
length-group K zero g i r ram = refl
length-group K (suc n) g i r ram = ap suc (length-group K n g (suc i) r (drop K.columns ram))

pub length-chips : (K : Part) (n : Chips) (s : State) → length (chips_of K n s) ≡ n.zero + n.one
length-chips K n s =
    length-append (group_of K 0 n s) (group_of K 1 n s)
    ∙ ap₂ (λ (x y : ℕ). x + y) (length-group K n.zero 0 0 s.registers.zero s.ram) (length-group K n.one 1 0 s.registers.one (drop (K.columns * n.zero) s.ram))

module _ (K : Part) (n : Chips) (s : State) (f : Fits K n s.registers s.ram) where
  none_misfits : misfit_in K 0 (chips_of K n s) ≡ Ok tt
  unfolding misfit_in
  none_misfits =
      let rest = drop (K.columns * n.zero) s.ram in
      all_fit K 0 s.registers.zero (omega arith) f.zero_in 0 n.zero 0 s.ram (group_chips K n.one 1 0 s.registers.one rest) (omega (arith, f.zero-few)) f.nibbles
      ∙ ap (λ (cs : List Chip). misfit_in K (0 + n.zero) cs) (sym (append-nil (group_chips K n.one 1 0 s.registers.one rest)))
      ∙ all_fit K 1 s.registers.one (omega arith) f.one_in (0 + n.zero) n.one 0 rest [] (omega (arith, f.one-few)) (drop-nibbles (K.columns * n.zero) s.ram f.nibbles)

  not-many : length (chips_of K n s) ≤ 2 * K.limit
  not-many = rw (length-chips K n s) (omega (arith, f.zero-few, f.one-few))

-- ---- who hears

-- a group hears its address if it has a chip
pub group-hears : (address : ℕ) (K : Part) (n g : ℕ) (r : Registers) (ram : List ℕ) → any (hears address) (group_chips K n g 0 r ram) ≡ (eqb address (address_of g) && ltb 0 n)
unfolding group_chips
group-hears address K zero g r ram = sym (and-false (eqb address (address_of g)))
group-hears address K (suc n) g r ram =
    ⊎_elim
    (λ (e : address ≡ address_of g).
    let t = eq-eqb address (address_of g) e in
    any-all (hears address) K g r (suc n) 0 ram (omega arith) (λ c. t) ∙ sym (ap (λ (b : Bool). b && ltb 0 (suc n)) t ∙ lt-ltb 0 (suc n) (omega arith)))
    (λ (e : address ≢ address_of g).
    let t = ne_eqb address (address_of g) e in
    any_none (hears address) K g r (suc n) 0 ram (λ i c. t) ∙ sym (ap (λ (b : Bool). b && ltb 0 (suc n)) t))
    (equal_or_not address (address_of g))

pub chips_hear : (K : Part) (n : Chips) (s : State) (address : ℕ)
    → any (hears address) (chips_of K n s) ≡ (eqb address (address_of 0) && ltb 0 n.zero || eqb address (address_of 1) && ltb 0 n.one)
chips_hear K n s address =
    let rest = drop (K.columns * n.zero) s.ram in
    any_join (hears address) (group_chips K n.zero 0 0 s.registers.zero s.ram) (group_chips K n.one 1 0 s.registers.one rest)
    ∙ ap₂ (λ (a b : Bool). a || b) (group-hears address K n.zero 0 s.registers.zero s.ram) (group-hears address K n.one 1 s.registers.one rest)

-- ---- marks: those of the chips that hear are the group's

-- of a group's chips, of which there is one
group-unknown : (K : Part) (n g : ℕ) (r : Registers) (ram : List ℕ) (mark : Marks → ℕ) → 0 < n
    → any (λ c. hears (address_of g) c && eqb (mark c.registers.unknown) 1) (group_chips K n g 0 r ram) ≡ eqb (mark r.unknown) 1
group-unknown K n g r ram mark pn = by-test (eqb (mark r.unknown) 1) refl
  where
    by-test : (b : Bool) → eqb (mark r.unknown) 1 ≡ b → any (λ c. hears (address_of g) c && eqb (mark c.registers.unknown) 1) (group_chips K n g 0 r ram) ≡ b
    by-test true e = any-all (λ c. hears (address_of g) c && eqb (mark c.registers.unknown) 1) K g r n 0 ram pn (λ c. rw (eq-eqb (address_of g) (address_of g) refl) e)
    by-test false e = any_none (λ c. hears (address_of g) c && eqb (mark c.registers.unknown) 1) K g r n 0 ram (λ i c. rw (eq-eqb (address_of g) (address_of g) refl) e)

-- a mark is 0 or 1
as_mark : (t : ℕ) → t < 2 → cond (eqb t 1) 1 0 ≡ t
as_mark zero l = refl
as_mark (suc zero) l = refl
as_mark (suc (suc t)) l = absurd (not-suc-le-zero (le_of_suc-le-suc (le_of_suc-le-suc l)))

-- the group's chips stand among chips that do not hear
module _ (K : Part) (n g : ℕ) (r : Registers) (ram : List ℕ) (before after : List Chip) (deaf-before : Deaf (address_of g) before) (deaf-after : Deaf (address_of g) after) (pn : 0 < n) where
  abbrev list : List Chip
  list = before ++ (group_chips K n g 0 r ram ++ after)

  unknown-is : (mark : Marks → ℕ) → mark r.unknown < 2 → unknown_in (address_of g) mark list ≡ mark r.unknown
  unknown-is mark l =
      let f : Chip → Bool = λ c. eqb (mark c.registers.unknown) 1 in
      ap (λ (b : Bool). cond b 1 0)
      (any_join _ before (group_chips K n g 0 r ram ++ after)
      ∙ ap₂ (λ (a b : Bool). a || b) (deaf_any (address_of g) f before deaf-before)
      (any_join _ (group_chips K n g 0 r ram) after
      ∙ ap₂ (λ (a b : Bool). a || b) (group-unknown K n g r ram mark pn) (deaf_any (address_of g) f after deaf-after)
      ∙ or-false (eqb (mark r.unknown) 1)))
      ∙ as_mark (mark r.unknown) l

  marks-are : MarksIn r.unknown → marks_in (address_of g) list ≡ r.unknown
  marks-are l i = record { high = unknown-is (λ u. u.high) l.high-in i; low = unknown-is (λ u. u.low) l.low-in i; device = unknown-is (λ u. u.device) l.device-in i }

module _ (K : Part) (n : Chips) (s : State) (f : Fits K n s.registers s.ram) where
  abbrev zeros : List Chip
  zeros = group_of K 0 n s

  abbrev ones : List Chip
  ones = group_of K 1 n s

  marks-zero : 0 < n.zero → marks_in (address_of 0) (chips_of K n s) ≡ s.registers.zero.unknown
  marks-zero pn = marks-are K n.zero 0 s.registers.zero s.ram [] ones refl (group-hears (address_of 0) K n.one 1 s.registers.one _) pn f.zero_in.marks-in

  marks-one : 0 < n.one → marks_in (address_of 1) (chips_of K n s) ≡ s.registers.one.unknown
  marks-one pn =
      ap (λ (cs : List Chip). marks_in (address_of 1) (zeros ++ cs)) (sym (append-nil ones))
      ∙ marks-are K n.one 1 s.registers.one (drop (K.columns * n.zero) s.ram) zeros [] (group-hears (address_of 1) K n.zero 0 s.registers.zero s.ram) refl pn f.one_in.marks-in

  -- byte 0 is the group's address, and the group has a chip
  pub called_true : (address g k : ℕ) → (eqb address (address_of g) && ltb 0 k) ≡ true → (address ≡ address_of g) × (0 < k)
  called_true address g k e =
      let t = both_true (eqb address (address_of g)) (ltb 0 k) e in
      (eqb-true address (address_of g) t.0, ltb-true 0 k t.1)

  -- a chip hears the bytes that are looked at
  same-faults : (t : Sent)
      → cond (any (hears (address_byte t)) (chips_of K n s)) (fault_of_sent K (marks_in (address_byte t) (chips_of K n s)) t) (Ok tt) ≡ check_bytes K s.registers (heard_by n (address_byte t)) t
  unfolding heard_by
  same-faults t =
      let address : ℕ = address_byte t in
      ap (λ (b : Bool). cond b (faults address) (Ok tt)) (chips_hear K n s address)
      ∙ either (eqb address (address_of 0) && ltb 0 n.zero) (eqb address (address_of 1) && ltb 0 n.one) (called_true address 0 n.zero) (called_true address 1 n.one)
    where
      faults : ℕ → Check
      faults address = fault_of_sent K (marks_in address (chips_of K n s)) t

      looked : (address g : ℕ) (u : Marks) → address ≡ address_of g → marks_in (address_of g) (chips_of K n s) ≡ u → faults address ≡ fault_of_sent K u t
      looked address g u e m = ap faults e ∙ ap (λ (v : Marks). fault_of_sent K v t) m

      either : (a b : Bool) → (a ≡ true → (address_byte t ≡ address_of 0) × (0 < n.zero)) → (b ≡ true → (address_byte t ≡ address_of 1) × (0 < n.one))
          → cond (a || b) (faults (address_byte t)) (Ok tt) ≡ check_bytes K s.registers (cond a (Some 0) (cond b (Some 1) None)) t
      either true b hz ho = looked (address_byte t) 0 s.registers.zero.unknown (hz refl).0 (marks-zero (hz refl).1)
      either false true hz ho = looked (address_byte t) 1 s.registers.one.unknown (ho refl).0 (marks-one (ho refl).1)
      either false false hz ho = refl

-- ---- the law

pub same-checks : (K : Part) (n : Chips) (s : State) (t : Sent) → Valid K n s
    → check_plain K (chips_of K n s) t ≡ check_transfer K n s.registers s.ram t
unfolding check_plain check_transfer
same-checks K n s t v =
    let f = fits-of K n s.registers s.ram v in
    rw (v, le-leb (length (chips_of K n s)) (2 * K.limit) (not-many K n s f), none_misfits K n s f)
    (ap (λ (k : Check). or_else (check_sent t) k) (same-faults K n s f t))
