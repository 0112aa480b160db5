-- What stands behind a part's columns in a chip's array is neither checked nor read nor changed.
-- Assumes nothing.
use mathlib.Core.Path.{◌≡◌, refl, sym, ap, ap₂, ◌∙◌}
use mathlib.Core.Bool.{Bool, true, false, cond, ◌&&◌, ◌||◌}
use mathlib.Core.List.{List, [], ◌∷◌, map}
use Prim.Native.Nat.{ℕ, zero, suc, ◌+◌, ◌*◌, ◌/◌, ◌<◌}
use native.Mathlib.Omega.{arith}
use lib.Dec.{eqb, leb}
use lib.ListN.{length, drop, length-map}
use lib.Seq.{take-take}
use Rattle.sheet.specs.declared.Marks.{Marks}
use Rattle.sheet.specs.declared.Chip.{Chip}
use Rattle.sheet.specs.declared.Kind.{Kind}
use Rattle.sheet.specs.declared.Expect.{Expect}
use Rattle.sheet.specs.declared.Expect.TheVariants.{Control, One, All}
use Rattle.std.specs.Prelude.{Err, Ok}
use Rattle.sheet.specs.Results.{Acknowledger, Check}
use Rattle.sheet.specs.declared.Refusal.TheVariants.{ManyChips, ChipField}
use Rattle.sheet.specs.Parts.{Part}
use Rattle.sheet.specs.Registers.{in_range, backplanes}
use Rattle.sheet.specs.Protocol.{next, Sent, whole_of, address_byte, cut_data}
use Rattle.sheet.specs.Checks.{unless, or_else, check_sent, fault_of_sent}
use Rattle.sheet.specs.Plain.{after_column, after_columns, chip_data, acknowledges_data, chip_byte, acknowledges_byte, hears, any, takes, lower, smallest, acknowledged_by, once, last_after, Plain, plain_heard, chip_lost, chip_ended, plain_ended, plain_whole, unknown_in, marks_in, chip_fits, chip_power_on, check_chip_picture, chip_picture_call, misfit_in, check_plain, plain_taken, begun_by, plain_said, plain_call}
use Rattle.sheet.specs.Data.{width_of}
use Rattle.sheet.specs.Agree.{AllIn, Keeps, trimmed, past_columns, PastStays, PastUnread}
use Rattle.laws.proofs.Ranges.{range-of}
use Rattle.laws.proofs.Moves.{still_in, byte_still_in}
use Rattle.laws.proofs.Fits.{both_pass, all_in}
use Rattle.agreement.proofs.Column.{rows_of, take-before, drop-before}

-- ---- the checks read the part's own columns

fits-own : (K : Part) (c : Chip) → chip_fits K (trimmed K c) ≡ chip_fits K c
unfolding chip_fits
fits-own K c = rw (take-take K.columns K.columns c.columns (omega arith)) refl

pub past_unread : (K : Part) (c : Chip) → PastUnread K c
unfolding chip_power_on chip_picture_call check_chip_picture
past_unread K c = record {
  power-on = rw (take-take K.columns K.columns c.columns (omega arith)) refl;
  stays = refl;
  picture = λ phase out. rw (fits-own K c, take-take K.columns K.columns c.columns (omega arith)) refl;
}

misfits_own : (K : Part) (i : ℕ) (cs : List Chip) → misfit_in K i (map (trimmed K) cs) ≡ misfit_in K i cs
unfolding misfit_in
misfits_own K i [] = refl
misfits_own K i (c ∷ cs) = rw (fits-own K c) (ap (λ (k : Check). cond (chip_fits K c) k (Err (ChipField i))) (misfits_own K (suc i) cs))

-- what is asked of chips but for their columns
any-own : (K : Part) (f : Chip → Bool) → ((c : Chip) → f (trimmed K c) ≡ f c) → (cs : List Chip) → any f (map (trimmed K) cs) ≡ any f cs
any-own K f e [] = refl
any-own K f e (c ∷ cs) = ap₂ (λ (a b : Bool). a || b) (e c) (any-own K f e cs)

hears-own : (K : Part) (address : ℕ) (cs : List Chip) → any (hears address) (map (trimmed K) cs) ≡ any (hears address) cs
hears-own K address cs = any-own K (hears address) (λ c. refl) cs

unknown-own : (K : Part) (address : ℕ) (mark : Marks → ℕ) (cs : List Chip) → unknown_in address mark (map (trimmed K) cs) ≡ unknown_in address mark cs
unknown-own K address mark cs = ap (λ (b : Bool). cond b 1 0) (any-own K (λ c. hears address c && eqb (mark c.registers.unknown) 1) (λ c. refl) cs)

marks-own : (K : Part) (address : ℕ) (cs : List Chip) → marks_in address (map (trimmed K) cs) ≡ marks_in address cs
marks-own K address cs i = record { high = unknown-own K address (λ u. u.high) cs i; low = unknown-own K address (λ u. u.low) cs i; device = unknown-own K address (λ u. u.device) cs i }

checks-own : (K : Part) (cs : List Chip) (t : Sent) → check_plain K (map (trimmed K) cs) t ≡ check_plain K cs t
unfolding check_plain
checks-own K cs t =
    rw (length-map cs (trimmed K), misfits_own K 0 cs, hears-own K (address_byte t) cs)
    (ap (λ (u : Marks). or_else (unless (leb (length cs) (2 * K.limit)) ManyChips) (or_else (misfit_in K 0 cs) (or_else (check_sent t) (cond (any (hears (address_byte t)) cs) (fault_of_sent K u t) (Ok tt))))) (marks-own K (address_byte t) cs))

-- ---- a byte lands before what stands behind

record Own (K : Part) (f : Chip → Chip) (c : Chip) : Type 0 where
  own : trimmed K (f c) ≡ f (trimmed K c)
  past : past_columns K (f c) ≡ past_columns K c

column-own : (K : Part) (x j : ℕ) (c : Chip) → c.registers.p < K.columns → Own K (after_column K x j) c
unfolding after_column
column-own K x j c l = by-test (eqb c.registers.a c.subaddress) refl
  where
    by-test : (b : Bool) → eqb c.registers.a c.subaddress ≡ b → Own K (after_column K x j) c
    by-test true e = record {
      own = rw e (λ i. record { columns = take-before K.columns c.registers.p (rows_of x j c.registers) c.columns l i; sa0 = c.sa0; subaddress = c.subaddress; registers = (after_column K x j c).registers });
      past = rw e (drop-before K.columns c.registers.p (rows_of x j c.registers) c.columns l);
    }
    by-test false e = record { own = rw e refl; past = rw e refl }

columns-own : (K : Part) (x n : ℕ) (c : Chip) → in_range K c.registers ≡ true → Own K (after_columns K x n) c
unfolding after_columns
columns-own K x zero c h = record { own = refl; past = refl }
columns-own K x (suc n) c h =
    let before = columns-own K x n c h in
    let now = column-own K x n (after_columns K x n c) (still_in K x n c (range-of K c.registers h)).p-in in
    record { own = now.own ∙ ap (after_column K x n) before.own; past = now.past ∙ before.past }

-- a chip of the list, and what it answers
record Taken (K : Part) (e : Expect) (x : ℕ) (c : Chip) : Type 0 where
  taken : Own K (chip_byte K e x) c
  answers : acknowledges_byte K e x (trimmed K c) ≡ acknowledges_byte K e x c

kind_own : (K : Part) (k : Kind) (x : ℕ) (c : Chip) → in_range K c.registers ≡ true → Taken K (One k) x c
unfolding chip_data acknowledges_data
kind_own K Kind.Command x c h = record { taken = record { own = refl; past = refl }; answers = refl }
kind_own K Kind.Data x c h = record {
  taken = let made = columns-own K x (width_of (backplanes c.registers)) c h in record { own = made.own; past = made.past };
  answers = ap (λ (d : Chip). eqb d.registers.a c.subaddress) (sym (columns-own K x (7 / backplanes c.registers) c h).own);
}

byte-own : (K : Part) (e : Expect) (x : ℕ) (c : Chip) → in_range K c.registers ≡ true → Taken K e x c
byte-own K Control x c h = record { taken = record { own = refl; past = refl }; answers = refl }
byte-own K (One k) x c h = kind_own K k x c h
byte-own K (All k) x c h = let made = kind_own K k x c h in record { taken = record { own = made.taken.own; past = made.taken.past }; answers = made.answers }

-- ---- a list of chips

module _ (K : Part) (keeps : Keeps K) (address : ℕ) where
  takes-own : (e : Expect) (x : ℕ) (c : Chip) → in_range K c.registers ≡ true → Own K (takes K address e x) c
  takes-own e x c h = let made = by-test (hears address c) (byte-own K e x c h).taken in record { own = made.0; past = made.1 }
    where
      by-test : (b : Bool) → Own K (chip_byte K e x) c → (trimmed K (cond b (chip_byte K e x c) c) ≡ cond b (chip_byte K e x (trimmed K c)) (trimmed K c)) × (past_columns K (cond b (chip_byte K e x c) c) ≡ past_columns K c)
      by-test true o = (o.own, o.past)
      by-test false o = (refl, refl)

  all_own : (e : Expect) (x : ℕ) (cs : List Chip) → AllIn K cs → map (trimmed K) (map (takes K address e x) cs) ≡ map (takes K address e x) (map (trimmed K) cs)
  all_own e x [] h = refl
  all_own e x (c ∷ cs) h = ap₂ (λ (d : Chip) (ds : List Chip). d ∷ ds) (takes-own e x c h.0).own (all_own e x cs h.1)

  all_past : (e : Expect) (x : ℕ) (cs : List Chip) → AllIn K cs → map (past_columns K) (map (takes K address e x) cs) ≡ map (past_columns K) cs
  all_past e x [] h = refl
  all_past e x (c ∷ cs) h = ap₂ (λ (d : List ℕ) (ds : List (List ℕ)). d ∷ ds) (takes-own e x c h.0).past (all_past e x cs h.1)

  all-kept : (e : Expect) (x : ℕ) (cs : List Chip) → AllIn K cs → AllIn K (map (takes K address e x) cs)
  all-kept e x [] h = tt
  all-kept e x (c ∷ cs) h = (by-test (hears address c), all-kept e x cs h.1)
    where
      by-test : (b : Bool) → in_range K (cond b (chip_byte K e x c) c).registers ≡ true
      by-test true = byte_still_in K keeps e x c h.0
      by-test false = h.0

  said-own : (e : Expect) (x : ℕ) (cs : List Chip) → AllIn K cs → acknowledged_by K address e x (map (trimmed K) cs) ≡ acknowledged_by K address e x cs
  unfolding smallest
  said-own e x [] h = refl
  said-own e x (c ∷ cs) h =
      ap₂ (λ (b : Bool) (a : Acknowledger). cond (hears address c && b) (lower c.subaddress a) a) (byte-own K e x c h.0).answers (said-own e x cs h.1)

  -- the bytes that are left
  abbrev own_of : Plain → Plain
  own_of s = record { acknowledged = s.acknowledged; last = s.last; chips = map (trimmed K) s.chips }

  -- after a byte more
  abbrev after : Expect → ℕ → Plain → Plain
  after e x s =
      let who = acknowledged_by K address e x s.chips in
      record { acknowledged = s.acknowledged + once who; last = last_after e who s.last; chips = map (takes K address e x) s.chips }

  heard-own : (e : Expect) (xs : List ℕ) (s : Plain) → AllIn K s.chips → plain_heard K address e xs (own_of s) ≡ own_of (plain_heard K address e xs s)
  unfolding plain_heard
  heard-own e [] s h = refl
  heard-own e (x ∷ xs) s h =
      rw (said-own e x s.chips h, sym (all_own e x s.chips h)) (heard-own (next e x) xs (after e x s) (all-kept e x s.chips h))

  heard-past : (e : Expect) (xs : List ℕ) (s : Plain) → AllIn K s.chips → map (past_columns K) (plain_heard K address e xs s).chips ≡ map (past_columns K) s.chips
  unfolding plain_heard
  heard-past e [] s h = refl
  heard-past e (x ∷ xs) s h = heard-past (next e x) xs (after e x s) (all-kept e x s.chips h) ∙ all_past e x s.chips h

  -- the byte that is cut, after them
  ended-own : (d : Bool) (c : Chip) → Own K (chip_ended address d) c
  ended-own d c = let made = by-test (hears address c) in record { own = made.0; past = made.1 }
    where
      by-test : (b : Bool) → (trimmed K (cond b (chip_lost d c) c) ≡ cond b (chip_lost d (trimmed K c)) (trimmed K c)) × (past_columns K (cond b (chip_lost d c) c) ≡ past_columns K c)
      by-test true = (refl, refl)
      by-test false = (refl, refl)

  all-ended : (d : Bool) (cs : List Chip) → map (trimmed K) (map (chip_ended address d) cs) ≡ map (chip_ended address d) (map (trimmed K) cs)
  all-ended d [] = refl
  all-ended d (c ∷ cs) = ap₂ (λ (a : Chip) (others : List Chip). a ∷ others) (ended-own d c).own (all-ended d cs)

  ended-past : (d : Bool) (cs : List Chip) → map (past_columns K) (map (chip_ended address d) cs) ≡ map (past_columns K) cs
  ended-past d [] = refl
  ended-past d (c ∷ cs) = ap₂ (λ (a : List ℕ) (others : List (List ℕ)). a ∷ others) (ended-own d c).past (ended-past d cs)

  whole-own : (t : Sent) (s : Plain) → AllIn K s.chips → plain_whole K address t (own_of s) ≡ own_of (plain_whole K address t s)
  whole-own t s h =
      ap (plain_ended address t) (heard-own Control (drop 1 (whole_of t)) s h)
      ∙ (λ i. let w = plain_heard K address Control (drop 1 (whole_of t)) s in record { acknowledged = w.acknowledged; last = w.last; chips = sym (all-ended (cut_data t) w.chips) i })

  whole-past : (t : Sent) (s : Plain) → AllIn K s.chips → map (past_columns K) (plain_whole K address t s).chips ≡ map (past_columns K) s.chips
  whole-past t s h = ended-past (cut_data t) (plain_heard K address Control (drop 1 (whole_of t)) s).chips ∙ heard-past Control (drop 1 (whole_of t)) s h

-- ---- the law

module _ (K : Part) (keeps : Keeps K) (cs : List Chip) (t : Sent) where
  passed_in : check_plain K cs t ≡ Ok tt → AllIn K cs
  unfolding check_plain
  passed_in e = all_in K 0 cs (both_pass (misfit_in K 0 cs) _ (both_pass (unless (leb (length cs) (2 * K.limit)) ManyChips) _ e).1).0

  -- what a transfer that is taken makes of the chips without it
  taken_own : AllIn K cs → (plain_taken K (map (trimmed K) cs) t ≡ own_of K keeps (address_byte t) (plain_taken K cs t)) × (map (past_columns K) (plain_taken K cs t).chips ≡ map (past_columns K) cs)
  taken_own h = rw (hears-own K (address_byte t) cs) (by-test (any (hears (address_byte t)) cs))
    where
      by-test : (b : Bool) → (cond b (plain_whole K (address_byte t) t (begun_by 1 (map (trimmed K) cs))) (begun_by 0 (map (trimmed K) cs)) ≡ own_of K keeps (address_byte t) (cond b (plain_whole K (address_byte t) t (begun_by 1 cs)) (begun_by 0 cs)))
          × (map (past_columns K) (cond b (plain_whole K (address_byte t) t (begun_by 1 cs)) (begun_by 0 cs)).chips ≡ map (past_columns K) cs)
      by-test true = (whole-own K keeps (address_byte t) t (begun_by 1 cs) h, whole-past K keeps (address_byte t) t (begun_by 1 cs) h)
      by-test false = (refl, refl)

  pub past-stays : PastStays K cs t
  unfolding plain_call
  past-stays = by-check (check_plain K cs t) refl
    where
      by-check : (k : Check) → check_plain K cs t ≡ k → PastStays K cs t
      by-check (Ok _) e = let made = taken_own (passed_in e) in record {
        answer = rw (checks-own K cs t, e) (sym (ap (λ (s : Plain). (plain_said s).answer) made.0));
        own = rw (checks-own K cs t, e) (sym (ap (λ (s : Plain). s.chips) made.0));
        past = rw e made.1;
      }
      by-check (Err r) e = record { answer = rw (checks-own K cs t, e) refl; own = rw (checks-own K cs t, e) refl; past = rw e refl }
