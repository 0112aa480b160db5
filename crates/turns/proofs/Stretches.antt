-- Several data bytes in one turn: those that end, in each chip that hears, in the columns of the chip that A names. All chips answer them alike, so the turn is theirs one after the other.
-- Assumes nothing.
use mathlib.Core.Path.{◌≡◌, refl, sym, ap, ap₂, ◌∙◌, subst}
use mathlib.Core.Logic.{◌⊎◌, inl, inr}
use mathlib.Core.Bool.{Bool, true, false, cond, ◌&&◌}
use mathlib.Core.List.{List, [], ◌∷◌, map}
use Prim.Native.Nat.{ℕ, zero, suc, ◌+◌, ◌-◌, ◌<◌, ◌≤◌, min}
use native.Mathlib.Nat.{mul-suc, min-le_left, min-le_right, le_refl, le_trans}
use native.Mathlib.Omega.{arith}
use lib.Dec.{leb, ltb, eqb}
use lib.ListN.{length, get_or, take, drop}
use borrow.Author.Tests.{lt-leb, lt-ltb, le-ltb}
use Rattle.lemmas.proofs.Order.{lt_or_le}
use Rattle.lemmas.proofs.Lists.{next as next_of}
use Rattle.sheet.specs.declared.Chip.{Chip}
use Rattle.std.specs.Prelude.{None, Some}
use Rattle.sheet.specs.Results.{Acknowledger}
use Rattle.sheet.specs.declared.Kind.{Kind}
use Rattle.sheet.specs.declared.Expect.{Expect}
use Rattle.sheet.specs.declared.Expect.TheVariants.{Control, One, All}
use Rattle.sheet.specs.Parts.{part_of}
use Rattle.sheet.specs.Registers.{in_range, backplanes}
use Rattle.sheet.specs.Plain.{hears, lower, smallest, once}
use Rattle.sheet.specs.Places.{advanced_by}
use Rattle.sheet.specs.Data.{width_of}
use Rattle.sheet.specs.Agree.{AllIn}
use Rattle.laws.proofs.Ranges.{range-of, in-range}
use Rattle.columns.specs.Stored.{columns_after, ran_over, room_in}
use Rattle.columns.proofs.Apart.{with, byte-apart, on_in}
use Rattle.columns.proofs.Inside.{Inside, has_room, byte_inside, acknowledged-inside}
use Rattle.turns.specs.declared.BusByte.{BusByte}
use Rattle.turns.specs.declared.Tally.{Tally}
use Rattle.turns.specs.declared.Turn.{Turn}
use Rattle.turns.specs.declared.Said.{Said}
use Rattle.turns.specs.Asking.{answers, one_or, alike_of, said_by, taken, ran_by}
use Rattle.turns.specs.Turns.{once_each, last_heard, turn_after, turn_past, most_after, most_in, taken_by}
use Rattle.turns.proofs.Lowering.{who-is}
use Rattle.turns.proofs.Following.{Following, turn_more}

-- ---- one data byte, which is whole

module _ (part address : ℕ) where
  abbrev pub data_byte : ℕ → BusByte
  data_byte x = record { part = part; address = address; expect = All Kind.Data; byte = x; cut = false }

  -- n bytes end, in each chip that hears, before the last column of the chip that A names
  abbrev pub Steady : ℕ → List Chip → Type 0
  Steady n [] = Unit {0}
  Steady n (c ∷ cs) = (hears address c ≡ true → Inside (part_of part) c.registers n) × Steady n cs

  -- a chip that hears it
  module _ (x : ℕ) (c : Chip) (i : in_range (part_of part) c.registers ≡ true) (h : hears address c ≡ true) where
    abbrev moved : Chip
    moved =
        let K = part_of part in
        let r = c.registers in
        with c (columns_after K c.subaddress x r (width_of (backplanes r)) c.columns) (advanced_by K (width_of (backplanes r)) r)

    taken_is : taken (data_byte x) c ≡ moved
    taken_is = rw (h, i) (byte-apart (part_of part) x c)

    moved_in : in_range (part_of part) moved.registers ≡ true
    moved_in = in-range (part_of part) _ (on_in (part_of part) _ c.registers (range-of (part_of part) c.registers i))

    -- and the next ones
    module _ (n : ℕ) (fits : Inside (part_of part) c.registers (suc (suc n))) where
      more : (Inside (part_of part) moved.registers (suc n)) × (moved.registers.a ≡ c.registers.a)
      more = byte_inside (part_of part) n c.registers (range-of (part_of part) c.registers i) fits

      same_answer : (y : ℕ) → answers (data_byte y) moved ≡ answers (data_byte x) c
      same_answer y =
          let K = part_of part in
          rw (h, i, moved_in, acknowledged-inside K y n moved more.0, acknowledged-inside K x (suc n) c fits) (ap (λ (a : ℕ). eqb a c.subaddress) more.1)

  -- any chip: what holds of it moved, and as it was if it does not hear, holds of it after the byte
  by_hearing : (x : ℕ) (c : Chip) (i : in_range (part_of part) c.registers ≡ true) (P : Chip → Type 0)
      → ((h : hears address c ≡ true) → P (moved x c i h)) → (hears address c ≡ false → P c) → P (taken (data_byte x) c)
  by_hearing x c i P hearing deaf = go (hears address c) refl
    where
      go : (t : Bool) → hears address c ≡ t → P (taken (data_byte x) c)
      go true e = subst P (sym (taken_is x c i e)) (hearing e)
      go false e = rw e (deaf e)

  module _ (x y n : ℕ) where
    -- the chips after it are as steady for the next ones, answer alike, and go on as they would have
    pub steady-all : (cs : List Chip) → AllIn (part_of part) cs → Steady (suc (suc n)) cs → Steady (suc n) (map (taken (data_byte x)) cs)
    steady-all [] is fits = tt
    steady-all (c ∷ cs) is fits = (
      by_hearing x c is.0 (λ d. hears address d ≡ true → Inside (part_of part) d.registers (suc n)) (λ h _. (more x c is.0 h n (fits.0 h)).0)
          (λ _ h. let w = width_of (backplanes c.registers) in let f = fits.0 h in omega (arith, f, mul-suc w (suc n))),
      steady-all cs is.1 fits.1,
    )

    pub who-alike : (cs : List Chip) → AllIn (part_of part) cs → Steady (suc (suc n)) cs → smallest (answers (data_byte y)) (map (taken (data_byte x)) cs) ≡ smallest (answers (data_byte x)) cs
    unfolding smallest
    who-alike [] is fits = refl
    who-alike (c ∷ cs) is fits =
        let answer : answers (data_byte y) (taken (data_byte x) c) ≡ answers (data_byte x) c =
        by_hearing x c is.0 (λ d. answers (data_byte y) d ≡ answers (data_byte x) c) (λ h. same_answer x c is.0 h n (fits.0 h) y) (λ e. rw e refl) in
        let named : (taken (data_byte x) c).subaddress ≡ c.subaddress = by_hearing x c is.0 (λ d. d.subaddress ≡ c.subaddress) (λ h. refl) (λ e. refl) in
        λ j. let others = who-alike cs is.1 fits.1 j in cond (answer j) (lower (named j) others) others

  pub ran-all : (x y : ℕ) (ys : List ℕ) (cs : List Chip) → AllIn (part_of part) cs → map (ran_by (data_byte y) ys) (map (taken (data_byte x)) cs) ≡ map (ran_by (data_byte x) (x ∷ ys)) cs
  unfolding ran_over
  ran-all x y ys [] is = refl
  ran-all x y ys (c ∷ cs) is =
      ap₂ (λ (d : Chip) (ds : List Chip). d ∷ ds)
      (by_hearing x c is.0 (λ d. ran_by (data_byte y) ys d ≡ ran_by (data_byte x) (x ∷ ys) c) (λ h. rw (h, is.0, moved_in x c is.0 h) (ap (ran_over (part_of part) ys) (sym (byte-apart (part_of part) x c)))) (λ e. rw e refl))
      (ran-all x y ys cs is.1)

-- ---- one turn after the other

once-each : (who : Acknowledger) (n : ℕ) → once who + once_each n who ≡ once_each (suc n) who
once-each (Some a) n = omega arith
once-each None n = omega arith

once-one : (who : Acknowledger) → once who ≡ once_each 1 who
once-one (Some a) = refl
once-one None = refl

module _ (part address : ℕ) (bytes : List ℕ) (cut : Bool) (end : ℕ) (whole : (j : ℕ) → j < end → (cut && leb (length bytes) (j + 1)) ≡ false) (inside : end ≤ length bytes) (cs₀ : List Chip) (t₀ : Turn) where
  abbrev data_at : ℕ → Tally → Turn
  data_at at tally = record { at = at; cut = cut; tally = tally; heard = data_byte part address (get_or bytes at 0) }

  abbrev past : ℕ → Tally → Acknowledger → ℕ → Turn
  past at tally who n = turn_past bytes (data_at at tally) (record { who = who; count = n })

  -- the turn after one byte
  abbrev after : Tally → Acknowledger → Tally
  after tally who = record { acknowledged = tally.acknowledged + once who; last = who }

  next-at : (at : ℕ) (tally : Tally) (who : Acknowledger) → at + 1 < end → turn_after bytes (data_at at tally) who ≡ data_at (at + 1) (after tally who)
  next-at at tally who l = λ j. record {
    at = at + 1;
    cut = cut;
    tally = after tally who;
    heard = record { part = part; address = address; expect = All Kind.Data; byte = get_or bytes (at + 1) 0; cut = whole (at + 1) l j };
  }

  pub several : (n at : ℕ) (tally : Tally) (cs : List Chip) → Following cs₀ bytes t₀ (data_at at tally) cs → at + suc n ≤ end → Steady part address (suc n) cs
      → Following cs₀ bytes t₀ (past at tally (smallest (answers (data_byte part address (get_or bytes at 0))) cs) (suc n)) (map (ran_by (data_byte part address (get_or bytes at 0)) (take (suc n) (drop at bytes))) cs)
  unfolding ran_over
  several zero at tally cs s l fits =
      let small : at < length bytes = omega arith in
      let x = get_or bytes at 0 in
      let who = smallest (answers (data_byte part address x)) cs in
      subst (λ (q : Turn × List Chip). Following cs₀ bytes t₀ q.0 q.1)
      (λ j. (
        record {
          at = at + 1;
          cut = cut;
          tally = record { acknowledged = tally.acknowledged + once-one who j; last = who };
          heard = record { part = part; address = address; expect = All Kind.Data; byte = get_or bytes (at + 1) 0; cut = cut && leb (length bytes) (at + 1 + 1) };
        },
        ap (λ (l : List ℕ). map (ran_by (data_byte part address x) (take 1 l)) cs) (sym (next_of bytes at small)) j,
      ))
      (turn_more cs₀ bytes t₀ (data_at at tally) cs s small)
  several (suc n) at tally cs s l fits =
      let small : at < length bytes = omega arith in
      let x = get_or bytes at 0 in
      let y = get_or bytes (at + 1) 0 in
      let is : AllIn (part_of part) cs = s.ready.right small in
      let who = smallest (answers (data_byte part address x)) cs in
      let alike = who-alike part address x y n cs is fits in
      let e : at + 1 + suc n ≡ at + suc (suc n) = omega arith in
      let sum : tally.acknowledged + once who + once_each (suc n) who ≡ tally.acknowledged + once_each (suc (suc n)) who = omega (arith, once-each who (suc n)) in
      let count = ap (λ (w : Acknowledger). tally.acknowledged + once who + once_each (suc n) w) alike ∙ sum in
      subst (λ (q : Turn × List Chip). Following cs₀ bytes t₀ q.0 q.1)
      (λ j. (
        record {
          at = e j;
          cut = cut;
          tally = record { acknowledged = count j; last = alike j };
          heard = record { part = part; address = address; expect = All Kind.Data; byte = get_or bytes (e j) 0; cut = cut && leb (length bytes) (e j + 1) };
        },
        (ran-all part address x y (take (suc n) (drop (at + 1) bytes)) cs is ∙ ap (λ (l : List ℕ). map (ran_by (data_byte part address x) (take (suc (suc n)) l)) cs) (sym (next_of bytes at small))) j,
      ))
      (several n (at + 1) (after tally who) (map (taken (data_byte part address x)) cs)
      (subst (λ (t : Turn). Following cs₀ bytes t₀ t (map (taken (data_byte part address x)) cs)) (next-at at tally who (omega arith)) (turn_more cs₀ bytes t₀ (data_at at tally) cs s small))
      (omega arith) (steady-all part address x y n cs is fits))

-- ---- how many they are

-- of k bytes a chip, if it hears, answers a alike
record Alike (t : Bool) (room k a : ℕ) : Type 0 where
  some : 0 < k → 0 < a
  most : a ≤ k
  fits : (n : ℕ) → 2 ≤ n → n ≤ a → t ≡ true → n ≤ room

alike-by : (t : Bool) (room k : ℕ) → Alike t room k (cond (ltb k 2) k (cond t (one_or (min room k)) k))
alike-by t room k = by_count (lt_or_le k 2)
  where
    by-room : (min room k < 1) ⊎ (1 ≤ min room k) → 2 ≤ k → Alike true room k (one_or (min room k))
    by-room (inl m) l = rw (lt-ltb (min room k) 1 m) (record { some = λ _. omega arith; most = omega arith; fits = λ n two la e. omega arith })
    by-room (inr m) l = rw (le-ltb (min room k) 1 m) (record { some = λ _. m; most = min-le_right room k; fits = λ n two la e. omega (arith, min-le_left room k) })

    by-hears : (t : Bool) → 2 ≤ k → Alike t room k (cond t (one_or (min room k)) k)
    by-hears true l = by-room (lt_or_le (min room k) 1) l
    by-hears false l = record { some = λ p. p; most = omega arith; fits = λ n two la e. let z : ◌≡◌ {A = ℕ} 0 1 = cc in omega arith }

    by_count : (k < 2) ⊎ (2 ≤ k) → Alike t room k (cond (ltb k 2) k (cond t (one_or (min room k)) k))
    by_count (inl l) = rw (lt-ltb k 2 l) (record { some = λ p. p; most = omega arith; fits = λ n two la e. omega arith })
    by_count (inr l) = rw (le-ltb k 2 l) (by-hears t l)

module _ (h : BusByte) where
  alike-chip : (c : Chip) (k : ℕ) → Alike (hears h.address c) (room_in (part_of h.part) c.registers) k (alike_of h c k)
  alike-chip c k = alike-by (hears h.address c) (room_in (part_of h.part) c.registers) k

  -- at least one, and at most so many
  count-within : (most : ℕ) (cs : List Chip) → 0 < most → (0 < (said_by h most cs).count) × ((said_by h most cs).count ≤ most)
  unfolding said_by
  count-within most [] l = (l, le_refl most)
  count-within most (c ∷ cs) l =
      let a = alike-chip c (said_by h most cs).count in
      let w = count-within most cs l in
      (a.some w.0, le_trans a.most w.1)

  -- several end, in each chip that hears, before the last column of the chip that A names
  steady : (n most : ℕ) (cs : List Chip) → AllIn (part_of h.part) cs → 2 ≤ n → n ≤ (said_by h most cs).count → Steady h.part h.address n cs
  unfolding said_by
  steady n most [] is two l = tt
  steady n most (c ∷ cs) is two l =
      let a = alike-chip c (said_by h most cs).count in
      let K = part_of h.part in
      (λ e. has_room K c.registers n (range-of K c.registers is.0) (a.fits n two l e), steady n most cs is.1 two (le_trans l a.most))

-- several are data to the end
only_data : (e : Expect) (left : ℕ) → 2 ≤ most_after e left → (e ≡ All Kind.Data) × (most_after e left ≤ left)
only_data Control left l = let z : ⊥ = omega arith in absurd z
only_data (One k) left l = let z : ⊥ = omega arith in absurd z
only_data (All Kind.Command) left l = let z : ⊥ = omega arith in absurd z
only_data (All Kind.Data) left l = (refl, go (lt_or_le left 1))
  where
    go : (left < 1) ⊎ (1 ≤ left) → one_or left ≤ left
    go (inl m) = let o : one_or left ≡ 1 = rw (lt-ltb left 1 m) refl in omega (arith, l, o)
    go (inr m) = rw (le-ltb left 1 m) (le_refl left)

some_left : (e : Expect) (left : ℕ) → 0 < most_after e left
some_left Control left = omega arith
some_left (One k) left = omega arith
some_left (All Kind.Command) left = omega arith
some_left (All Kind.Data) left = go (lt_or_le left 1)
  where
    go : (left < 1) ⊎ (1 ≤ left) → 0 < one_or left
    go (inl m) = rw (lt-ltb left 1 m) (omega arith)
    go (inr m) = rw (le-ltb left 1 m) m

-- the whole bytes of n, the last of which is cut or not

reaches : (cut : Bool) (n at m : ℕ) → m ≤ cond cut (n - at - 1) (n - at) → 0 < m → at + m ≤ cond cut (n - 1) n
reaches true n at m l p = omega arith
reaches false n at m l p = omega arith

none-cut : (cut : Bool) (n j : ℕ) → j < cond cut (n - 1) n → (cut && leb n (j + 1)) ≡ false
none-cut true n j l = lt-leb n (j + 1) (omega arith)
none-cut false n j l = refl

whole-within : (cut : Bool) (n : ℕ) → cond cut (n - 1) n ≤ n
whole-within true n = omega arith
whole-within false n = le_refl n

-- ---- a turn

module _ (cs₀ : List Chip) (bytes : List ℕ) (t₀ t : Turn) (cs : List Chip) (s : Following cs₀ bytes t₀ t cs) (l : t.at < length bytes) where
  abbrev pub said : Said
  said = said_by t.heard (most_in bytes t) cs

  pub record Stretch : Type 0 where
    pub inside : t.at + said.count ≤ length bytes
    pub some : 0 < said.count
    pub after : Following cs₀ bytes t₀ (turn_past bytes t said) (map (taken_by bytes t said.count) cs)

  bounds : (0 < said.count) × (said.count ≤ most_in bytes t)
  bounds = count-within t.heard (most_in bytes t) cs (some_left t.heard.expect _)

  -- what is said, if it is said of n bytes
  said_of : (n : ℕ) → said.count ≡ n → record { who = smallest (answers t.heard) cs; count = n } ≡ said
  said_of n e = λ j. record { who = sym (who-is t.heard (most_in bytes t) cs) j; count = sym e j }

  one_byte : said.count ≡ 1 → Stretch
  one_byte e =
      let who = smallest (answers t.heard) cs in
      let one : turn_after bytes t who ≡ turn_past bytes t (record { who = who; count = 1 }) = λ j. record {
        at = t.at + 1;
        cut = t.cut;
        tally = record { acknowledged = t.tally.acknowledged + once-one who j; last = last_heard t.heard who t.tally.last };
        heard = (turn_after bytes t who).heard;
      } in
      record {
        inside = omega (arith, e, l);
        some = bounds.0;
        after =
            subst (λ (q : Turn × List Chip). Following cs₀ bytes t₀ q.0 q.1)
            (λ j. ((one ∙ ap (turn_past bytes t) (said_of 1 e)) j, ap (λ (n : ℕ). map (taken_by bytes t n) cs) (sym e) j)) (turn_more cs₀ bytes t₀ t cs s l);
      }

  several-bytes : (k : ℕ) → said.count ≡ suc (suc k) → Stretch
  several-bytes k e =
      let n = suc (suc k) in
      let h = t.heard in
      let end = cond t.cut (length bytes - 1) (length bytes) in
      let d = only_data h.expect (cond t.cut (length bytes - t.at - 1) (length bytes - t.at)) (omega (arith, e, bounds.1)) in
      let far : t.at + n ≤ end = reaches t.cut (length bytes) t.at n (omega (arith, e, bounds.1, d.1)) (omega arith) in
      let all : (j : ℕ) → j < end → (t.cut && leb (length bytes) (j + 1)) ≡ false = none-cut t.cut (length bytes) in
      let within : end ≤ length bytes = whole-within t.cut (length bytes) in
      let whole : h.cut ≡ false = s.ready.cut ∙ all t.at (omega arith) in
      let now : t ≡ data_at h.part h.address bytes t.cut end all within cs₀ t₀ t.at t.tally = λ j. record {
        at = t.at;
        cut = t.cut;
        tally = t.tally;
        heard = record { part = h.part; address = h.address; expect = d.0 j; byte = s.ready.byte j; cut = whole j };
      } in
      record {
        inside = omega (arith, e, far, within);
        some = bounds.0;
        after =
            subst (λ (q : Turn × List Chip). Following cs₀ bytes t₀ q.0 q.1)
            (λ j. (
              ap (turn_past bytes t) (said_of n e) j,
              (ap (λ (b : Bool). map (λ c. cond b (taken h c) (ran_by h (take n (drop t.at bytes)) c)) cs) (sym (le-ltb n 2 (omega arith))) ∙ ap (λ (m : ℕ). map (taken_by bytes t m) cs) (sym e)) j,
            ))
            (subst (λ (u : Turn). Following cs₀ bytes t₀ (turn_past bytes u (record { who = smallest (answers u.heard) cs; count = n })) (map (ran_by u.heard (take n (drop u.at bytes))) cs)) (sym now)
            (several h.part h.address bytes t.cut end all within cs₀ t₀ (suc k) t.at t.tally cs (subst (λ (u : Turn). Following cs₀ bytes t₀ u cs) now s) far
            (steady h n (most_in bytes t) cs (s.ready.right l) (omega arith) (omega (arith, e)))));
      }

  pub stretch : Stretch
  stretch = go said.count refl
    where
      go : (n : ℕ) → said.count ≡ n → Stretch
      go zero e = let z : ⊥ = omega (arith, bounds.0, e) in absurd z
      go (suc zero) e = one_byte e
      go (suc (suc k)) e = several-bytes k e
