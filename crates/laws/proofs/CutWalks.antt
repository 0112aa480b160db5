-- The walk for faults with a byte that is cut behind the whole bytes and without it; bytes that are no data; and the whole bytes of a cut transfer.
-- Assumes nothing.
use mathlib.Core.Path.{◌≡◌, refl, sym, ap, ◌∙◌}
use mathlib.Core.Logic.{◌⊎◌, inl, inr, ⊎_elim}
use mathlib.Core.Bool.{Bool, true, false, cond, true≢false}
use mathlib.Core.List.{List, [], ◌∷◌, map, map-map}
use Prim.Native.Nat.{ℕ, suc, ◌-◌, ◌≤◌, ◌<◌}
use native.Mathlib.Omega.{arith}
use lib.Dec.{eqb}
use lib.ListN.{length, get_or, drop, length-append}
use lib.Seq.{take_at}
use borrow.Author.Tests.{lt-ltb, le-leb}
use Rattle.lemmas.proofs.Tests.{both_true}
use Rattle.sheet.specs.declared.Marks.{Marks}
use Rattle.sheet.specs.declared.Chips.{Chips}
use Rattle.sheet.specs.declared.Chip.{Chip}
use Rattle.sheet.specs.declared.Command.{Command}
use Rattle.sheet.specs.declared.Command.TheVariants.{PointerHigh, PointerLow, Pointer, ModeSet, DeviceSelect, FrequencyCtrl, BlinkSelect, BankSelect, Undefined}
use Rattle.std.specs.Prelude.{Err, None, Ok}
use Rattle.sheet.specs.Results.{Check}
use Rattle.sheet.specs.declared.Kind.{Kind}
use Rattle.sheet.specs.declared.Expect.{Expect}
use Rattle.sheet.specs.declared.Expect.TheVariants.{Control, One, All}
use Rattle.sheet.specs.declared.Refusal.{Refusal}
use Rattle.sheet.specs.declared.Refusal.TheVariants.{UnknownPlace}
use Rattle.sheet.specs.Parts.{Part, within}
use Rattle.sheet.specs.Registers.{known}
use Rattle.sheet.specs.Commands.{restored}
use Rattle.sheet.specs.Protocol.{heard_by, next, next_after, is_data, Sent, whole, cut, whole_of, address_byte, cut_data}
use Rattle.sheet.specs.Checks.{unless, or_else, passed, check_length, check_bits, check_sent, fault, marks_of, marks_after, fault_in}
use Rattle.sheet.specs.Long.{Group, byte, heard}
use Rattle.sheet.specs.Plain.{chip_byte, hears, takes, Plain, plain_heard}
use Rattle.sheet.specs.Cuts.{cut_after}

-- ---- checks

-- a check that is refused is refused after any other
pub refused-after : (a b : Check) → passed b ≡ false → passed (or_else a b) ≡ false
refused-after (Ok _) b h = h
refused-after (Err r) b h = refl

-- and did not pass
pub not-passed : {P : Type 0} (k : Check) → passed k ≡ false → k ≡ Ok tt → P
not-passed k h e = absurd (true≢false (sym (ap passed e) ∙ h))

-- ---- the walk over the whole bytes, with a byte that is cut behind them and without

-- none of the bytes is data
abbrev pub Quiet : Expect → List ℕ → Type 0
Quiet e [] = Unit {0}
Quiet e (x ∷ xs) = (is_data e ≡ false) × Quiet (next e x) xs

-- known marks stay known
known-command : (c : Command) (u : Marks) → known u ≡ true → known (restored c u) ≡ true
known-command (PointerHigh n) u h = (both_true (eqb u.high 0) _ h).1
known-command (PointerLow n) u h = let k = both_true (eqb u.high 0) _ h in rw k.0 (both_true (eqb u.low 0) _ k.1).1
known-command (Pointer p) u h = (both_true (eqb u.low 0) _ (both_true (eqb u.high 0) _ h).1).1
known-command (ModeSet s) u h = h
known-command (DeviceSelect n) u h = let k = both_true (eqb u.high 0) _ h in rw (k.0, (both_true (eqb u.low 0) _ k.1).0)
known-command FrequencyCtrl u h = h
known-command (BlinkSelect ab bf) u h = h
known-command (BankSelect i o) u h = h
known-command Undefined u h = h

known_kind : (K : Part) (u : Marks) (k : Kind) (x : ℕ) → known u ≡ true → known (marks_of K u k x) ≡ true
known_kind K u Kind.Command x h = known-command (K.command x) u h
known_kind K u Kind.Data x h = h

known-after : (K : Part) (u : Marks) (e : Expect) (x : ℕ) → known u ≡ true → known (marks_after K u e x) ≡ true
known-after K u Control x h = h
known-after K u (One k) x h = known_kind K u k x h
known-after K u (All k) x h = known_kind K u k x h

-- while marks are known, a byte that is cut is no fault
known_alike : (K : Part) (u : Marks) (e : Expect) (i : ℕ) (xs : List ℕ) → known u ≡ true → fault_in K true u e i xs ≡ fault_in K false u e i xs
unfolding fault_in
known_alike K u e i [] h = rw h (go (is_data e))
  where
    go : (b : Bool) → ◌≡◌ {A = Check} (cond b (Ok tt) (Ok tt)) (Ok tt)
    go true = refl
    go false = refl
known_alike K u e i (x ∷ xs) h = ap (or_else (fault K u e i x)) (known_alike K (marks_after K u e x) (next e x) (suc i) xs (known-after K u e x h))

-- the walks answer alike, or the byte that is cut is refused and no whole byte is data
abbrev Outcome : Check → Check → Type 0 → Type 0
Outcome with-cut without quiet = (with-cut ≡ without) ⊎ ((passed with-cut ≡ false) × quiet)

-- after a byte that is no data
after-other : (f : Check) {a b : Check} {Q P : Type 0} → P → Outcome a b Q → Outcome (or_else f a) (or_else f b) (P × Q)
after-other (Ok _) {a} {b} {Q} p o = ⊎_elim (λ (e : a ≡ b). inl e) (λ (l : (passed a ≡ false) × Q). inr (l.0, (p, l.1))) o
after-other (Err r) p o = inl refl

-- after data, which is refused itself or finds the marks known
after_data : (t : Bool) (r : Refusal) {a b : Check} → (t ≡ true → a ≡ b) → or_else (unless t r) a ≡ or_else (unless t r) b
after_data true r h = h refl
after_data false r h = refl

-- what a walk says of the bytes behind byte x
abbrev behind : Part → Bool → Marks → Expect → ℕ → ℕ → List ℕ → Check
behind K cut u e i x xs = fault_in K cut (marks_after K u e x) (next e x) (suc i) xs

after-byte : (K : Part) (u : Marks) (e : Expect) (i x : ℕ) (xs : List ℕ) → Outcome (behind K true u e i x xs) (behind K false u e i x xs) (Quiet (next e x) xs)
    → Outcome (or_else (fault K u e i x) (behind K true u e i x xs)) (or_else (fault K u e i x) (behind K false u e i x xs)) (Quiet e (x ∷ xs))
after-byte K u Control i x xs o = after-other (fault K u Control i x) refl o
after-byte K u (One Kind.Command) i x xs o = after-other (fault K u (One Kind.Command) i x) refl o
after-byte K u (One Kind.Data) i x xs o = inl (after_data (known u) (UnknownPlace i) (known_alike K u Control (suc i) xs))
after-byte K u (All Kind.Command) i x xs o = after-other (fault K u (All Kind.Command) i x) refl o
after-byte K u (All Kind.Data) i x xs o = inl (after_data (known u) (UnknownPlace i) (known_alike K u (All Kind.Data) (suc i) xs))

pub outcome : (K : Part) (u : Marks) (e : Expect) (i : ℕ) (xs : List ℕ) → Outcome (fault_in K true u e i xs) (fault_in K false u e i xs) (Quiet e xs)
unfolding fault_in
outcome K u e i [] = go (is_data e) (known u)
  where
    go : (b k : Bool) → Outcome (cond b (unless k (UnknownPlace i)) (Ok tt)) (Ok tt) (Unit {0})
    go true true = inl refl
    go true false = inr (refl, tt)
    go false k = inl refl
outcome K u e i (x ∷ xs) = after-byte K u e i x xs (outcome K (marks_after K u e x) (next e x) (suc i) xs)

-- where the byte behind them is no data, they answer alike
pub other-alike : (K : Part) (u : Marks) (e : Expect) (i : ℕ) (xs : List ℕ) → is_data (next_after e xs) ≡ false → fault_in K true u e i xs ≡ fault_in K false u e i xs
unfolding fault_in
other-alike K u e i [] h = rw h
other-alike K u e i (x ∷ xs) h = ap (or_else (fault K u e i x)) (other-alike K (marks_after K u e x) (next e x) (suc i) xs h)

-- ---- bytes that are no data store nothing

-- of a group
quiet-byte : (K : Part) (e : Expect) (x : ℕ) (g : Group) → is_data e ≡ false → (byte K e x g).ram ≡ g.ram
quiet-byte K Control x g h = refl
quiet-byte K (One Kind.Command) x g h = refl
quiet-byte K (One Kind.Data) x g h = absurd (true≢false h)
quiet-byte K (All Kind.Command) x g h = refl
quiet-byte K (All Kind.Data) x g h = absurd (true≢false h)

pub quiet-ram : (K : Part) (e : Expect) (xs : List ℕ) (g : Group) → Quiet e xs → (heard K e xs g).ram ≡ g.ram
unfolding heard
quiet-ram K e [] g q = refl
quiet-ram K e (x ∷ xs) g q = quiet-ram K (next e x) xs (byte K e x g) q.1 ∙ quiet-byte K e x g q.0

-- of a chip
quiet-chip : (K : Part) (e : Expect) (x : ℕ) (c : Chip) → is_data e ≡ false → (chip_byte K e x c).columns ≡ c.columns
quiet-chip K Control x c h = refl
quiet-chip K (One Kind.Command) x c h = refl
quiet-chip K (One Kind.Data) x c h = absurd (true≢false h)
quiet-chip K (All Kind.Command) x c h = refl
quiet-chip K (All Kind.Data) x c h = absurd (true≢false h)

-- chips changed, but not in what f says of them
pub map-kept : {B : Type 0} (f : Chip → B) (g : Chip → Chip) → ((c : Chip) → f (g c) ≡ f c) → (cs : List Chip) → map f (map g cs) ≡ map f cs
map-kept f g h cs = map-map f g cs ∙ (λ i. map (λ c. h c i) cs)

-- a chip that hears or does not is changed or stays
pub heard-or-not : {B : Type 0} (f : Chip → B) (t : Bool) (c d : Chip) → f d ≡ f c → f (cond t d c) ≡ f c
heard-or-not f true c d h = h
heard-or-not f false c d h = refl

-- of each chip of a list
pub quiet-columns : (K : Part) (address : ℕ) (e : Expect) (xs : List ℕ) (s : Plain) → Quiet e xs → map (λ c. c.columns) (plain_heard K address e xs s).chips ≡ map (λ c. c.columns) s.chips
unfolding plain_heard
quiet-columns K address e [] s q = refl
quiet-columns K address e (x ∷ xs) s q =
    quiet-columns K address (next e x) xs _ q.1
    ∙ map-kept (λ c. c.columns) (takes K address e x) (λ c. heard-or-not (λ k. k.columns) (hears address c) c (chip_byte K e x c) (quiet-chip K e x c q.0)) s.chips

-- ---- a transfer: its whole bytes, and 1, 2 and 19

-- all but the last are whole
pub whole_is : (bytes : List ℕ) (x bits : ℕ) → bits < 8 → whole_of (cut_after bytes x bits) ≡ bytes
unfolding whole_of
whole_is bytes x bits h = rw (lt-ltb bits 8 h) (take_at bytes (x ∷ []) _ (sym (ap (λ (k : ℕ). k - 1) (length-append bytes (x ∷ [])) ∙ omega arith)))

-- 1 to 4096 bytes, and 1 to 8 bits of the last
sent-passes : (t : Sent) → 0 < length t.bytes → length t.bytes ≤ 4096 → 0 < t.bits → t.bits ≤ 8 → check_sent t ≡ Ok tt
unfolding check_sent check_length check_bits within
sent-passes t some few from to = rw (lt-ltb 0 (length t.bytes) some, le-leb (length t.bytes) 4096 few, le-leb 1 t.bits from, le-leb t.bits 8 to)

pub cut-passes : (bytes : List ℕ) (x bits : ℕ) → length bytes < 4096 → 0 < bits → bits < 8 → check_sent (cut_after bytes x bits) ≡ Ok tt
cut-passes bytes x bits l from to =
    let e = length-append bytes (x ∷ []) in
    sent-passes (cut_after bytes x bits) (omega (arith, e)) (omega (arith, e)) from (omega arith)

pub whole-passes : (bytes : List ℕ) → 0 < length bytes → length bytes < 4096 → check_sent (whole bytes) ≡ Ok tt
whole-passes bytes some l = sent-passes (whole bytes) some (omega arith) (omega arith) (omega arith)

-- the byte that is cut is data or not by what the whole bytes leave to come
pub cut-other : (bytes : List ℕ) (x bits : ℕ) → bits < 8 → cut_data (cut_after bytes x bits) ≡ false → is_data (next_after Control (drop 1 bytes)) ≡ false
unfolding cut_data
cut-other bytes x bits to h = sym (rw (lt-ltb bits 8 to, whole_is bytes x bits to)) ∙ h

-- no byte before it came, so nobody hears
pub no_address : (x bits : ℕ) → bits < 8 → address_byte (cut_after [] x bits) ≡ 0
no_address x bits to = ap (λ (w : List ℕ). get_or w 0 0) (whole_is [] x bits to)

-- nor where there is no byte at all
pub none-whole : address_byte (whole []) ≡ 0
unfolding whole_of
none-whole = refl

-- 0 is nobody's address
pub nobody : (n : Chips) → heard_by n 0 ≡ None
unfolding heard_by
nobody n = refl
