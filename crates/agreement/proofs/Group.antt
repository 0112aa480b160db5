-- One group hears the bytes after the address: its chips, each by itself, and its part of the long account agree, byte after byte.
-- Assumes nothing.
use mathlib.Core.Path.{◌≡◌, refl, sym, ap, ap₂, ◌∙◌}
use mathlib.Core.Bool.{Bool, true, cond, ◌&&◌}
use mathlib.Core.List.{List, [], ◌∷◌, ◌++◌, map, map-append}
use Prim.Native.Nat.{ℕ, ◌+◌, ◌*◌, ◌≤◌, ◌<◌}
use native.Mathlib.Nat.{mul-le-mul_left}
use lib.Dec.{eqb}
use lib.ListN.{length, drop}
use borrow.Author.Tests.{eq-eqb}
use Rattle.sheet.specs.declared.Chip.{Chip}
use Rattle.sheet.specs.Results.{Acknowledger}
use Rattle.sheet.specs.declared.Expect.{Expect}
use Rattle.sheet.specs.declared.Kind.{Kind}
use Rattle.sheet.specs.declared.Expect.TheVariants.{Control, One, All}
use Rattle.sheet.specs.Parts.{Part}
use Rattle.sheet.specs.Registers.{backplanes, lost_by}
use Rattle.sheet.specs.Commands.{obeyed}
use Rattle.sheet.specs.Protocol.{address_of, next, Sent, whole_of, cut_data}
use Rattle.sheet.specs.Long.{Group, byte_of, byte, data_byte, heard, ended, heard_whole}
use Rattle.sheet.specs.Plain.{hears, chip_byte_of, chip_byte, acknowledges_data, acknowledges_byte, takes, smallest, acknowledged_by, once, last_after, Plain, plain_heard, chip_lost, plain_ended, plain_whole}
use Rattle.sheet.specs.Places.{position}
use Rattle.sheet.specs.Data.{counted, acknowledger}
use Rattle.sheet.specs.Agree.{group_chips, Keeps}
use Rattle.laws.proofs.Kept.{Kept, byte-keeps}
use Rattle.laws.proofs.Acknowledgers.{once-any, once-present}
use Rattle.agreement.proofs.Chips.{chip_at, alike, set-alike}
use Rattle.agreement.proofs.Deaf.{Deaf, deaf_keep, deaf_around}
use Rattle.agreement.proofs.Data.{data_agrees}
use Rattle.agreement.proofs.Acknowledge.{any-all, acknowledges}

-- ---- one byte

-- the chips of group g in state s
abbrev pub chips_of_group : Part → ℕ → ℕ → Group → List Chip
chips_of_group K n g s = group_chips K n g 0 s.registers s.ram

module _ (K : Part) (n g : ℕ) (x : ℕ) (s : Group) (l : n ≤ K.limit) (k : Kept K (K.columns * n) s) where
  kind_agrees : (t : Kind) → map (chip_byte_of K t x) (chips_of_group K n g s) ≡ chips_of_group K n g (byte_of K t x s)
  unfolding data_byte
  kind_agrees Kind.Command = set-alike (chip_byte_of K Kind.Command x) g s.registers (obeyed s.registers (K.command x)) (λ i c. refl) K n 0 s.ram
  kind_agrees Kind.Data = data_agrees K x g n s.registers s.ram k.range.p-in k.range.a_in (rw k.columns (mul-le-mul_left K.columns l))

  byte_agrees : (e : Expect) → map (chip_byte K e x) (chips_of_group K n g s) ≡ chips_of_group K n g (byte K e x s)
  byte_agrees Control = set-alike (chip_byte K Control x) g s.registers s.registers (λ i c. refl) K n 0 s.ram
  byte_agrees (One t) = kind_agrees t
  byte_agrees (All t) = kind_agrees t

  -- a chip hears and acknowledges
  abbrev answers : Expect → Chip → Bool
  answers e c = hears (address_of g) c && acknowledges_byte K e x c

  -- each chip of the group hears
  each-hears : (b : Bool) → (eqb (address_of g) (address_of g) && b) ≡ b
  each-hears b = rw (eq-eqb (address_of g) (address_of g) refl)

  -- who acknowledges a byte, of the group's chips
  abbrev who : Expect → Acknowledger
  who e = smallest (answers e) (chips_of_group K n g s)

  -- a byte's own counts and last: one more is acknowledged if somebody does, and of data it is who did
  pub record Told (e : Expect) : Type 0 where
    pub acknowledged : s.counts.acknowledged + once (who e) ≡ (byte K e x s).counts.acknowledged
    pub last : last_after e (who e) s.last ≡ (byte K e x s).last

  -- control and command bytes: each chip, and there is one
  always : (e : Expect) → 0 < n → ((c : List ℕ) → acknowledges_byte K e x (chip_at g 0 s.registers c) ≡ true)
      → s.counts.acknowledged + once (who e) ≡ s.counts.acknowledged + 1
  always e pn h =
      ap (λ (k : ℕ). s.counts.acknowledged + k)
      (once-any (answers e) (chips_of_group K n g s)
      ∙ ap (λ (t : Bool). cond t 1 0) (any-all (answers e) K g s.registers n 0 s.ram pn (λ c. each-hears (acknowledges_byte K e x (chip_at g 0 s.registers c)) ∙ h c)))

  -- data bytes
  by-last-column : (e : Expect) → ((c : Chip) → acknowledges_byte K e x c ≡ acknowledges_data K x c) → who e ≡ (data_byte K x s).last
  unfolding data_byte
  by-last-column e h =
      acknowledges (answers e) K x n g s.registers s.ram k.range.p-in k.range.a_in l
      (λ i c. each-hears (acknowledges_byte K e x (chip_at g i s.registers c)) ∙ h (chip_at g i s.registers c))
      ∙ ap (λ (size : ℕ). acknowledger K (backplanes s.registers) (position K s.registers) size) (sym k.columns)

  counted-by : (e : Expect) → who e ≡ (data_byte K x s).last → s.counts.acknowledged + once (who e) ≡ (data_byte K x s).counts.acknowledged
  unfolding data_byte counted
  counted-by e h = ap (λ (k : ℕ). s.counts.acknowledged + k) (ap once h ∙ once-present K (backplanes s.registers) (position K s.registers) (length s.ram))

  pub told : (e : Expect) → 0 < n → Told e
  unfolding data_byte
  told Control pn = record { acknowledged = always Control pn (λ c. refl); last = refl }
  told (One Kind.Command) pn = record { acknowledged = always (One Kind.Command) pn (λ c. refl); last = refl }
  told (All Kind.Command) pn = record { acknowledged = always (All Kind.Command) pn (λ c. refl); last = refl }
  told (One Kind.Data) pn = let h = by-last-column (One Kind.Data) (λ c. refl) in record { acknowledged = counted-by (One Kind.Data) h; last = h }
  told (All Kind.Data) pn = let h = by-last-column (All Kind.Data) (λ c. refl) in record { acknowledged = counted-by (All Kind.Data) h; last = h }

-- ---- all bytes, the group's chips standing among chips that do not hear

-- the plain account of a group in state s
abbrev pub plain_of : Part → ℕ → ℕ → List Chip → List Chip → Group → Plain
plain_of K n g before after s = record { acknowledged = s.counts.acknowledged; last = s.last; chips = before ++ (chips_of_group K n g s ++ after) }

module _ (K : Part) (n g : ℕ) (keeps : Keeps K) (pn : 0 < n) (l : n ≤ K.limit) (before after : List Chip)
    (deaf-before : Deaf (address_of g) before) (deaf-after : Deaf (address_of g) after) where
  -- what makes of the group's chips those of another state, of the chips that hear
  around : (f : Chip → Chip) (s u : Group) → map f (chips_of_group K n g s) ≡ chips_of_group K n g u
      → map (λ c. cond (hears (address_of g) c) (f c) c) (before ++ (chips_of_group K n g s ++ after)) ≡ before ++ (chips_of_group K n g u ++ after)
  around f s u e =
      let h : Chip → Chip = λ c. cond (hears (address_of g) c) (f c) c in
      map-append h before (chips_of_group K n g s ++ after)
      ∙ ap₂ (λ (a b : List Chip). a ++ b) (deaf_keep (address_of g) f before deaf-before)
      (map-append h (chips_of_group K n g s) after
      ∙ ap₂ (λ (a b : List Chip). a ++ b)
      (alike h f g s.registers s.registers (λ i c. rw (eq-eqb (address_of g) (address_of g) refl)) K n 0 s.ram ∙ e)
      (deaf_keep (address_of g) f after deaf-after))

  hold : (e : Expect) (x : ℕ) (s : Group) → Kept K (K.columns * n) s
      → map (takes K (address_of g) e x) (before ++ (chips_of_group K n g s ++ after)) ≡ before ++ (chips_of_group K n g (byte K e x s) ++ after)
  hold e x s k = around (chip_byte K e x) s (byte K e x s) (byte_agrees K n g x s l k e)

  -- who acknowledges is one of the group's chips
  among : (e : Expect) (x : ℕ) (s : Group) → Kept K (K.columns * n) s
      → acknowledged_by K (address_of g) e x (before ++ (chips_of_group K n g s ++ after)) ≡ smallest (λ c. hears (address_of g) c && acknowledges_byte K e x c) (chips_of_group K n g s)
  among e x s k = deaf_around (address_of g) (acknowledges_byte K e x) before (chips_of_group K n g s) after deaf-before deaf-after

  heard_agrees : (xs : List ℕ) (e : Expect) (s : Group) → Kept K (K.columns * n) s
      → plain_heard K (address_of g) e xs (plain_of K n g before after s) ≡ plain_of K n g before after (heard K e xs s)
  unfolding plain_heard heard
  heard_agrees [] e s k = refl
  heard_agrees (x ∷ xs) e s k =
      (λ i. let who = among e x s k i in plain_heard K (address_of g) (next e x) xs (record { acknowledged = s.counts.acknowledged + once who; last = last_after e who s.last; chips = hold e x s k i }))
      ∙ (λ i. let t = told K n g x s l k e pn in plain_heard K (address_of g) (next e x) xs (record { acknowledged = t.acknowledged i; last = t.last i; chips = before ++ (chips_of_group K n g (byte K e x s) ++ after) }))
      ∙ heard_agrees xs (next e x) (byte K e x s) (byte-keeps K (K.columns * n) keeps e x s k)

  -- the law: the whole bytes, and the one that is cut
  pub whole_agrees : (t : Sent) (s : Group) → Kept K (K.columns * n) s
      → plain_whole K (address_of g) t (plain_of K n g before after s) ≡ plain_of K n g before after (heard_whole K t s)
  whole_agrees t s k =
      let w = heard K Control (drop 1 (whole_of t)) s in
      ap (plain_ended (address_of g) t) (heard_agrees (drop 1 (whole_of t)) Control s k)
      ∙ (λ i. record {
        acknowledged = w.counts.acknowledged;
        last = w.last;
        chips = around (chip_lost (cut_data t)) w (ended t w) (set-alike (chip_lost (cut_data t)) g w.registers (lost_by (cut_data t) w.registers) (λ j c. refl) K n 0 w.ram) i;
      })
