-- Who acknowledged a data byte (paper 02, request 4): the chip that has the byte's last column, and it is there; if none did, that column is past the last chip.
-- Assumes nothing.
use mathlib.Core.Path.{◌≡◌, refl, subst}
use mathlib.Core.Bool.{Bool, true, false, cond, ◌||◌}
use mathlib.Core.List.{List, [], ◌∷◌}
use Prim.Native.Nat.{ℕ, suc, ◌+◌, ◌*◌, ◌/◌, ◌%◌, ◌≤◌, ◌<◌}
use native.Mathlib.Nat.{div-add-mod', mod-lt, div-lt_iff_lt-mul, mul_comm}
use native.Mathlib.Omega.{arith}
use lib.Dec.{ltb}
use lib.ListN.{length}
use borrow.Author.Tests.{ltb-true, ltb-false}
use Rattle.sheet.specs.declared.Chip.{Chip}
use Rattle.std.specs.Prelude.{None, Some}
use Rattle.sheet.specs.Results.{Acknowledger}
use Rattle.sheet.specs.Parts.{Part}
use Rattle.sheet.specs.Registers.{backplanes}
use Rattle.sheet.specs.Places.{position}
use Rattle.sheet.specs.Data.{present, acknowledger}
use Rattle.sheet.specs.declared.Kind.{Kind}
use Rattle.sheet.specs.declared.Expect.{Expect}
use Rattle.sheet.specs.declared.Expect.TheVariants.{Control, One, All}
use Rattle.sheet.specs.Refusals.{last_number}
use Rattle.sheet.specs.Protocol.{next}
use Rattle.sheet.specs.Long.{Group, data_byte, byte_of, byte, heard}
use Rattle.sheet.specs.Agree.{Keeps}
use Rattle.laws.proofs.Kept.{Kept, byte-keeps}
use Rattle.sheet.specs.Plain.{any, lower, smallest, once}

-- somebody is the smallest of which f holds just if it holds of some chip
pub once-any : (f : Chip → Bool) (cs : List Chip) → once (smallest f cs) ≡ cond (any f cs) 1 0
unfolding smallest
once-any f [] = refl
once-any f (c ∷ cs) = go (f c) (smallest f cs) (any f cs) (once-any f cs)
  where
    go : (t : Bool) (who : Acknowledger) (u : Bool) → once who ≡ cond u 1 0 → once (cond t (lower c.subaddress who) who) ≡ cond (t || u) 1 0
    go true (Some a) u e = refl
    go true None u e = refl
    go false who u e = e

-- a byte is acknowledged just if somebody acknowledges it
pub once-present : (K : Part) (m v size : ℕ) → once (acknowledger K m v size) ≡ present size (v + 7 / m)
unfolding acknowledger
once-present K m v size = go (ltb (v + 7 / m) size)
  where
    go : (t : Bool) → once (cond t (Some ((v + 7 / m) / K.columns)) None) ≡ cond t 1 0
    go true = refl
    go false = refl

-- the last column of a data byte that a group of n chips takes
abbrev pub last_column : Part → Group → ℕ
last_column K g = position K g.registers + 7 / backplanes g.registers

-- what is said of who acknowledged: that column is chip c's, and chip c is there; or it is past the last chip
abbrev pub Said : Part → ℕ → ℕ → Acknowledger → Type 0
Said K n column (Some c) = (K.columns * c ≤ column) × (column < K.columns * suc c) × (c < n)
Said K n column None = K.columns * n ≤ column

pub acknowledged-by : (K : Part) (n x : ℕ) (g : Group) → 0 < K.columns → length g.ram ≡ K.columns * n → Said K n (last_column K g) (data_byte K x g).last
unfolding data_byte acknowledger
acknowledged-by K n x g pc e = go (ltb (last_column K g) (length g.ram)) refl
  where
    go : (t : Bool) → ltb (last_column K g) (length g.ram) ≡ t → Said K n (last_column K g) (cond t (Some (last_column K g / K.columns)) None)
    go true h =
        let below : last_column K g < K.columns * n = subst (λ (k : ℕ). last_column K g < k) e (ltb-true _ _ h) in
        let q = last_column K g / K.columns in
        let parts : q * K.columns + last_column K g % K.columns ≡ last_column K g = div-add-mod' (last_column K g) K.columns in
        let rest : last_column K g % K.columns < K.columns = mod-lt (last_column K g) pc in
        let turned : q * K.columns ≡ K.columns * q = mul_comm q K.columns in
        (omega (arith, parts, turned), omega (arith, parts, turned, rest), (div-lt_iff_lt-mul pc).1 (rw (mul_comm n K.columns) below))
    go false h = subst (λ (k : ℕ). k ≤ last_column K g) e (ltb-false _ _ h)

-- ---- a transfer's last

-- none, or one of the n chips
abbrev pub Among : ℕ → Acknowledger → Type 0
Among n (Some c) = c < n
Among n None = Unit {0}

module _ (K : Part) (keeps : Keeps K) (n : ℕ) where
  data_among : (x : ℕ) (g : Group) → Kept K (K.columns * n) g → Among n (data_byte K x g).last
  data_among x g k = go (data_byte K x g).last (acknowledged-by K n x g (omega (arith, k.range.p-in)) k.columns)
    where
      go : (who : Acknowledger) → Said K n (last_column K g) who → Among n who
      go (Some c) s = s.2
      go None s = tt

  kind_among : (t : Kind) (x : ℕ) (g : Group) → Kept K (K.columns * n) g → Among n g.last → Among n (byte_of K t x g).last
  kind_among Kind.Command x g k a = a
  kind_among Kind.Data x g k a = data_among x g k

  byte-among : (e : Expect) (x : ℕ) (g : Group) → Kept K (K.columns * n) g → Among n g.last → Among n (byte K e x g).last
  byte-among Control x g k a = a
  byte-among (One t) x g k a = kind_among t x g k a
  byte-among (All t) x g k a = kind_among t x g k a

  pub heard-among : (xs : List ℕ) (e : Expect) (g : Group) → Kept K (K.columns * n) g → Among n g.last → Among n (heard K e xs g).last
  unfolding heard
  heard-among [] e g k a = a
  heard-among (x ∷ xs) e g k a = heard-among xs (next e x) (byte K e x g) (byte-keeps K (K.columns * n) keeps e x g k) (byte-among e x g k a)

-- so its number is at most the limit
pub last-few : (K : Part) (n : ℕ) (who : Acknowledger) → n ≤ K.limit → Among n who → last_number K who ≤ K.limit
last-few K n (Some c) l a = omega arith
last-few K n None l a = omega arith
