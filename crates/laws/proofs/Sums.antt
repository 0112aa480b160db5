-- Stored and discarded bits make 8 for each data byte of a transfer (paper 01, "Where a data byte goes"), and no byte is acknowledged twice.
-- Assumes nothing.
use mathlib.Core.Path.{◌≡◌, ◌∙◌, subst}
use mathlib.Core.List.{List, [], ◌∷◌}
use Prim.Native.Nat.{ℕ, suc, ◌+◌, ◌*◌, ◌-◌, ◌/◌, ◌≤◌}
use native.Mathlib.Omega.{arith}
use lib.ListN.{length}
use Rattle.sheet.specs.declared.Counts.{Counts}
use Rattle.sheet.specs.declared.Expect.{Expect}
use Rattle.sheet.specs.declared.Kind.{Kind}
use Rattle.sheet.specs.declared.Expect.TheVariants.{Control, One, All}
use Rattle.sheet.specs.Parts.{Part}
use Rattle.sheet.specs.Registers.{backplanes}
use Rattle.sheet.specs.Protocol.{next}
use Rattle.sheet.specs.Long.{Group, byte_of, byte, data_byte, heard}
use Rattle.sheet.specs.Places.{position}
use Rattle.sheet.specs.Data.{counted}
use Rattle.laws.proofs.Ranges.{planes_pos}
use Rattle.laws.proofs.Counts.{stored_closed, present-le}

-- how many of the bytes that are left are data
abbrev pub data_of : Kind → ℕ
data_of Kind.Command = 0
data_of Kind.Data = 1

abbrev pub is_data : Expect → ℕ
is_data Control = 0
is_data (One k) = data_of k
is_data (All k) = data_of k

abbrev pub data_in : Expect → List ℕ → ℕ
data_in e [] = 0
data_in e (x ∷ xs) = is_data e + data_in (next e x) xs

data_sum : (K : Part) (x : ℕ) (g : Group) → let t = (data_byte K x g).counts in t.stored + t.discarded ≡ g.counts.stored + g.counts.discarded + 8
unfolding data_byte counted
data_sum K x g =
    let r = g.registers in
    omega (arith, stored_closed 8 (backplanes r) (position K r) (length g.ram) (planes_pos r))

kind_sum : (K : Part) (k : Kind) (x : ℕ) (g : Group) → let t = (byte_of K k x g).counts in t.stored + t.discarded ≡ g.counts.stored + g.counts.discarded + 8 * data_of k
kind_sum K Kind.Command x g = omega arith
kind_sum K Kind.Data x g = data_sum K x g

byte-sum : (K : Part) (e : Expect) (x : ℕ) (g : Group) → let t = (byte K e x g).counts in t.stored + t.discarded ≡ g.counts.stored + g.counts.discarded + 8 * is_data e
byte-sum K Control x g = omega arith
byte-sum K (One k) x g = kind_sum K k x g
byte-sum K (All k) x g = kind_sum K k x g

pub transfer-sum : (K : Part) (e : Expect) (bytes : List ℕ) (g : Group) → let t = (heard K e bytes g).counts in t.stored + t.discarded ≡ g.counts.stored + g.counts.discarded + 8 * data_in e bytes
unfolding heard
transfer-sum K e [] g = omega arith
transfer-sum K e (x ∷ xs) g = transfer-sum K (next e x) xs (byte K e x g) ∙ omega (arith, byte-sum K e x g)

-- ---- what i bytes can have counted

pub record Few (i : ℕ) (t : Counts) : Type 0 where
  pub acknowledged : t.acknowledged ≤ i
  pub bits : t.stored + t.discarded ≤ 8 * i

kind_few : (K : Part) (k : Kind) (x : ℕ) (g : Group) (i : ℕ) → Few i g.counts → Few (suc i) (byte_of K k x g).counts
unfolding data_byte counted
kind_few K Kind.Command x g i f = record { acknowledged = omega (arith, f.acknowledged); bits = omega (arith, f.bits) }
kind_few K Kind.Data x g i f =
    let r = g.registers in
    record {
      acknowledged = omega (arith, f.acknowledged, present-le (length g.ram) (position K r + 7 / backplanes r));
      bits = omega (arith, f.bits, stored_closed 8 (backplanes r) (position K r) (length g.ram) (planes_pos r));
    }

byte-few : (K : Part) (e : Expect) (x : ℕ) (g : Group) (i : ℕ) → Few i g.counts → Few (suc i) (byte K e x g).counts
byte-few K Control x g i f = record { acknowledged = omega (arith, f.acknowledged); bits = omega (arith, f.bits) }
byte-few K (One k) x g i f = kind_few K k x g i f
byte-few K (All k) x g i f = kind_few K k x g i f

pub heard-few : (K : Part) (e : Expect) (xs : List ℕ) (g : Group) (i : ℕ) → Few i g.counts → Few (i + length xs) (heard K e xs g).counts
unfolding heard
heard-few K e [] g i f = subst (λ (n : ℕ). Few n g.counts) {x = i} (omega arith) f
heard-few K e (x ∷ xs) g i f =
    subst (λ (n : ℕ). Few n (heard K e (x ∷ xs) g).counts) {x = suc i + length xs} (omega arith) (heard-few K (next e x) xs (byte K e x g) (suc i) (byte-few K e x g i f))
