-- What a state that passes the checks 3, 6, 4 and 5 is known to be, and back.
-- Assumes nothing.
use mathlib.Core.Path.{◌≡◌, refl, sym, subst}
use mathlib.Core.Bool.{Bool, true, false, cond, ◌&&◌}
use mathlib.Core.List.{List, [], ◌∷◌}
use Prim.Native.Nat.{ℕ, suc, ◌+◌, ◌*◌, ◌≤◌, ◌<◌, zero-le, suc-le-suc}
use native.Mathlib.Omega.{arith}
use lib.Dec.{T, eqb, leb, ltb}
use lib.ListN.{length}
use borrow.Author.Tests.{leb-true, ltb-true, eqb-true, le-leb, eq-eqb}
use Rattle.lemmas.proofs.Tests.{both_true}
use Rattle.sheet.specs.declared.Both.{Both}
use Rattle.sheet.specs.declared.Chip.{Chip}
use Rattle.sheet.specs.declared.Chips.{Chips}
use Rattle.sheet.specs.declared.Refusal.{Refusal}
use Rattle.sheet.specs.declared.Refusal.TheVariants.{EmptyTransfer, LongTransfer, ChipCount, RamLength, Register, GroupOrPhase, OutputLength, ChipField}
use Rattle.std.specs.Prelude.{Err, Ok}
use Rattle.sheet.specs.Results.{Check}
use Rattle.sheet.specs.Parts.{Part}
use Rattle.sheet.specs.Registers.{in_range, power_on}
use Rattle.sheet.specs.Protocol.{chips_in, Sent}
use Rattle.sheet.specs.Checks.{unless, or_else, over_in, check_chips, check_registers, check_ram, check_length, check_sent, check_state, check_power_on, check_transfer, check_picture, passed}
use Rattle.sheet.specs.Plain.{chip_fits, check_chip_picture, misfit_in}
use Rattle.sheet.specs.Agree.{AllIn}
use Rattle.sheet.specs.Long.{both_on}
use Rattle.laws.proofs.Ranges.{InRange, range-of, in-range}
use Rattle.laws.proofs.Nibbles.{Nibbles, nibbles-of, check-nibbles}

-- ---- one check

-- of two checks that pass, each passes
pub both_pass : (a b : Check) → or_else a b ≡ Ok tt → (a ≡ Ok tt) × (b ≡ Ok tt)
both_pass (Ok _) b e = (refl, e)
both_pass (Err r) b e = absurd (subst (λ (c : Check). T (passed c)) (sym e) tt)

-- a test that passes is true
pub unless-passes : (t : Bool) (r : Refusal) → unless t r ≡ Ok tt → t ≡ true
unless-passes true r e = refl
unless-passes false r e = absurd (subst (λ (c : Check). T (passed c)) (sym e) tt)

-- L chips at most in each group
pub few-chips : (K : Part) (n : Chips) → check_chips K n ≡ Ok tt → (n.zero ≤ K.limit) × (n.one ≤ K.limit)
unfolding check_chips
few-chips K n e =
    let few = both_true (leb n.zero K.limit) (leb n.one K.limit) (unless-passes _ ChipCount e) in
    (leb-true n.zero K.limit few.0, leb-true n.one K.limit few.1)

-- ---- a state

pub record Fits (K : Part) (n : Chips) (r : Both) (ram : List ℕ) : Type 0 where
  pub zero-few : n.zero ≤ K.limit
  pub one-few : n.one ≤ K.limit
  pub zero_in : InRange K r.zero
  pub one_in : InRange K r.one
  pub columns : length ram ≡ K.columns * (n.zero + n.one)
  pub nibbles : Nibbles ram

pub fits-of : (K : Part) (n : Chips) (r : Both) (ram : List ℕ) → check_state K n r ram ≡ Ok tt → Fits K n r ram
unfolding check_state check_registers check_ram
fits-of K n r ram e =
    let s = both_pass (check_chips K n) _ e in
    let t = both_pass (check_registers K r) (check_ram K n ram) s.1 in
    let u = both_pass (unless (eqb (length ram) (K.columns * (n.zero + n.one))) RamLength) (over_in 0 ram) t.1 in
    let few = few-chips K n s.0 in
    let ranges = both_true (in_range K r.zero) (in_range K r.one) (unless-passes _ Register t.0) in
    record {
      zero-few = few.0;
      one-few = few.1;
      zero_in = range-of K r.zero ranges.0;
      one_in = range-of K r.one ranges.1;
      columns = eqb-true (length ram) (K.columns * (n.zero + n.one)) (unless-passes _ RamLength u.0);
      nibbles = nibbles-of 0 ram u.1;
    }

-- and back
pub check-fits : (K : Part) (n : Chips) (r : Both) (ram : List ℕ) → Fits K n r ram → check_state K n r ram ≡ Ok tt
unfolding check_state check_chips check_registers check_ram
check-fits K n r ram f =
    rw (le-leb n.zero K.limit f.zero-few, le-leb n.one K.limit f.one-few, in-range K r.zero f.zero_in, in-range K r.one f.one_in, eq-eqb (length ram) (K.columns * (n.zero + n.one)) f.columns)
    (check-nibbles 0 ram f.nibbles)

-- the registers of power-on are in range, so a power-on that is taken leaves a state that passes
pub power_on_in : (K : Part) → 0 < K.columns → InRange K power_on
power_on_in K pc =
    let two : 0 < 2 = omega arith in
    let four : 0 < 4 = omega arith in
    record { e-in = two; b-in = two; m-in = four; p-in = pc; a_in = zero-le; i-in = two; o-in = two; ab-in = two; bf-in = four; marks-in = record { high-in = two; low-in = two; device-in = two } }

pub powered_passes : (K : Part) (n : Chips) (ram : List ℕ) → 0 < K.columns → check_power_on K n ram ≡ Ok tt
    → check_state K n both_on ram ≡ Ok tt
unfolding check_state check_power_on check_registers
powered_passes K n ram pc e = rw (in-range K power_on (power_on_in K pc)) e

-- ---- what a call that passed its checks may rely on

-- 1, 2 and 19 of a transfer
pub sent-passed : (t : Sent) → check_sent t ≡ Ok tt → (0 < length t.bytes) × (length t.bytes < 4097)
unfolding check_sent check_length
sent-passed t e =
    let s = both_pass (check_length (length t.bytes)) _ e in
    let u = both_pass (unless (ltb 0 (length t.bytes)) EmptyTransfer) _ s.0 in
    (ltb-true 0 (length t.bytes) (unless-passes _ EmptyTransfer u.0), suc-le-suc (leb-true (length t.bytes) 4096 (unless-passes _ LongTransfer u.1)))

pub transfer-passed : (K : Part) (n : Chips) (r : Both) (ram : List ℕ) (t : Sent) → check_transfer K n r ram t ≡ Ok tt
    → (check_state K n r ram ≡ Ok tt) × ((0 < length t.bytes) × (length t.bytes < 4097))
unfolding check_transfer
transfer-passed K n r ram t e =
    let s = both_pass (check_state K n r ram) _ e in
    (s.0, sent-passed t (both_pass (check_sent t) _ s.1).0)

pub picture-passed : (K : Part) (n : Chips) (r : Both) (ram : List ℕ) (group phase size : ℕ) → check_picture K n r ram group phase size ≡ Ok tt
    → (check_state K n r ram ≡ Ok tt) × (size ≡ K.columns * chips_in group n)
unfolding check_picture
picture-passed K n r ram group phase size e =
    let s = both_pass (check_state K n r ram) _ e in
    let t = both_pass (unless (ltb group 2 && ltb phase 2) GroupOrPhase) _ s.1 in
    (s.0, eqb-true size (K.columns * chips_in group n) (unless-passes _ OutputLength t.1))

-- ---- a chip of the plain account

-- a chip that fits has registers in range
pub registers-in : (K : Part) (c : Chip) → chip_fits K c ≡ true → in_range K c.registers ≡ true
unfolding chip_fits
registers-in K c t =
    let s = both_true (ltb c.sa0 2) _ t in
    let u = both_true (ltb c.subaddress K.limit) _ s.1 in
    (both_true (in_range K c.registers) _ u.1).0

-- where no chip is a misfit, all are in range
pub all_in : (K : Part) (i : ℕ) (cs : List Chip) → misfit_in K i cs ≡ Ok tt → AllIn K cs
unfolding misfit_in
all_in K i [] e = tt
all_in K i (c ∷ cs) e = by-test (chip_fits K c) refl (all_in K (suc i) cs) e
  where
    by-test : (t : Bool) → chip_fits K c ≡ t → (misfit_in K (suc i) cs ≡ Ok tt → AllIn K cs) → cond t (misfit_in K (suc i) cs) (Err (ChipField i)) ≡ Ok tt → AllIn K (c ∷ cs)
    by-test true f rest e = (registers-in K c f, rest e)
    by-test false f rest e = absurd (subst (λ (k : Check). T (passed k)) (sym e) tt)

-- and so has one whose picture is taken, into a buffer of its columns
pub chip-picture-passed : (K : Part) (c : Chip) (phase size : ℕ) → check_chip_picture K c phase size ≡ Ok tt → (in_range K c.registers ≡ true) × (size ≡ K.columns)
unfolding check_chip_picture
chip-picture-passed K c phase size e =
    let s = both_pass (unless (chip_fits K c) (ChipField 0)) _ e in
    let t = both_pass (unless (ltb phase 2) GroupOrPhase) (unless (eqb size K.columns) OutputLength) s.1 in
    (registers-in K c (unless-passes _ (ChipField 0) s.0), eqb-true size K.columns (unless-passes _ OutputLength t.1))
