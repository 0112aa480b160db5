-- What wanted rows that pass their checks are known to be.
-- Assumes nothing.
use mathlib.Core.Path.{◌≡◌}
use mathlib.Core.Bool.{Bool, true, false, cond, ◌&&◌}
use mathlib.Core.List.{List}
use Prim.Native.Nat.{ℕ, ◌*◌, ◌≤◌, ◌<◌}
use lib.Dec.{eqb, ltb}
use lib.ListN.{length}
use borrow.Author.Tests.{ltb-true, eqb-true}
use Rattle.lemmas.proofs.Tests.{both_true}
use Rattle.sheet.specs.declared.Both.{Both}
use Rattle.sheet.specs.declared.Chips.{Chips}
use Rattle.sheet.specs.declared.Refusal.TheVariants.{RamLength, Register, GroupOrPhase}
use Rattle.std.specs.Prelude.{Ok}
use Rattle.sheet.specs.Parts.{Part, part_of}
use Rattle.sheet.specs.Registers.{in_range, registers_of}
use Rattle.sheet.specs.Protocol.{chips_in}
use Rattle.sheet.specs.Checks.{unless, check_chips, check_registers, over_in}
use Rattle.writer_sheet.specs.Writer.{check_wanted}
use Rattle.laws.proofs.Ranges.{InRange, range-of}
use Rattle.laws.proofs.Named.{ram-small}
use Rattle.laws.proofs.Fits.{both_pass, unless-passes, few-chips}

pub record Asked (K : Part) (n : Chips) (r : Both) (g mode bank : ℕ) (wanted : List ℕ) : Type 0 where
  pub few : chips_in g n ≤ K.limit
  pub own_in : InRange K (registers_of g r)
  pub mode-in : mode < 4
  pub bank-in : bank < 2
  pub group-in : g < 2
  pub columns : length wanted ≡ K.columns * chips_in g n

-- what holds of both groups holds of one
of-group : {A : Type 0} (P : A → Type 0) (g : ℕ) (zero one : A) → P zero → P one → P (cond (eqb g 0) zero one)
of-group {A} P g zero one a b = go (eqb g 0)
  where
    go : (t : Bool) → P (cond t zero one)
    go true = a
    go false = b

pub asked_of : (K : Part) (n : Chips) (r : Both) (g mode bank : ℕ) (wanted : List ℕ) → check_wanted K n r g mode bank wanted ≡ Ok tt → Asked K n r g mode bank wanted
unfolding check_wanted check_registers
asked_of K n r g mode bank wanted e =
    let a = both_pass (check_chips K n) _ e in
    let b = both_pass (check_registers K r) _ a.1 in
    let c = both_pass (unless (ltb mode 4 && ltb bank 2) Register) _ b.1 in
    let d = both_pass (unless (ltb g 2) GroupOrPhase) _ c.1 in
    let f = both_pass (unless (eqb (length wanted) (K.columns * chips_in g n)) RamLength) (over_in 0 wanted) d.1 in
    let few = few-chips K n a.0 in
    let ranges = both_true (in_range K r.zero) (in_range K r.one) (unless-passes _ Register b.0) in
    let both = both_true (ltb mode 4) (ltb bank 2) (unless-passes _ Register c.0) in
    record {
      few = of-group (λ k. k ≤ K.limit) g n.zero n.one few.0 few.1;
      own_in = of-group (InRange K) g r.zero r.one (range-of K r.zero ranges.0) (range-of K r.one ranges.1);
      mode-in = ltb-true mode 4 both.0;
      bank-in = ltb-true bank 2 both.1;
      group-in = ltb-true g 2 (unless-passes _ GroupOrPhase d.0);
      columns = eqb-true (length wanted) (K.columns * chips_in g n) (unless-passes _ RamLength f.0);
    }

-- of a part by its number they are at most 640
pub few_wanted : (part : ℕ) {n : Chips} {r : Both} {g mode bank : ℕ} {wanted : List ℕ} → Asked (part_of part) n r g mode bank wanted → length wanted ≤ 640
few_wanted part {n} {r} {g} asked = rw asked.columns (ram-small part (chips_in g n) asked.few)
