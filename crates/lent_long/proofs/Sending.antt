-- A transfer over lent registers: refused, nothing is written; it is one of two groups that hears or is shown; and what its own registers are after it, those of both are.
-- Assumes nothing.
use mathlib.Core.Path.{◌≡◌, sym, ap, ◌∙◌, subst}
use mathlib.Core.Bool.{Bool, true, false, cond, ◌&&◌}
use mathlib.Core.List.{List, ◌++◌}
use Prim.Native.Nat.{ℕ, ◌*◌, ◌<◌}
use native.Mathlib.Omega.{arith}
use lib.Dec.{T, eqb, ltb}
use lib.ListN.{length, get_or, take, drop, take-append-drop}
use borrow.Author.Tests.{ltb-true}
use Rattle.lemmas.proofs.Tests.{both_true}
use Rattle.sheet.specs.declared.Both.{Both}
use Rattle.sheet.specs.declared.Registers.{Registers}
use Rattle.std.specs.Prelude.{Err, None, Ok, Some}
use Rattle.sheet.specs.Results.{Addressed, Check}
use Rattle.sheet.specs.declared.Chips.{Chips}
use Rattle.sheet.specs.declared.Refusal.{Refusal}
use Rattle.sheet.specs.declared.Refusal.TheVariants.{GroupOrPhase}
use Rattle.sheet.specs.Parts.{Part}
use Rattle.sheet.specs.Refusals.{numbers}
use Rattle.sheet.specs.Protocol.{address_of, heard_by, Sent}
use Rattle.sheet.specs.Checks.{unless, fault_of_sent, check_state, check_picture}
use Rattle.sheet.specs.Long.{After, answered, begun, heard_whole, heard_in, columns_of}
use Rattle.laws.proofs.Fits.{both_pass, unless-passes}
use Rattle.wire.specs.Bytes.{registers_in, both_of}
use Rattle.wire.proofs.Given.{Bytes, own-bytes, both-back, replaced-bytes}
use Rattle.lent_group.specs.Sets.{SetAfter, SetCalled, heard_set, answered_set, heard_group, set_to, numbered_set}
use Rattle.lent_long.specs.LongCalls.{LentAfter, lent_after, sent_to, Called, numbered}

pub nothing_written : (l ram : List ℕ) (k : Check) (x : Refusal) (a : After) → length l ≡ 24 → Bytes l → k ≡ Err x
    → ◌≡◌ {A = LentAfter} (record { answer = Err x; registers = l; ram = ram }) (lent_after (answered k (both_of l) ram a))
nothing_written l ram k x a e w told = rw told (λ j. record { answer = Err x; registers = sym (both-back l e w) j; ram = ram })

-- a group that hears is 0 or 1
abbrev small : Addressed → Type 0
small (Some g) = g < 2
small None = T true

pub hearer_small : (n : Chips) (x g : ℕ) → heard_by n x ≡ Some g → g < 2
unfolding heard_by
hearer_small n x g e = subst small e (go (eqb x (address_of 0) && ltb 0 n.zero) (eqb x (address_of 1) && ltb 0 n.one))
  where
    go : (s t : Bool) → small (cond s (Some 0) (cond t (Some 1) None))
    go true t = omega arith
    go false true = omega arith
    go false false = tt

-- and so is a group whose picture is taken
pub shown-small : (K : Part) (n : Chips) (r : Both) (ram : List ℕ) (group phase size : ℕ) → check_picture K n r ram group phase size ≡ Ok tt → group < 2
unfolding check_picture
shown-small K n r ram group phase size e =
    let t = both_pass (unless (ltb group 2 && ltb phase 2) GroupOrPhase) _ (both_pass (check_state K n r ram) _ e).1 in
    ltb-true group 2 (both_true (ltb group 2) (ltb phase 2) (unless-passes _ GroupOrPhase t.0)).0

-- ---- what is said, in numbers

pub said-numbers : (K : Part) (a after : LentAfter) {r : ℕ} {answer : List ℕ} → (r ≡ get_or (numbers K a.answer) 0 0) × (answer ≡ numbers K a.answer) → a ≡ after
    → ◌≡◌ {A = Called} (record { number = r; registers = a.registers; buffer = a.ram; answer = answer }) (numbered K after)
said-numbers K a after p e = ◌∙◌ {A = Called} (λ j. record { number = p.0 j; registers = a.registers; buffer = a.ram; answer = p.1 j }) (ap (numbered K) e)

-- ---- what its own registers are after a transfer to a group, the registers of both are

module _ (K : Part) (n : Chips) (g : ℕ) (small : g < 2) (l ram : List ℕ) (t : Sent) (size : length l ≡ 24) (w : Bytes l) where
  abbrev own : List ℕ
  own = take 12 (drop (12 * g) l)

  abbrev put : SetAfter → LentAfter
  put a = record { answer = a.answer; registers = take (12 * g) l ++ (a.set ++ drop 12 (drop (12 * g) l)); ram = a.ram }

  abbrev after : Registers → LentAfter
  after r = lent_after (answered (fault_of_sent K r.unknown t) (both_of l) ram (heard_in K n g (both_of l) ram (heard_whole K t (begun r (columns_of K n g ram)))))

  own_put : (r : Registers) (k : Check) → put (answered_set k own ram (heard_set (heard_group K n g r ram t))) ≡ lent_after (answered k (both_of l) ram (heard_in K n g (both_of l) ram (heard_whole K t (begun r (columns_of K n g ram)))))
  own_put r (Ok tt) =
      let h = heard_group K n g r ram t in λ i. record { answer = Ok (record { counts = h.counts; last = h.last }); registers = replaced-bytes g small l h.registers size w i; ram = h.ram }
  own_put r (Err x) =
      let back = ap (λ (b : List ℕ). take (12 * g) l ++ b) (take-append-drop 12 (drop (12 * g) l)) ∙ take-append-drop (12 * g) l ∙ sym (both-back l size w) in
      λ i. record { answer = Err x; registers = back i; ram = ram }

  pub own-sent : put (set_to K n g own ram t) ≡ sent_to K n g l ram t
  own-sent = own_put (registers_in own) (fault_of_sent K (registers_in own).unknown t) ∙ ap after (own-bytes g small l size)

  -- and in numbers
  pub own-numbered : (c : SetCalled) → c ≡ numbered_set K (set_to K n g own ram t)
      → ◌≡◌ {A = Called} (record { number = c.number; registers = take (12 * g) l ++ (c.set ++ drop 12 (drop (12 * g) l)); buffer = c.buffer; answer = c.answer }) (numbered K (sent_to K n g l ram t))
  own-numbered c e =
      ◌∙◌ {A = Called} (λ i. record { number = (e i).number; registers = take (12 * g) l ++ ((e i).set ++ drop 12 (drop (12 * g) l)); buffer = (e i).buffer; answer = (e i).answer }) (ap (numbered K) own-sent)
