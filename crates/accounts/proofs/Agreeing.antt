-- From what the two functions ensure and demand 3: alike before, alike after, and the same answer.
-- Assumes nothing.
use mathlib.Core.Path.{◌≡◌, sym, ap, ◌∙◌}
use mathlib.Core.Logic.{⊎_elim}
use mathlib.Core.List.{List, ◌++◌, map, append-nil}
use Prim.Native.Nat.{ℕ, ◌≤◌, ◌<◌}
use native.Mathlib.Omega.{arith}
use lib.ListN.{length, take, drop, drop_of_length-le, length-map}
use lib.Seq.{take_at, take_all, length-take-le}
use borrow.Author.Tests.{le-leb}
use Rattle.lemmas.proofs.Order.{lt_or_le}
use Rattle.sheet.specs.declared.Both.{Both}
use Rattle.sheet.specs.declared.Chip.{Chip}
use Rattle.sheet.specs.declared.Chips.{Chips}
use Rattle.std.specs.Prelude.{Ok}
use Rattle.sheet.specs.Results.{Check, PlainAnswer}
use Rattle.sheet.specs.Parts.{Part, part_of}
use Rattle.sheet.specs.Protocol.{Sent}
use Rattle.sheet.specs.Checks.{check_part}
use Rattle.sheet.specs.Long.{After, State, state_of, answered, transfer_call, state_after, transfer_part}
use Rattle.sheet.specs.Plain.{plain_answered, plain_call, plain_part}
use Rattle.sheet.specs.Agree.{chips_of, Valid, plainly, trimmed}
use Rattle.agreement.proofs.Checks.{length-chips}
use Rattle.laws.proofs.Kept.{part-keeps}
use Rattle.agreement.proofs.Arrays.{past-stays}
use Rattle.agreement.proofs.Demand.{part_agrees}
use Rattle.plain.specs.declared.Bench.{Bench}
use Rattle.plain.specs.declared.BenchTransferred.{BenchTransferred}
use Rattle.plain.specs.Benches.{bench_transferred}
use Rattle.accounts.specs.Alike.{Alike, Agreed}

-- the first k of a list, replaced by as many
first_of : (k : ℕ) (a l : List Chip) → length a ≡ length (take k l) → take k (a ++ drop k l) ≡ a
first_of k a l e =
    ⊎_elim
    (λ (h : length l < k).
    let short : take k l ≡ l = take_all k l (omega arith) in
    ap (λ (r : List Chip). take k (a ++ r)) (drop_of_length-le l {i = k} (omega arith))
    ∙ ap (take k) (append-nil a) ∙ take_all k a (omega (arith, e, ap length short)))
    (λ (h : k ≤ length l). take_at a (drop k l) k (e ∙ length-take-le k l h))
    (lt_or_le (length l) k)

-- what the two calls make of a list whose own columns are the state's
record Together (K : Part) (n : Chips) (s : State) (t : Sent) (cs : List Chip) : Type 0 where
  hold : map (trimmed K) (plain_call K cs t).chips ≡ chips_of K n (state_after K n s t)
  acknowledge : (plain_call K cs t).answer ≡ plainly (transfer_call K n s.registers s.ram t).result.answer
  valid : Valid K n (state_after K n s t)
  size : length (plain_call K cs t).chips ≡ length cs

together : (part : ℕ) (n : Chips) (s : State) (t : Sent) (cs : List Chip) → Valid (part_of part) n s → map (trimmed (part_of part)) cs ≡ chips_of (part_of part) n s → Together (part_of part) n s t cs
together part n s t cs v e =
    let K = part_of part in
    let agreed = (part_agrees part).transfer n s t v in
    let past = past-stays K (part-keeps part) cs t in
    let hold = past.own ∙ ap (λ (ds : List Chip). (plain_call K ds t).chips) e ∙ agreed.hold in
    record {
      hold = hold;
      acknowledge = past.answer ∙ ap (λ (ds : List Chip). (plain_call K ds t).answer) e ∙ agreed.acknowledge;
      valid = agreed.valid;
      size =
          sym (length-map (plain_call K cs t).chips (trimmed K)) ∙ ap length hold ∙ length-chips K n (state_after K n s t)
          ∙ sym (ap length e ∙ length-chips K n s) ∙ length-map cs (trimmed K);
    }

-- a known part's calls are the part's
known-plain : (part : ℕ) (cs : List Chip) (t : Sent) → check_part part ≡ Ok tt → plain_part part cs t ≡ plain_call (part_of part) cs t
unfolding plain_part
known-plain part cs t e = ap (λ (k : Check). plain_answered k cs (plain_call (part_of part) cs t)) e

known-long : (part : ℕ) (n : Chips) (r : Both) (ram : List ℕ) (t : Sent) → check_part part ≡ Ok tt → transfer_part part n r ram t ≡ transfer_call (part_of part) n r ram t
unfolding transfer_part
known-long part n r ram t e = ap (λ (k : Check). answered k r ram (transfer_call (part_of part) n r ram t)) e

-- what both functions ensure, put together
pub sides_agree : (part : ℕ) (n : Chips) (r : Both) (ram : List ℕ) (b : Bench) (t : Sent) (long : After) (plain : BenchTransferred)
    → Alike part n r ram b → long ≡ transfer_part part n r ram t → plain ≡ bench_transferred part b t
    → Agreed part n long.ram (record { long = long.result; plain = plain })
sides_agree part n r ram b t long plain like el ep =
    let cs = take b.count b.chips in
    let made = together part n (state_of r ram) t cs like.valid like.chips in
    rw (el, ep, le-leb b.count 16 like.count, known-long part n r ram t like.known, known-plain part cs t like.known)
    (record {
      alike = record {
        known = like.known;
        valid = made.valid;
        count = like.count;
        chips = ap (map (trimmed (part_of part))) (first_of b.count (plain_call (part_of part) cs t).chips b.chips made.size) ∙ made.hold;
      };
      answer = made.acknowledge;
    })

-- the same of `plain::transfer`, over a lent list: what it ensures and what `long::transfer` ensures
pub lists_agree : (part : ℕ) (n : Chips) (s : State) (t : Sent) (long : After) (before chips : List Chip) (answer : PlainAnswer)
    → check_part part ≡ Ok tt → Valid (part_of part) n s → map (trimmed (part_of part)) before ≡ chips_of (part_of part) n s → long ≡ transfer_part part n s.registers s.ram t
    → answer ≡ (plain_part part before t).answer → chips ≡ (plain_part part before t).chips
    → (map (trimmed (part_of part)) chips ≡ chips_of (part_of part) n (state_of long.result.registers long.ram)) × (answer ≡ plainly long.result.answer)
lists_agree part n s t long before chips answer known v eb el ea ec =
    let made = together part n s t before v eb in
    rw (el, ea, ec, known-long part n s.registers s.ram t known, known-plain part before t known) (made.hold, made.acknowledge)
