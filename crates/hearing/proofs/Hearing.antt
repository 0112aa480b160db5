-- What holds while `hear` goes over the bytes: what is left gives the whole answer, the group keeps its ranges, and the counts are few.
-- Assumes nothing.
use mathlib.Core.Path.{◌≡◌, refl, sym, ap, ap₂, ◌∙◌, subst}
use mathlib.Core.Bool.{◌&&◌}
use mathlib.Core.List.{List, [], ◌∷◌, ◌++◌}
use Prim.Native.Nat.{ℕ, ◌+◌, ◌-◌, ◌*◌, ◌≤◌, ◌<◌}
use native.Mathlib.Nat.{le_of_lt}
use native.Mathlib.Omega.{arith}
use lib.ListN.{length, get_or, take, drop, drop_of_length-le, length-drop, length-take, take-append-drop}
use lib.Dec.{ltb}
use lib.Seq.{drop-drop}
use Rattle.lemmas.proofs.Lists.{part-one}
use Rattle.lemmas.proofs.Lists as lists
use Rattle.sheet.specs.declared.Registers.{Registers}
use Rattle.sheet.specs.declared.Kind.{Kind}
use Rattle.sheet.specs.declared.Expect.{Expect}
use Rattle.sheet.specs.declared.Expect.TheVariants.{Control, One, All}
use Rattle.sheet.specs.Parts.{Part}
use Rattle.sheet.specs.Registers.{lost_by}
use Rattle.sheet.specs.Protocol.{control_of, next, next_after, sent, whole_of, whole_count, is_data}
use Rattle.sheet.specs.Long.{Group, byte, heard}
use Rattle.sheet.specs.Runs.{written_by}
use Rattle.sheet.specs.Agree.{Keeps}
use Rattle.laws.proofs.Runs.{run-at-once}
use Rattle.laws.proofs.Ranges.{InRange}
use Rattle.laws.proofs.Nibbles.{Nibbles}
use Rattle.laws.proofs.Kept.{Kept, heard-keeps}
use Rattle.laws.proofs.Sums.{Few, heard-few}
use Rattle.laws.proofs.Wholes.{whole-taken}
use Rattle.laws.proofs.Joined.{next-joined, heard-joined}
use Rattle.listener.specs.declared.Listener.{Listener}
use Rattle.opening.specs.Opened.{opened_at}
use Rattle.listener.specs.Listeners.{group_of, listener_of, data_end, stepped, ran, ended_by}

pub record Hearing (K : Part) (ram₀ bytes : List ℕ) (r : Registers) (from : ℕ) (ram : List ℕ) (l : Listener) (i : ℕ) : Type 0 where
  pub rest : heard K l.expect (drop i bytes) (group_of l ram) ≡ heard K Control (drop from bytes) (opened_at from r ram₀)
  pub kept : Kept K (length ram₀) (group_of l ram)
  pub few : Few i l.counts
  pub then : next_after l.expect (drop i bytes) ≡ next_after Control (drop from bytes)
  pub most : i ≤ length bytes + 1

-- past the last byte nothing is heard
pub at-end : (K : Part) (e : Expect) (bytes : List ℕ) (n : ℕ) → length bytes ≤ n → (g : Group) → heard K e (drop n bytes) g ≡ g
unfolding heard
at-end K e bytes n m g = rw (drop_of_length-le bytes m)

pub at-end-next : (e : Expect) (bytes : List ℕ) (n : ℕ) → length bytes ≤ n → next_after e (drop n bytes) ≡ e
at-end-next e bytes n m = rw (drop_of_length-le bytes m)

-- the part of a list from i to end, and the rest
parts : (bytes : List ℕ) (i end : ℕ) → i ≤ end → drop i bytes ≡ take (end - i) (drop i bytes) ++ drop end bytes
parts bytes i end h =
    let e : i + (end - i) ≡ end = omega arith in
    sym (take-append-drop (end - i) (drop i bytes)) ∙ ap (λ (l : List ℕ). take (end - i) (drop i bytes) ++ l) (drop-drop (end - i) i bytes ∙ rw e)

part_length : (bytes : List ℕ) (i end : ℕ) → end ≤ length bytes → length (take (end - i) (drop i bytes)) ≡ end - i
part_length bytes i end h = length-take (end - i) (drop i bytes) ∙ omega (arith, length-drop i bytes)

-- where data ends
pub ends_in : (e : Expect) (i n : ℕ) → i < n → (i ≤ data_end e i n) × (data_end e i n ≤ n)
ends_in Control i n h = (omega arith, omega arith)
ends_in (One Kind.Command) i n h = (omega arith, omega arith)
ends_in (One Kind.Data) i n h = (omega arith, omega arith)
ends_in (All Kind.Command) i n h = (omega arith, omega arith)
ends_in (All Kind.Data) i n h = (omega arith, omega arith)

-- ---- data is a run

all-next : (k : Kind) (xs : List ℕ) → next_after (All k) xs ≡ All k
all-next k [] = refl
all-next k (x ∷ xs) = all-next k xs

record IsRun (K : Part) (e : Expect) (xs : List ℕ) : Type 0 where
  then : next_after e xs ≡ next e 0
  alike : (g : Group) → heard K e xs g ≡ heard K (All Kind.Data) xs g

run_of : (K : Part) (bytes : List ℕ) (i : ℕ) → i < length bytes → (e : Expect) → i < data_end e i (length bytes) → IsRun K e (take (data_end e i (length bytes) - i) (drop i bytes))
unfolding heard
run_of K bytes i h Control some = absurd (omega arith)
run_of K bytes i h (One Kind.Command) some = absurd (omega arith)
run_of K bytes i h (One Kind.Data) some = rw (part-one bytes i h) (record { then = refl; alike = λ g. refl })
run_of K bytes i h (All Kind.Command) some = absurd (omega arith)
run_of K bytes i h (All Kind.Data) some = record { then = all-next Kind.Data (take (length bytes - i) (drop i bytes)); alike = λ g. refl }

-- ---- a turn

module _ (K : Part) (keeps : Keeps K) (ram₀ bytes : List ℕ) (r : Registers) (from : ℕ) (ram : List ℕ) (l : Listener) (i : ℕ) (h : i < length bytes) (inv : Hearing K ram₀ bytes r from ram l i) where
  -- bytes i to end heard at once
  turn : (end : ℕ) → i ≤ end → end ≤ length bytes → (after : List ℕ) (l' : Listener)
      → let xs = take (end - i) (drop i bytes) in l'.expect ≡ next_after l.expect xs → group_of l' after ≡ heard K l.expect xs (group_of l ram) → Hearing K ram₀ bytes r from after l' end
  turn end le most after l' then g =
      let xs = take (end - i) (drop i bytes) in
      record {
        rest =
            ap₂ (λ (e : Expect) (k : Group). heard K e (drop end bytes) k) then g
            ∙ sym (heard-joined K l.expect xs (drop end bytes) (group_of l ram))
            ∙ ap (λ (ys : List ℕ). heard K l.expect ys (group_of l ram)) (sym (parts bytes i end le))
            ∙ inv.rest;
        kept = subst (Kept K (length ram₀)) (sym g) (heard-keeps K (length ram₀) keeps xs l.expect (group_of l ram) inv.kept);
        few =
            subst (λ (n : ℕ). Few n l'.counts) {x = i + length xs} (omega (arith, part_length bytes i end most))
            (subst (λ (k : Group). Few (i + length xs) k.counts) (sym g) (heard-few K l.expect xs (group_of l ram) i inv.few));
        then =
            ap (λ (e : Expect). next_after e (drop end bytes)) then
            ∙ sym (next-joined l.expect xs (drop end bytes))
            ∙ ap (next_after l.expect) (sym (parts bytes i end le))
            ∙ inv.then;
        most = omega arith;
      }

  -- a byte that is no data
  step-at : (e : Expect) → l.expect ≡ e → data_end e i (length bytes) ≤ i → group_of (stepped K l (get_or bytes i 0)) ram ≡ byte K e (get_or bytes i 0) (group_of l ram)
  step-at Control told none = rw told
  step-at (One Kind.Command) told none = rw told
  step-at (One Kind.Data) told none = absurd (omega arith)
  step-at (All Kind.Command) told none = rw told
  step-at (All Kind.Data) told none = absurd (omega arith)

  pub step-turn : data_end l.expect i (length bytes) ≤ i → (l' : Listener) → l' ≡ stepped K l (get_or bytes i 0) → Hearing K ram₀ bytes r from ram l' (i + 1)
  unfolding heard
  step-turn none l' el =
      let one = part-one bytes i h in
      turn (i + 1) (omega arith) (omega arith) ram l'
      (ap (λ (k : Listener). k.expect) el ∙ sym (ap (next_after l.expect) one))
      (ap (λ (k : Listener). group_of k ram) el ∙ step-at l.expect refl none ∙ sym (ap (λ (xs : List ℕ). heard K l.expect xs (group_of l ram)) one))

  -- data, one byte or all that are left
  pub data_turn : length ram₀ ≤ K.columns * K.limit → (end : ℕ) → end ≡ data_end l.expect i (length bytes) → i < end → (after : List ℕ) (l' : Listener)
      → after ≡ written_by K l.registers (take (end - i) (drop i bytes)) ram → l' ≡ ran K l (end - i) (length ram₀) → Hearing K ram₀ bytes r from after l' end
  data_turn small end ends some after l' er el =
      let xs = take (end - i) (drop i bytes) in
      let most : end ≤ length bytes = rw ends (ends_in l.expect i (length bytes) h).1 in
      let run : IsRun K l.expect xs = subst (λ (k : ℕ). IsRun K l.expect (take (k - i) (drop i bytes))) (sym ends) (run_of K bytes i h l.expect (rw (sym ends) some)) in
      turn end (le_of_lt some) most after l'
      (ap (λ (k : Listener). k.expect) el ∙ sym run.then)
      ((λ j. record { registers = (el j).registers; ram = er j; counts = (el j).counts; last = (el j).last })
      ∙ ap₂ (λ (n size : ℕ). group_of (ran K l n size) (written_by K l.registers xs ram)) (sym (part_length bytes i end most)) (sym inv.kept.columns)
      ∙ sym (run-at-once K xs (group_of l ram) inv.kept.range.p-in inv.kept.range.a_in (rw inv.kept.columns small))
      ∙ sym (run.alike (group_of l ram)))

-- ---- before the first turn

module _ (K : Part) (ram₀ bytes : List ℕ) (r : Registers) (from : ℕ) (range : InRange K r) (nibbles : Nibbles ram₀) where
  kept : (n : ℕ) → Kept K (length ram₀) (opened_at n r ram₀)
  kept n = record { range = range; columns = refl; nibbles = nibbles }

  pub at_first : from ≤ length bytes → Hearing K ram₀ bytes r from ram₀ (listener_of Control (opened_at from r [])) from
  at_first h = record { rest = refl; kept = kept from; few = record { acknowledged = omega arith; bits = omega arith }; then = refl; most = omega arith }

  -- after a control byte 40 all that is left is data
  pub at-run : from < length bytes → get_or bytes from 0 ≡ 64 → Hearing K ram₀ bytes r from ram₀ (listener_of (All Kind.Data) (opened_at (from + 1) r [])) (from + 1)
  unfolding heard control_of
  at-run h e = record {
    rest = rw (all_data h e);
    kept = kept (from + 1);
    few = record { acknowledged = omega arith; bits = omega arith };
    then = rw (all_data h e);
    most = omega arith;
  }
    where
      all_data : from < length bytes → get_or bytes from 0 ≡ 64 → drop from bytes ≡ 64 ∷ drop (from + 1) bytes
      all_data h e = lists.next bytes from h ∙ ap (λ (x : ℕ). x ∷ drop (from + 1) bytes) e

-- ---- all of what is left: the whole bytes are the first k, and the listener ends with the one that is cut

pub whole_is : (bytes : List ℕ) (bits k : ℕ) → k ≡ whole_count (length bytes) bits → take k bytes ≡ whole_of (sent bytes bits)
whole_is bytes bits k e = ap (λ (n : ℕ). take n bytes) e ∙ whole-taken bytes bits

module _ (K : Part) (bytes : List ℕ) (bits k : ℕ) (ek : k ≡ whole_count (length bytes) bits) (from : ℕ) (g : Group) (l : Listener) (ram : List ℕ) where
  pub whole-heard : group_of l ram ≡ heard K Control (drop from (take k bytes)) g → l.expect ≡ next_after Control (drop from (take k bytes))
      → (l' : Listener) → l' ≡ ended_by (ltb bits 8) l
      → let rest = drop from (whole_of (sent bytes bits)) in let h = heard K Control rest g in
      group_of l' ram ≡ record { registers = lost_by (ltb bits 8 && is_data (next_after Control rest)) h.registers; ram = h.ram; counts = h.counts; last = h.last }
  whole-heard eg ee l' el =
      let group : group_of l ram ≡ heard K Control (drop from (whole_of (sent bytes bits))) g = eg ∙ ap (λ (xs : List ℕ). heard K Control (drop from xs) g) (whole_is bytes bits k ek) in
      let expect : l.expect ≡ next_after Control (drop from (whole_of (sent bytes bits))) = ee ∙ ap (λ (xs : List ℕ). next_after Control (drop from xs)) (whole_is bytes bits k ek) in
      ap (λ (m : Listener). group_of m ram) el
      ∙ (λ j. record {
        registers = lost_by (ltb bits 8 && is_data (expect j)) (group j).registers;
        ram = (group j).ram;
        counts = (group j).counts;
        last = (group j).last;
      })
