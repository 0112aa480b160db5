-- A turn of a transfer: what is left for the chips to follow gives the whole answer, before the turn and after it.
-- Assumes nothing.
use mathlib.Core.Path.{◌≡◌, refl, sym, ap, ◌∙◌}
use mathlib.Core.Logic.{◌⊎◌, inl, inr}
use mathlib.Core.Bool.{Bool, true, false, cond, not, ◌&&◌, and-false}
use mathlib.Core.List.{List, [], ◌∷◌, map}
use Prim.Native.Nat.{ℕ, ◌+◌, ◌-◌, ◌<◌, ◌≤◌}
use native.Mathlib.Nat.{add-zero}
use native.Mathlib.Omega.{arith}
use lib.Dec.{leb}
use lib.ListN.{length, drop, drop_of_length-le, length-drop, length-map}
use borrow.Author.Tests.{le-leb, lt-leb, leb-true}
use Rattle.lemmas.proofs.Order.{lt_or_le}
use Rattle.lemmas.proofs.Lists.{next as next_of}
use Rattle.lemmas.proofs.Tests.{both_true}
use Rattle.sheet.specs.declared.Chip.{Chip}
use Rattle.std.specs.Prelude.{None, Some}
use Rattle.sheet.specs.Results.{Acknowledger}
use Rattle.sheet.specs.Parts.{part_of}
use Rattle.sheet.specs.Protocol.{next, is_data}
use Rattle.sheet.specs.Plain.{hears, chip_lost, chip_stepped, chip_answers, lower, smallest, once, last_after, Plain, plain_heard}
use Rattle.sheet.specs.Agree.{AllIn}
use Rattle.turns.specs.declared.BusByte.{BusByte}
use Rattle.turns.specs.declared.Turn.{Turn}
use Rattle.turns.specs.Asking.{answers, taken}
use Rattle.turns.specs.Turns.{turn_after, plain_at, tally_of, lost_to, plain_left, followed, Ready}
use Rattle.turns.proofs.Agreeing.{asked, all-taken, all-kept}

-- from the chips cs₀ in the turn t₀, the transfer has come to cs in the turn t
pub record Following (cs₀ : List Chip) (bytes : List ℕ) (t₀ : Turn) (t : Turn) (cs : List Chip) : Type 0 where
  pub ready : Ready cs bytes t
  pub same : length cs ≡ length cs₀
  pub left : followed cs bytes t ≡ followed cs₀ bytes t₀

once-le : (who : Acknowledger) → once who ≤ 1
once-le (Some a) = omega arith
once-le None = omega arith

-- a byte is the last exactly if none is left after it
last_one : (bytes : List ℕ) (i : ℕ) → i < length bytes → leb (length (drop (i + 1) bytes)) 0 ≡ leb (length bytes) (i + 1)
last_one bytes i h = rw (length-drop (i + 1) bytes) (go (lt_or_le (i + 1) (length bytes)))
  where
    go : (i + 1 < length bytes) ⊎ (length bytes ≤ i + 1) → leb (length bytes - (i + 1)) 0 ≡ leb (length bytes) (i + 1)
    go (inl l) = lt-leb (length bytes - (i + 1)) 0 (omega arith) ∙ sym (lt-leb (length bytes) (i + 1) l)
    go (inr l) = le-leb (length bytes - (i + 1)) 0 (omega arith) ∙ sym (le-leb (length bytes) (i + 1) l)

-- ---- a byte that is cut: nobody acknowledges it, and the chips that hear it lose pointer and counter to data

module _ (h : BusByte) (short : h.cut ≡ true) where
  nobody : (c : Chip) → answers h c ≡ false
  nobody c = ap (λ (b : Bool). hears h.address c && (not b && chip_answers (part_of h.part) h.expect h.byte c)) short ∙ and-false (hears h.address c)

  silent : (cs : List Chip) → smallest (answers h) cs ≡ None
  unfolding smallest
  silent [] = refl
  silent (c ∷ cs) = ap (λ (b : Bool). cond b (lower c.subaddress (smallest (answers h) cs)) (smallest (answers h) cs)) (nobody c) ∙ silent cs

  lost : (cs : List Chip) → map (taken h) cs ≡ (lost_to h.address h.expect (record { acknowledged = 0; last = None; chips = cs })).chips
  lost [] = refl
  lost (c ∷ cs) = λ j. cond (hears h.address c) (cond (short j) (chip_lost (is_data h.expect) c) (chip_stepped (part_of h.part) h.expect h.byte c)) c ∷ lost cs j

module _ (cs₀ : List Chip) (bytes : List ℕ) (t₀ t : Turn) (cs : List Chip) (s : Following cs₀ bytes t₀ t cs) where
  -- at the end nothing is left
  pub ended : length bytes ≤ t.at → (t.tally ≡ tally_of (followed cs₀ bytes t₀)) × (cs ≡ (followed cs₀ bytes t₀).chips)
  unfolding plain_left
  ended l =
      let all : plain_at t.tally cs ≡ followed cs₀ bytes t₀ =
      sym (ap (λ (l : List ℕ). plain_left (part_of t.heard.part) t.heard.address t.cut t.heard.expect l (plain_at t.tally cs)) (drop_of_length-le bytes l)) ∙ s.left in
      (ap tally_of all, ap (λ (p : Plain). p.chips) all)

  -- who acknowledges the turn's byte
  abbrev who : Acknowledger
  who = smallest (answers t.heard) cs

  abbrev after : Plain
  after = followed (map (taken t.heard) cs) bytes (turn_after bytes t who)

  -- the turn's byte and those after it
  abbrev split : Bool → Plain
  split cut =
      let h = t.heard in
      let K = part_of h.part in
      cond cut (lost_to h.address h.expect (plain_at t.tally cs))
      (plain_left K h.address t.cut (next h.expect h.byte) (drop (t.at + 1) bytes) (plain_heard K h.address h.expect (h.byte ∷ []) (plain_at t.tally cs)))

  splits : t.at < length bytes → followed cs bytes t ≡ split t.heard.cut
  unfolding plain_left
  splits l =
      let h = t.heard in
      ap (λ (l : List ℕ). plain_left (part_of h.part) h.address t.cut h.expect l (plain_at t.tally cs)) (next_of bytes t.at l ∙ ap (λ (x : ℕ). x ∷ drop (t.at + 1) bytes) (sym s.ready.byte))
      ∙ ap split (ap (λ (b : Bool). t.cut && b) (last_one bytes t.at l) ∙ sym s.ready.cut)

  -- a byte that is whole
  whole-step : t.at < length bytes → t.heard.cut ≡ false → split false ≡ after
  unfolding plain_heard
  whole-step l e =
      let h = t.heard in
      let i : AllIn (part_of h.part) cs = s.ready.right l in
      λ j. let by = asked h e cs i j in
      plain_left (part_of h.part) h.address t.cut (next h.expect h.byte) (drop (t.at + 1) bytes)
      (record { acknowledged = t.tally.acknowledged + once by; last = cond (sym e j) t.tally.last (last_after h.expect by t.tally.last); chips = all-taken h e cs i j })

  -- one that is cut is the last
  cut_step : t.at < length bytes → t.heard.cut ≡ true → split true ≡ after
  unfolding plain_left
  cut_step l e =
      let h = t.heard in
      let none = silent h e cs in
      let last : length bytes ≤ t.at + 1 = leb-true _ _ (both_true t.cut _ (sym s.ready.cut ∙ e)).1 in
      sym (ap (λ (xs : List ℕ). plain_left (part_of h.part) h.address t.cut (next h.expect h.byte) xs (plain_at (turn_after bytes t who).tally (map (taken h) cs))) (drop_of_length-le bytes last)
      ∙ (λ j. record {
        acknowledged = (ap (λ (w : Acknowledger). t.tally.acknowledged + once w) none ∙ add-zero t.tally.acknowledged) j;
        last = ap (λ (b : Bool). cond b t.tally.last (last_after h.expect who t.tally.last)) e j;
        chips = lost h e cs j;
      }))

  stepped : t.at < length bytes → followed cs bytes t ≡ after
  stepped l = splits l ∙ by-cut t.heard.cut refl
    where
      by-cut : (b : Bool) → t.heard.cut ≡ b → split b ≡ after
      by-cut true e = cut_step l e
      by-cut false e = whole-step l e

  pub turn_more : t.at < length bytes → Following cs₀ bytes t₀ (turn_after bytes t who) (map (taken t.heard) cs)
  turn_more l = record {
    ready = record { within = omega arith; counted = omega (arith, s.ready.counted, once-le who); byte = refl; cut = refl; right = λ _. all-kept t.heard cs (s.ready.right l) };
    same = length-map cs (taken t.heard) ∙ s.same;
    left = sym (stepped l) ∙ s.left;
  }
