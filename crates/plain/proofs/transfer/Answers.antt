-- transfer: how it is begun, followed and answered is the sheet's.
-- Assumes nothing.
use mathlib.Core.Path.{◌≡◌, ap, ◌∙◌, subst, sym}
use mathlib.Core.List.{List}
use Prim.Native.Nat.{ℕ}
use Rattle.sheet.specs.declared.Chip.{Chip}
use Rattle.sheet.specs.Results.{PlainAnswer}
use Rattle.sheet.specs.Refusals.{plain_numbers}
use Rattle.sheet.specs.Parts.{part_of}
use Rattle.sheet.specs.Protocol.{Sent, sent, address_byte}
use Rattle.sheet.specs.Plain.{PlainAfter, plain_part}
use Rattle.turns.specs.declared.Tally.{Tally}
use Rattle.turns.specs.Turns.{tally_of, followed, Ready}
use Rattle.starts.specs.declared.Start.{Start}
use Rattle.starts.specs.declared.Found.{Found}
use Rattle.starts.specs.Questions.{found_in}
use Rattle.starts.specs.Starts.{start_of, answer_of}
use Rattle.starts.proofs.Starting.{begun, ready, concluded}
use Rattle.plain.proofs.transfer.Goals as goal

-- the address is that of byte 0
begins : (part : ℕ) (cs : List Chip) (t : Sent) (called : ℕ) (found : Found) (s : Start) → called ≡ address_byte t → found ≡ found_in part called cs → s ≡ start_of part t found → s ≡ begun part cs t
begins part cs t called found s ec ef e = e ∙ ap (start_of part t) (ef ∙ ap (λ (a : ℕ). found_in part a cs) ec)

-- so the answer and the chips are the sheet's
ends : (part : ℕ) (cs zs : List Chip) (t : Sent) (s : Start) (tally : Tally) (r : PlainAnswer) → s ≡ begun part cs t → tally ≡ tally_of (followed cs t.bytes s.turn) → zs ≡ (followed cs t.bytes s.turn).chips → r ≡ answer_of s.check tally
    → (r ≡ (plain_part part cs t).answer) × (zs ≡ (plain_part part cs t).chips)
ends part cs zs t s tally r es et ez er =
    let all = (λ j. record { answer = answer_of (es j).check (tally_of (followed cs t.bytes (es j).turn)); chips = (followed cs t.bytes (es j).turn).chips }) ∙ concluded part cs t in
    (er ∙ ap (answer_of s.check) et ∙ ap (λ (p : PlainAfter). p.answer) all, ez ∙ ap (λ (p : PlainAfter). p.chips) all)

pub follow-tally-requires : goal.follow-tally-requires
follow-tally-requires c = let a = c.args in
    let t = sent a.bytes.now a.bits in
    let e = begins a.part a.chips.now t _ _ _ c.address-called.ensures c.found-found.ensures c.begin-start.ensures in
    subst (λ (s : Start). Ready a.chips.now a.bytes.now s.turn) (sym e) (ready a.part a.chips.now t)

pub returns : goal.returns
returns c = let a = c.args in
    let t = sent a.bytes.now a.bits in
    let e = begins a.part a.chips.now t _ _ _ c.address-called.ensures c.found-found.ensures c.begin-start.ensures in
    let h = ends a.part a.chips.now _ t _ _ _ e c.follow-tally.ensures.value c.follow-tally.ensures.chips_after c.answer.ensures in
    record { value = (h.0, ap (plain_numbers (part_of a.part)) h.0); chips_after = h.1 }
