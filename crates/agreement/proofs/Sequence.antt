-- Any sequence of transfers: the chips and the long account agree after each.
-- Assumes nothing.
use mathlib.Core.Path.{◌≡◌, refl, ap, ap₂, ◌∙◌}
use mathlib.Core.List.{List, [], ◌∷◌}
use Rattle.sheet.specs.declared.Chips.{Chips}
use Rattle.sheet.specs.declared.Chip.{Chip}
use Rattle.sheet.specs.Results.{PlainAnswer}
use Rattle.sheet.specs.Parts.{Part}
use Rattle.sheet.specs.Protocol.{Sent}
use Rattle.sheet.specs.Long.{State, state_after, state_after_all}
use Rattle.sheet.specs.Plain.{plain_call}
use Rattle.sheet.specs.Agree.{chips_of, answer_to, long_answers, plain_all, plain_answers, Keeps, Valid, AgreesAll}
use Rattle.agreement.proofs.Transfer.{transfer}
use Rattle.agreement.proofs.Show.{show}

pub sequence : (K : Part) → Keeps K → (n : Chips) (s : State) (ts : List Sent) → Valid K n s → AgreesAll K n s (chips_of K n s) ts
unfolding state_after_all long_answers plain_all plain_answers
sequence K keeps n s [] v = record { hold = refl; acknowledge = refl; show = λ g phase out pg pp e. show K n s g phase out v pg pp e; valid = v }
sequence K keeps n s (t ∷ ts) v =
    let one = transfer K keeps n s t v in
    let rest = sequence K keeps n (state_after K n s t) ts one.valid in
    let followed : plain_all K (plain_call K (chips_of K n s) t).chips ts ≡ plain_all K (chips_of K n (state_after K n s t)) ts = ap (λ (cs : List Chip). plain_all K cs ts) one.hold in
    record {
      hold = followed ∙ rest.hold;
      acknowledge =
          ap₂ (λ (a : PlainAnswer) (cs : List Chip). a ∷ plain_answers K cs ts) one.acknowledge one.hold
          ∙ ap (λ (answers : List PlainAnswer). answer_to K n s t ∷ answers) rest.acknowledge;
      show = λ g phase out pg pp e. rw followed (rest.show g phase out pg pp e);
      valid = rest.valid;
    }
