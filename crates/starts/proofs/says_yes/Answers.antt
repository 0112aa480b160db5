-- says_yes: by the case of the question.
-- Assumes nothing.
use mathlib.Core.Path.{◌≡◌, sym, ap, ap₂, ◌∙◌}
use Prim.Native.Nat.{ℕ}
use mathlib.Core.Bool.{Bool, not, ◌&&◌}
use lib.Dec.{eqb}
use Rattle.sheet.specs.declared.Marks.{Marks}
use Rattle.starts.specs.declared.Question.{Question}
use Rattle.starts.specs.Questions.{yes}
use Rattle.starts.proofs.says_yes.Goals as goal

pub returns-in-Misfit : goal.returns-in-Misfit
returns-in-Misfit c = ap not c.fits.ensures ∙ sym (ap (λ (q : Question). yes q c.args.chip) c.in-Misfit.is)

pub returns-in-Hears : goal.returns-in-Hears
returns-in-Hears c = c.hears.ensures ∙ sym (ap (λ (q : Question). yes q c.args.chip) c.in-Hears.is)

-- a chip hears and has a mark unknown, by whether it hears and what it has
by-mark : (mark : Marks → ℕ) {h i : Bool} {u v : Marks} → h ≡ i → u ≡ v → h && eqb (mark u) 1 ≡ i && eqb (mark v) 1
by-mark mark = ap₂ (λ (h : Bool) (u : Marks). h && eqb (mark u) 1)

pub returns-in-HighUnknown : goal.returns-in-HighUnknown
returns-in-HighUnknown c = by-mark (λ u. u.high) c.hears-in-HighUnknown.ensures c.marks-marks.ensures
    ∙ sym (ap (λ (q : Question). yes q c.args.chip) c.in-HighUnknown.is)

pub returns-in-LowUnknown : goal.returns-in-LowUnknown
returns-in-LowUnknown c = by-mark (λ u. u.low) c.hears-in-LowUnknown.ensures c.marks-marks.ensures
    ∙ sym (ap (λ (q : Question). yes q c.args.chip) c.in-LowUnknown.is)

pub returns-in-DeviceUnknown : goal.returns-in-DeviceUnknown
returns-in-DeviceUnknown c = by-mark (λ u. u.device) c.hears-in-DeviceUnknown.ensures c.marks-marks.ensures
    ∙ sym (ap (λ (q : Question). yes q c.args.chip) c.in-DeviceUnknown.is)
