-- `image::read_records` meets its contract: the walk from here on gives the whole walk's image.
-- Assumes nothing.
use mathlib.Core.Path.{◌≡◌, refl, sym, ap, subst, ◌∙◌}
use mathlib.Core.List.{List, [], ◌∷◌}
use Prim.Native.Nat.{ℕ, ◌+◌, ◌<◌}
use native.Mathlib.Omega.{arith}
use lib.ListN.{length, drop, drop_of_length-le}
use Rattle.std.specs.Prelude.{Result, Ok}
use Rattle.std.proofs.lemmas.Result.{err_from_is_err_and}
use Rattle.sheet.specs.declared.Refusal.{Refusal}
use Rattle.sheet.specs.Results.{Check}
use Rattle.image_sheet.specs.Images.{bytes_of, digits_in, size_in, kind_of, fault_in, image, ended, image_from, no-records}
use Rattle.hexrecord.specs.declared.Step.{Step}
use Rattle.hexrecord.specs.declared.Step.TheVariants.{Next, Last}
use Rattle.hexrecord.specs.Lines.{step_of, given_after}
use Rattle.image.proofs.Walking.{Stepped, stepped}
use Rattle.image.proofs.read_records.Goals as goal

-- the record that was read there
read_at : (file given : List ℕ) (at : ℕ) (after : List ℕ) (s k : Result Step Refusal) → at < length file → s ≡ step_of (fault_in given at (drop at file)) (kind_of (bytes_of (digits_in (drop at file)))) (at + size_in (drop at file))
    → after ≡ given_after (fault_in given at (drop at file)) given (bytes_of (digits_in (drop at file))) → s ≡ k → Stepped file given at after k
read_at file given at after s k h e f i = subst (Stepped file given at after) i (stepped file given at h s after e f)

-- a data record: the next place
next : (c : goal.In-Next) → Stepped c.args.file.now c.loop-at.given c.loop-at.at c.read_record.new.given (Ok (Next c.in-Next.next))
next c = read_at c.args.file.now c.loop-at.given c.loop-at.at c.read_record.new.given c.read_record.result _ c.loop-at-test.true c.read_record.ensures.value c.read_record.ensures.given_after (c.in_ok-step.was ∙ ap Ok c.in-Next.is)

-- the image of a file that ended is its check with what was given
both : (given rest : List ℕ) → image (ended given rest).check given ≡ ended given rest
both given [] = refl
both given (x ∷ xs) = refl

pub loop-at-smaller : goal.loop-at-smaller
loop-at-smaller c = let n = next c in omega (arith, n.0, c.loop-at-test.true)

pub loop-at-preserved : goal.loop-at-preserved
loop-at-preserved c = (sym (next c).1 ∙ c.loop-at.invariant.0, c.read_record.auto.given ∙ c.loop-at.invariant.1)

pub returns-in-Last : goal.returns-in-Last
returns-in-Last c = let given = c.read_record.new.given in
    let last = read_at c.args.file.now c.loop-at.given c.loop-at.at given c.read_record.result (Ok (Last c.in-Last.end)) c.loop-at-test.true c.read_record.ensures.value c.read_record.ensures.given_after (c.in_ok-step.was ∙ ap Ok c.in-Last.is) in
    ap (λ (k : Check). image k given) c.finish.ensures ∙ both given (drop c.in-Last.end c.args.file.now) ∙ sym last ∙ c.loop-at.invariant.0

pub returns-in_err-step : goal.returns-in_err-step
returns-in_err-step c = let refused = read_at c.args.file.now c.loop-at.given c.loop-at.at c.read_record.new.given c.read_record.result _ c.loop-at-test.true c.read_record.ensures.value c.read_record.ensures.given_after c.in_err-step.was in
    let e = err_from_is_err_and c.from_residual.result c.from_residual.ensures.1 in rw (e.1, e.2) (sym refused ∙ c.loop-at.invariant.0)

pub returns : goal.returns
returns c = sym (no-records c.loop-at.at c.loop-at.given) ∙ ap (image_from c.loop-at.at c.loop-at.given) (sym (drop_of_length-le c.args.file.now c.loop-at-test.false)) ∙ c.loop-at.invariant.0
