-- transfer_bench: by the outcome of its test.
-- Assumes nothing.
use mathlib.Core.Path.{ap}
use borrow.Author.Tests.{le-leb, lt-leb}
use Rattle.sheet.specs.declared.Refusal.{Refusal}
use Rattle.std.specs.Prelude.{Err}
use Rattle.sheet.specs.Results.{PlainAnswer}
use Rattle.sheet.specs.Refusals.{plain_numbers}
use Rattle.sheet.specs.Parts.{part_of}
use Rattle.plain.specs.declared.BenchTransferred.{BenchTransferred}
use Rattle.plain.proofs.transfer_bench.Goals as goal

pub returns-then-bench-le16 : goal.returns-then-bench-le16
returns-then-bench-le16 c = let a = c.args in
    rw (le-leb a.bench.count 16 c.if-bench-le16.true) (record { value = c.transfer_first.ensures; answer_value = ap (λ (t : BenchTransferred). plain_numbers (part_of a.part) t.answer) c.transfer_first.ensures })

pub returns-else-bench-le16 : goal.returns-else-bench-le16
returns-else-bench-le16 c = let a = c.args in
    let e = c.too_many.ensures in
    rw (lt-leb a.bench.count 16 c.if-bench-le16.false)
    (record { value = λ j. record { answer = Err (e j); bench = a.bench }; answer_value = ap (λ (r : Refusal). plain_numbers (part_of a.part) (Err r)) e })
