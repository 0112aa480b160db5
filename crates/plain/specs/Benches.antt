-- A transfer to a bench: of its sixteen chips the first `count` take part. A count over sixteen is refused, and the bench is as given.
use Rattle.std.specs.Prelude.{ℕ, cond, List, ◌++◌, leb, take, drop, Err, Ok}
use Rattle.sheet.specs.declared.Chip.{Chip}
use Rattle.sheet.specs.declared.Refusal.{Refusal}
use Rattle.sheet.specs.declared.Refusal.TheVariants.{ManyChips}
use Rattle.sheet.specs.Results.{Check, PlainAnswer}
use Rattle.sheet.specs.Protocol.{Sent}
use Rattle.sheet.specs.Checks.{check_part}
use Rattle.sheet.specs.Plain.{plain_part}
use Rattle.plain.specs.declared.Bench.{Bench}
use Rattle.plain.specs.declared.BenchTransferred.{BenchTransferred}

-- the bench with other first chips
abbrev pub with_first : Bench → List Chip → Bench
with_first b cs = record { chips = cs ++ drop b.count b.chips; count = b.count }

abbrev pub first_transferred : ℕ → Bench → Sent → BenchTransferred
first_transferred part b t =
    let a = plain_part part (take b.count b.chips) t in
    record { answer = a.answer; bench = with_first b a.chips }

-- a check's refusal, or else another
abbrev pub or_refusal : Check → Refusal → Refusal
or_refusal (Ok _) r = r
or_refusal (Err x) r = x

-- 16, or else 10
abbrev pub too_many : ℕ → Refusal
too_many part = or_refusal (check_part part) ManyChips

abbrev pub bench_transferred : ℕ → Bench → Sent → BenchTransferred
bench_transferred part b t = cond (leb b.count 16) (first_transferred part b t) (record { answer = Err (too_many part); bench = b })
