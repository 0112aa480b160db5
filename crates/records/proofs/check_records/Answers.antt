-- `records::check_records` meets its contract: the walk from here on gives the whole walk's tear, and what was seen of each record is counted.
-- Assumes nothing.
use mathlib.Core.Path.{◌≡◌, refl, ap, subst, ◌∙◌}
use mathlib.Core.List.{List}
use Prim.Native.Nat.{ℕ}
use native.Mathlib.Omega.{arith}
use lib.ListN.{drop}
use Rattle.log_sheet.specs.Logs.{seen_bytes}
use Rattle.records.specs.declared.Record.{Record}
use Rattle.records.specs.declared.Record.TheVariants.{Body, End, Cut, Short}
use Rattle.records.specs.Found.{record_in, Counted}
use Rattle.records.proofs.Found.{Next, Found, found}
use Rattle.records.proofs.check_records.Goals as goal

-- what was read there
read_at : (log : List ℕ) (seen at : ℕ) (r s : Record) → seen ≡ seen_bytes log → r ≡ record_in seen at (drop at log) → r ≡ s → Found (seen_bytes log) log at s
read_at log seen at r s k e i =
    subst (Found (seen_bytes log) log at) i (found (seen_bytes log) log at r (e ∙ ap (λ (n : ℕ). record_in n at (drop at log)) k))

-- a whole record, and that what was seen is counted
next : (c : goal.In-Body) → Next (seen_bytes c.args.log.now) c.args.log.now c.loop-start.at c.in-Body.start c.in-Body.size c.in-Body.count
next c = read_at c.args.log.now c.seen_bytes-seen.result c.loop-start.at c.read.result (Body c.in-Body.start c.in-Body.size c.in-Body.count) c.seen_bytes-seen.ensures c.read.ensures.value c.in-Body.is

pub overflow_add-at : goal.overflow_add-at
overflow_add-at c = omega (arith, (next c).inside)

pub loop-start-smaller : goal.loop-start-smaller
loop-start-smaller c = let n = next c in omega arith

pub loop-start-preserved : goal.loop-start-preserved
loop-start-preserved c = let n = next c in
    let inv = c.loop-start.invariant in
    let small = subst Counted c.in-Body.is c.read.ensures.counted in
    record { tear = rw n.walk at inv.tear; counted = λ rest. inv.counted (rw n.walk (omega (arith, n.says, small), rest)) }

pub returns-in-End : goal.returns-in-End
returns-in-End c = let end = read_at c.args.log.now c.seen_bytes-seen.result c.loop-start.at c.read.result End c.seen_bytes-seen.ensures c.read.ensures.value c.in-End.is in
    record { value = rw end at c.loop-start.invariant.tear; all_counted = c.loop-start.invariant.counted (rw end tt) }

pub returns-in-Cut : goal.returns-in-Cut
returns-in-Cut c = let cut = read_at c.args.log.now c.seen_bytes-seen.result c.loop-start.at c.read.result Cut c.seen_bytes-seen.ensures c.read.ensures.value c.in-Cut.is in
    record { value = rw cut at c.loop-start.invariant.tear; all_counted = c.loop-start.invariant.counted (rw cut tt) }

pub returns-in-Short : goal.returns-in-Short
returns-in-Short c = let short = read_at c.args.log.now c.seen_bytes-seen.result c.loop-start.at c.read.result Short c.seen_bytes-seen.ensures c.read.ensures.value c.in-Short.is in
    record { value = rw short at c.loop-start.invariant.tear; all_counted = c.loop-start.invariant.counted (rw short tt) }

pub loop-start-init : goal.loop-start-init
loop-start-init c = record { tear = refl; counted = λ a. a }
