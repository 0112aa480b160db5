-- `torn::whole_of` meets its contract: what is left to walk gives the whole walk's records and bytes.
-- Assumes nothing.
use mathlib.Core.Path.{◌≡◌, ap, subst, ◌∙◌}
use mathlib.Core.List.{List}
use Prim.Native.Nat.{ℕ}
use native.Mathlib.Omega.{arith}
use lib.ListN.{length, drop, length-drop}
use lib.Seq.{length-take-le}
use Rattle.log_sheet.specs.Logs.{seen_bytes, log_records}
use Rattle.log_sheet.specs.Rescue.{kept_of}
use Rattle.records.specs.declared.Record.{Record}
use Rattle.records.specs.Found.{record_in}
use Rattle.records.proofs.Found.{Next, Found, found, none_left}
use Rattle.torn.proofs.whole_of.Goals as goal

-- what was read at the cursor
read_at : (log : List ℕ) (seen at : ℕ) (r : Record) → seen ≡ seen_bytes log → r ≡ record_in seen at (drop at log) → Found (seen_bytes log) log at r
read_at log seen at r k e = found (seen_bytes log) log at r (e ∙ ap (λ (n : ℕ). record_in n at (drop at log)) k)

-- a whole record
next : (c : goal.In-Body) → Next (seen_bytes c.args.log.now) c.args.log.now c.loop-start.cursor.at c.in-Body.start c.in-Body.size c.in-Body.count
next c = subst (Found (seen_bytes c.args.log.now) c.args.log.now c.loop-start.cursor.at) c.in-Body.is
    (read_at c.args.log.now c.loop-start.cursor.seen c.loop-start.cursor.at c.read.result c.loop-start.invariant.1 c.read.ensures.value)

pub overflow_add-end : goal.overflow_add-end
overflow_add-end c = omega (arith, (next c).inside)

pub overflow_add-count : goal.overflow_add-count
overflow_add-count c = let n = next c in omega (arith, n.inside, n.begins, c.loop-start.invariant.0.few)

pub loop-start-smaller : goal.loop-start-smaller
loop-start-smaller c = let n = next c in omega (arith, n.inside, n.begins)

-- a record more before the place, and one fewer from there on
pub loop-start-preserved : goal.loop-start-preserved
loop-start-preserved c = let n = next c in
    let inv = c.loop-start.invariant.0 in
    let body = length-take-le c.in-Body.size (drop c.in-Body.start c.args.log.now) (omega (arith, n.inside, length-drop c.in-Body.start c.args.log.now)) in (
      record {
        records = omega (arith, rw n.walk at inv.records);
        bytes = omega (arith, rw n.walk at inv.bytes, body, n.begins);
        few = omega (arith, inv.few, n.begins);
      },
      c.seen_bytes-seen.ensures,
    )

pub returns : goal.returns
returns c = let log = c.args.log.now in
    let inv = c.loop-start.invariant.0 in
    let at = c.loop-start.cursor.at in
    let over = none_left (seen_bytes log) log at c.read.result (read_at log c.loop-start.cursor.seen at c.read.result c.loop-start.invariant.1 c.read.ensures.value) c.in_default.not-Body in
    let records : c.loop-start.count ≡ length (log_records log).bodies = omega (arith, rw over at inv.records) in
    let end : at ≡ kept_of log = omega (arith, rw over at inv.bytes) in
    λ j. record { records = records j; end = end j }
