-- `buslog::put_transfers` meets its contract: a record a turn; what is left gives the whole.
-- Assumes nothing.
use mathlib.Core.Path.{◌≡◌, refl, sym, ap, ap₂, subst, ◌∙◌}
use mathlib.Core.List.{List}
use Prim.Native.Nat.{ℕ, ◌+◌, ◌-◌, ◌≤◌}
use native.Mathlib.Omega.{arith}
use lib.ListN.{length, take, drop}
use Rattle.sheet.specs.Parts.{pcf8532, part_of}
use Rattle.sheet.specs.Protocol.{Sent, whole}
use Rattle.sheet.specs.declared.Chips.{Chips}
use Rattle.records.specs.declared.Record.{Record}
use Rattle.records.specs.declared.Record.TheVariants.{Body}
use Rattle.sheet.specs.Long.{state_after_all}
use Rattle.log_sheet.specs.Logs.{seen_bytes, record_lines, transfer_lines}
use Rattle.records.specs.Found.{record_in}
use Rattle.records.proofs.Found.{Next, Found, found, none_left}
use Rattle.text.specs.Texts.{Puts}
use Rattle.lines.specs.Numbered.{numbered_lines}
use Rattle.lines.proofs.Numbered.{by-numbers}
use Rattle.text.proofs.Writing.{begin, rest-is, done, room_for, puts-length}
use Rattle.lent_long.specs.LongCalls.{LentAfter, Called, numbered, sent_c}
use Rattle.buslog.proofs.Playing.{one_more, next-record}
use Rattle.buslog.proofs.Sent as sending
use Rattle.buslog.proofs.put_transfers.Goals as goal

-- a whole record that was read at the cursor
next : (log : List ℕ) (seen at : ℕ) (r : Record) (start size count : ℕ) → seen ≡ seen_bytes log → r ≡ record_in seen at (drop at log) → r ≡ Body start size count → Next (seen_bytes log) log at start size count
next log seen at r start size count e value is = subst (Found (seen_bytes log) log at) is (found (seen_bytes log) log at r (value ∙ ap (λ (k : ℕ). record_in k at (drop at log)) e))

-- its transfer
abbrev transfer : List ℕ → ℕ → ℕ → Sent
transfer log start size = whole (take (start + size - (start + seen_bytes log)) (drop (start + seen_bytes log) log))

-- what was sent is it
told-sent : (log : List ℕ) (n : Chips) (registers ram : List ℕ) (start size seen : ℕ) (c : Called) → seen ≡ seen_bytes log
    → c ≡ numbered pcf8532 (sent_c pcf8532 n registers ram (whole (take (start + size - (start + seen)) (drop (start + seen) log)))) → c ≡ numbered pcf8532 (sent_c pcf8532 n registers ram (transfer log start size))
told-sent log n registers ram start size seen c e is = is ∙ ap (λ (k : ℕ). numbered pcf8532 (sent_c pcf8532 n registers ram (whole (take (start + size - (start + k)) (drop (start + k) log))))) e

sent_is : (a : LentAfter) (c : Called) → c ≡ numbered pcf8532 a → ◌≡◌ {A = LentAfter} (record { answer = a.answer; registers = c.registers; ram = c.buffer }) a
sent_is a c e = λ j. record { answer = a.answer; registers = (e j).registers; ram = (e j).buffer }

-- its lines, by the numbers of its answer
lines : (log : List ℕ) (i count seen : ℕ) (a : LentAfter) (c : Called) → seen ≡ seen_bytes log → c ≡ numbered pcf8532 a → record_lines (seen_bytes log) i count a.answer ≡ numbered_lines seen i count c.answer
lines log i count seen a c e is =
    by-numbers (seen_bytes log) i count a.answer ∙ ap₂ (λ (seen : ℕ) (ns : List ℕ). numbered_lines seen i count ns) (sym e) (λ j. (sym is j).answer)

pub loop-start-init : goal.loop-start-init
loop-start-init c = (record { writing = begin _ _ _ (omega (arith, c.requires.sendable.1)); state = refl; whole = c.requires.log_value; few = omega arith; long = refl }, c.seen_bytes-seen.ensures, c.requires.sendable.0)

pub overflow_add-end : goal.overflow_add-end
overflow_add-end c = omega (arith, (next c.args.log.now _ _ _ c.in-Body.start c.in-Body.size c.in-Body.count c.loop-start.invariant.1 c.read.ensures.value c.in-Body.is).inside)

pub overflow_add-from : goal.overflow_add-from
overflow_add-from c = let n = next c.args.log.now _ _ _ c.in-Body.start c.in-Body.size c.in-Body.count c.loop-start.invariant.1 c.read.ensures.value c.in-Body.is in omega (arith, n.inside, n.enough, c.seen_bytes-seen.ensures)

pub slice_bounds-send-count : goal.slice_bounds-send-count
slice_bounds-send-count c = omega (arith, (next c.args.log.now _ _ _ c.in-Body.start c.in-Body.size c.in-Body.count c.loop-start.invariant.1 c.read.ensures.value c.in-Body.is).enough, c.seen_bytes-seen.ensures)

pub slice_bounds-send-start : goal.slice_bounds-send-start
slice_bounds-send-start c = omega (arith, (next c.args.log.now _ _ _ c.in-Body.start c.in-Body.size c.in-Body.count c.loop-start.invariant.1 c.read.ensures.value c.in-Body.is).enough, c.seen_bytes-seen.ensures)

pub slice_bounds-send-end : goal.slice_bounds-send-end
slice_bounds-send-end c = omega (arith, (next c.args.log.now _ _ _ c.in-Body.start c.in-Body.size c.in-Body.count c.loop-start.invariant.1 c.read.ensures.value c.in-Body.is).inside)

pub send-requires : goal.send-requires
unfolding part_of
send-requires c = (c.loop-start.invariant.2, refl)

pub put_record-at-requires : goal.put_record-at-requires
unfolding part_of
put_record-at-requires c = let log = c.args.log.now in
    let n = next c.args.log.now _ _ _ c.in-Body.start c.in-Body.size c.in-Body.count c.loop-start.invariant.1 c.read.ensures.value c.in-Body.is in
    let t = transfer log c.in-Body.start c.in-Body.size in
    let after = sent_c pcf8532 c.args.chips c.loop-start.registers c.loop-start.ram t in
    let called : Called = record { number = c.send.result; registers = c.send.new.registers; buffer = c.send.new.ram; answer = c.send.new.answer } in
    let sends = told-sent log c.args.chips c.loop-start.registers c.loop-start.ram c.in-Body.start c.in-Body.size c.seen_bytes-seen.result called c.seen_bytes-seen.ensures c.send.ensures in
    let sent = sent_is after called sends in
    let told = sending.told t c.loop-start.invariant.2 sent in
    let lines = lines log c.loop-start.index c.in-Body.count c.seen_bytes-seen.result after called c.seen_bytes-seen.ensures sends in
    subst (λ (l : List ℕ). c.loop-start.at + length l ≤ length c.loop-start.out) lines
    (room_for (record_lines (seen_bytes log) c.loop-start.index c.in-Body.count after.answer) _ (one_more c.loop-start.invariant.0 n told))

pub overflow_add-index : goal.overflow_add-index
overflow_add-index c = let n = next c.args.log.now _ _ _ c.in-Body.start c.in-Body.size c.in-Body.count c.loop-start.invariant.1 c.read.ensures.value c.in-Body.is in omega (arith, n.inside, n.begins, c.loop-start.invariant.0.few)

pub loop-start-smaller : goal.loop-start-smaller
loop-start-smaller c = let n = next c.args.log.now _ _ _ c.in-Body.start c.in-Body.size c.in-Body.count c.loop-start.invariant.1 c.read.ensures.value c.in-Body.is in omega (arith, n.inside, n.begins)

pub loop-start-preserved : goal.loop-start-preserved
unfolding part_of
loop-start-preserved c = let log = c.args.log.now in
    let n = next c.args.log.now _ _ _ c.in-Body.start c.in-Body.size c.in-Body.count c.loop-start.invariant.1 c.read.ensures.value c.in-Body.is in
    let t = transfer log c.in-Body.start c.in-Body.size in
    let after = sent_c pcf8532 c.args.chips c.loop-start.registers c.loop-start.ram t in
    let called : Called = record { number = c.send.result; registers = c.send.new.registers; buffer = c.send.new.ram; answer = c.send.new.answer } in
    let sends = told-sent log c.args.chips c.loop-start.registers c.loop-start.ram c.in-Body.start c.in-Body.size c.seen_bytes-seen.result called c.seen_bytes-seen.ensures c.send.ensures in
    let sent = sent_is after called sends in
    let told = sending.told t c.loop-start.invariant.2 sent in
    let lines = lines log c.loop-start.index c.in-Body.count c.seen_bytes-seen.result after called c.seen_bytes-seen.ensures sends in
    let put = c.put_record-at in (
      next-record c.loop-start.invariant.0 n told c.send.auto.ram (subst (λ (l : List ℕ). Puts c.loop-start.at l c.loop-start.out put.new.out put.result) (sym lines) put.ensures),
      c.seen_bytes-seen.ensures,
      sending.again t c.loop-start.invariant.2 sent,
    )

pub returns : goal.returns
unfolding state_after_all transfer_lines
returns c = let log = c.args.log.now in
    let at = c.loop-start.cursor.at in
    let read = found (seen_bytes log) log at c.read.result (c.read.ensures.value ∙ ap (λ (k : ℕ). record_in k at (drop at log)) c.loop-start.invariant.1) in
    let over = none_left (seen_bytes log) log at c.read.result read c.in_default.not-Body in
    record { ram_after = rw over at c.loop-start.invariant.0.state; puts = done (rest-is c.loop-start.invariant.0.writing (rw over)) }

pub shape_of-registers : goal.shape_of-registers
shape_of-registers c = c.loop-start.invariant.2.size ∙ sym c.requires.sendable.0.size

pub shape_of-ram : goal.shape_of-ram
shape_of-ram c = c.loop-start.invariant.0.long

pub shape_of-out : goal.shape_of-out
shape_of-out c = puts-length (returns c).puts
