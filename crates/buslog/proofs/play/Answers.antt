-- `buslog::play` meets its contract: from power-on the transfers' lines, and then those of the state they leave.
-- Assumes nothing.
use mathlib.Core.Path.{◌≡◌, sym, ap, subst, ◌∙◌}
use mathlib.Core.List.{List}
use Prim.Native.Nat.{ℕ, ◌+◌, ◌≤◌}
use native.Mathlib.Omega.{arith}
use lib.ListN.{length}
use Rattle.sheet.specs.declared.Both.{Both}
use Rattle.sheet.specs.declared.Chips.{Chips}
use Rattle.sheet.specs.declared.PowerOn.{PowerOn}
use Rattle.sheet.specs.Parts.{pcf8532}
use Rattle.sheet.specs.Long.{state_of, State, power_on_part, state_after_all}
use Rattle.log_sheet.specs.Logs.{seen_bytes, log_records, log_transfers, transfer_lines, end_lines, log_start, log_lines}
use Rattle.sheet.specs.Agree.{Valid}
use Rattle.text.specs.Texts.{Puts}
use Rattle.text.proofs.Writing.{Writing, begin, rest-is, turn, last, room_for}
use Rattle.agreement.proofs.Demand.{demand3}
use Rattle.laws.proofs.Kept.{pcf8532-keeps}
use Rattle.wire.specs.Bytes.{both_of, both_bytes}
use Rattle.buslog.proofs.States.{start-valid}
use Rattle.buslog.proofs.play.Goals as goal

-- the state that the code begins with
powered : (part : ℕ) (n : Chips) (columns ram registers : List ℕ) (on : PowerOn) → on ≡ power_on_part part n columns → registers ≡ both_bytes on.registers → ram ≡ (log_start n).ram → state_of (both_of registers) ram ≡ log_start n
unfolding power_on_part
powered part n columns ram registers on e put blank =
    let held = ap both_of put ∙ ap (λ (r : Both). both_of (both_bytes r)) (λ j. (e j).registers) in
    λ j. record { registers = held j; ram = blank j }

-- what the transfers leave: their lines are written, and those of the state at the end are left
record Left (log : List ℕ) (n : Chips) (out₀ : List ℕ) (s : State) (out : List ℕ) (at : ℕ) : Type 0 where
  state : s ≡ state_after_all pcf8532 n (log_start n) (log_transfers log)
  writing : Writing 0 (log_lines (seen_bytes log) n (log_records log).bodies) out₀ at (end_lines n s) out

left : (log : List ℕ) (n : Chips) (start : State) (out₀ : List ℕ) (s : State) (out : List ℕ) (at : ℕ) → start ≡ log_start n → length (log_lines (seen_bytes log) n (log_records log).bodies) ≤ length out₀
    → s ≡ state_after_all pcf8532 n start (log_transfers log) → Puts 0 (transfer_lines (seen_bytes log) n 0 start (log_records log).bodies) out₀ out at → Left log n out₀ s out at
left log n start out₀ s out at on room e p =
    let state = rw on at e in
    record { state = state; writing = rest-is (turn (begin 0 (log_lines (seen_bytes log) n (log_records log).bodies) out₀ (omega (arith, room))) (rw on at p)) (ap (end_lines n) (sym state)) }

pub put_transfers-at-requires : goal.put_transfers-at-requires
put_transfers-at-requires c = let a = c.args in
    let on = powered _ a.chips _ a.ram.now c.put_both.new.out _ c.power_on-on.ensures.value c.put_both.ensures c.requires.blank in
    let room = room_for (transfer_lines (seen_bytes a.log.now) a.chips 0 (log_start a.chips) (log_records a.log.now).bodies) _ (begin 0 (log_lines (seen_bytes a.log.now) a.chips (log_records a.log.now).bodies) a.out.now (omega (arith, c.requires.room))) in
    let valid = subst (Valid pcf8532 a.chips) (sym on) (start-valid a.chips c.requires.chips) in
    record { log_value = c.requires.whole; sendable = (record { size = ap length c.put_both.ensures; state = valid }, rw on (omega arith)) }

pub put_end-requires : goal.put_end-requires
put_end-requires c = let a = c.args in
    let on = powered _ a.chips _ a.ram.now c.put_both.new.out _ c.power_on-on.ensures.value c.put_both.ensures c.requires.blank in
    let left = left a.log.now a.chips _ a.out.now _ _ _ on c.requires.room c.put_transfers-at.ensures.ram_after c.put_transfers-at.ensures.puts in
    let same : state_of c.both_of.result c.put_transfers-at.new.ram ≡ state_of (both_of c.put_transfers-at.new.registers) c.put_transfers-at.new.ram = λ j. state_of (c.both_of.ensures j) c.put_transfers-at.new.ram in
    record {
      valid = subst (Valid pcf8532 a.chips) (sym (same ∙ left.state)) ((demand3 pcf8532 (omega arith) pcf8532-keeps).sequence a.chips _ (log_transfers a.log.now) (start-valid a.chips c.requires.chips)).valid;
      ram_in_bounds = subst (λ (u : State). c.put_transfers-at.result + length (end_lines a.chips u) ≤ length c.put_transfers-at.new.out) (sym same) left.writing.room;
    }

pub returns : goal.returns
returns c = let a = c.args in
    let on = powered _ a.chips _ a.ram.now c.put_both.new.out _ c.power_on-on.ensures.value c.put_both.ensures c.requires.blank in
    let left = left a.log.now a.chips _ a.out.now _ _ _ on c.requires.room c.put_transfers-at.ensures.ram_after c.put_transfers-at.ensures.puts in
    let same : state_of c.both_of.result c.put_transfers-at.new.ram ≡ state_of (both_of c.put_transfers-at.new.registers) c.put_transfers-at.new.ram = λ j. state_of (c.both_of.ensures j) c.put_transfers-at.new.ram in
    last left.writing (subst (λ (u : State). Puts c.put_transfers-at.result (end_lines a.chips u) c.put_transfers-at.new.out c.put_end.new.out c.put_end.result) same c.put_end.ensures)
