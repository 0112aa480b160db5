-- `buslog::replay` meets its contract: too small a buffer, a refused log's line, or a log's lines.
-- Assumes nothing.
use mathlib.Core.Path.{◌≡◌, sym, ap, ◌∙◌}
use mathlib.Core.List.{List, ◌++◌}
use Prim.Native.Nat.{ℕ, ◌≤◌}
use native.Mathlib.Nat.{zero-add}
use native.Mathlib.Omega.{arith}
use lib.ListN.{length, drop}
use lib.Seq.{sets-eq}
use borrow.Author.Tests.{lt-ltb, le-ltb}
use Rattle.log_sheet.specs.Logs.{text_of}
use Rattle.std.specs.Prelude.{Some}
use Rattle.text.specs.Texts.{written, Puts}
use Rattle.buslog.specs.Replays.{room, replay_call}
use Rattle.buslog.proofs.Checked.{text-refused}
use Rattle.buslog.proofs.Room.{text-few}
use Rattle.buslog.proofs.replay.Goals as goal

-- a text written from the start of a buffer that has room for it
at-start : (text out after : List ℕ) (end : ℕ) → length text ≤ length out → Puts 0 text out after end → (after ≡ text ++ drop (length text) out) × (end ≡ length text)
unfolding written
at-start text out after end h p =
    (p.out ∙ sets-eq text out 0 (omega arith) ∙ ap (λ (k : ℕ). text ++ drop k out) (zero-add (length text)), p.place ∙ zero-add (length text))

-- is what a replay leaves
whole : (log out after : List ℕ) (end : ℕ) → room ≤ length out → length (text_of log) ≤ room → Puts 0 (text_of log) out after end → (after ≡ (replay_call log out).out) × ((Some end ≡ (replay_call log out).result) × (end ≤ length out))
unfolding replay_call
whole log out after end h few p =
    let s = at-start (text_of log) out after end (omega arith) p in
    rw (le-ltb (length out) room h) (s.0, (ap Some s.1, omega (arith, s.1)))

pub returns-then-out-lt-TEXT : goal.returns-then-out-lt-TEXT
unfolding replay_call
returns-then-out-lt-TEXT c = let e = lt-ltb (length c.args.out.now) room c.if-out-lt-TEXT.true in
    record { out_after = rw e; value = rw e; inside = tt }

pub put_refusal-requires : goal.put_refusal-requires
put_refusal-requires c = omega (arith, ap length (text-refused c.args.log.now c.in-Err.refusal (sym c.check_log.ensures.value ∙ c.in-Err.is)), text-few c.args.log.now (λ e. c.check_log.ensures.all_counted (c.check_log.ensures.value ∙ e)))

pub put_log-requires : goal.put_log-requires
put_log-requires c = record { log_value = sym c.check_log.ensures.value ∙ c.in-Ok.is; log_in_bounds = omega (arith, text-few c.args.log.now (λ e. c.check_log.ensures.all_counted (c.check_log.ensures.value ∙ e))) }

pub returns-in-Err : goal.returns-in-Err
returns-in-Err c = let w = whole c.args.log.now c.args.out.now _ _ (omega arith) (text-few c.args.log.now (λ e. c.check_log.ensures.all_counted (c.check_log.ensures.value ∙ e))) (rw (text-refused c.args.log.now c.in-Err.refusal (sym c.check_log.ensures.value ∙ c.in-Err.is)) c.put_refusal.ensures) in
    record { out_after = w.0; value = w.1.0; inside = w.1.1 }

pub returns-in-Ok : goal.returns-in-Ok
returns-in-Ok c = let w = whole c.args.log.now c.args.out.now _ _ (omega arith) (text-few c.args.log.now (λ e. c.check_log.ensures.all_counted (c.check_log.ensures.value ∙ e))) c.put_log.ensures in
    record { out_after = w.0; value = w.1.0; inside = w.1.1 }
