-- `records::Cursor::read` meets its contract: the end, a cut length field, a cut record, one with too short a body, or a whole one.
-- Assumes nothing.
use mathlib.Core.Path.{sym, ap, ◌∙◌}
use Prim.Native.Nat.{ℕ, ◌+◌}
use native.Mathlib.Nat.{add-sub_cancel_left}
use native.Mathlib.Omega.{arith}
use lib.ListN.{take, drop}
use Rattle.log_sheet.specs.Logs.{seen_in}
use Rattle.records.specs.declared.Record.TheVariants.{Body}
use Rattle.records.proofs.Reading.{finds_end, finds_half, finds_cut, finds_short, finds_whole}
use Rattle.records.proofs.Cursor.read.Goals as goal

pub returns-then-log-at : goal.returns-then-log-at
returns-then-log-at c = record { value = sym (finds_end _ _ _ c.if-log-at.true); counted = tt }

pub returns-then-left-lt2 : goal.returns-then-left-lt2
returns-then-left-lt2 c = let a = c.args in record { value = sym (finds_half a.self.seen a.log.now a.self.at (omega arith)); counted = tt }

pub returns-then-left-size : goal.returns-then-left-size
returns-then-left-size c = let size = c.length_of-size in
    let a = c.args in
    record { value = sym (finds_cut a.self.seen a.log.now a.self.at size.result size.ensures.0 (omega arith) c.if-left-size.true); counted = tt }

pub returns-then-size-self : goal.returns-then-size-self
returns-then-size-self c = let size = c.length_of-size in
    let a = c.args in
    record { value = sym (finds_short a.self.seen a.log.now a.self.at size.result size.ensures.0 (omega arith) c.if-left-size.false c.if-size-self.true); counted = tt }

pub returns : goal.returns
returns c = let size = c.length_of-size in
    let a = c.args in
    let at = a.self.at in record {
      value = ap (λ (k : ℕ). Body (at + 2) size.result k) (c.seen_in-count.ensures.0 ∙ ap (λ (k : ℕ). seen_in (take k (drop (at + 2) a.log.now))) (add-sub_cancel_left (at + 2) size.result))
          ∙ sym (finds_whole a.self.seen a.log.now at size.result size.ensures.0 (omega arith) c.if-left-size.false c.if-size-self.false);
      counted = c.seen_in-count.ensures.1;
    }
