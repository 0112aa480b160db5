-- `lines::put_record` meets its contract: the transfer's line, and the one of what was seen or nothing.
-- Assumes nothing.
use native.Mathlib.Omega.{arith}
use Rattle.std.proofs.Common.{List, ℕ, ◌≢◌, ◌+◌, ◌≤◌, length}
use borrow.Author.Tests.{eq-eqb, ne_eqb}
use lib.ListN.{get_or}
use Rattle.log_sheet.specs.Logs.{seen_line}
use Rattle.lines.specs.Numbered.{numbered_line, numbered_lines}
use Rattle.text.specs.Texts.{Puts}
use Rattle.text.proofs.Writing.{Writing, begin, rest-is, turn, last, done, room_for}
use Rattle.lines.proofs.put_record.Goals as goal

-- all lines are left
opened : (seen index count at : ℕ) (said out : List ℕ) → at + length (numbered_lines seen index count said) ≤ length out → Writing at (numbered_lines seen index count said) out at (numbered_lines seen index count said) out
opened seen index count at said out room = begin at _ out room

pub put_transfer-after-requires : goal.put_transfer-after-requires
put_transfer-after-requires c = room_for (numbered_line c.args.index c.args.said) _ (opened c.args.seen c.args.index c.args.count c.args.at c.args.said c.args.out.now c.requires)

-- what was seen is left
second : (seen index count : ℕ) (said : List ℕ) {at₀ at end : ℕ} {whole out₀ out after : List ℕ} → seen ≢ 0 → Writing at₀ whole out₀ at (numbered_lines seen index count said) out → Puts at (numbered_line index said) out after end → Writing at₀ whole out₀ end (seen_line index count (get_or said 2 0)) after
second seen index count said h w p = rest-is (turn w p) (rw (ne_eqb seen 0 h))

pub put_seen-requires : goal.put_seen-requires
put_seen-requires c = (second c.args.seen c.args.index c.args.count c.args.said (omega arith) (opened c.args.seen c.args.index c.args.count c.args.at c.args.said c.args.out.now c.requires) c.put_transfer-after.ensures).room

pub returns-then-seen-eq0 : goal.returns-then-seen-eq0
returns-then-seen-eq0 c = done (rest-is (turn (opened c.args.seen c.args.index c.args.count c.args.at c.args.said c.args.out.now c.requires) c.put_transfer-after.ensures) (rw (eq-eqb _ 0 c.if-seen-eq0.true)))

pub returns-else-seen-eq0 : goal.returns-else-seen-eq0
returns-else-seen-eq0 c = last (second c.args.seen c.args.index c.args.count c.args.said c.if-seen-eq0.false (opened c.args.seen c.args.index c.args.count c.args.at c.args.said c.args.out.now c.requires) c.put_transfer-after.ensures) c.put_seen.ensures
