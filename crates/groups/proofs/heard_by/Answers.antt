-- `groups::heard_by` meets its contract.
-- Assumes nothing.
use Rattle.sheet.specs.Protocol.{heard_by}
use Rattle.groups.proofs.heard_by.Goals as goal

pub returns-then-address-chips : goal.returns-then-address-chips
unfolding heard_by
returns-then-address-chips c = rw c.if-address-chips.true

pub returns-then-address-chips-2 : goal.returns-then-address-chips-2
unfolding heard_by
returns-then-address-chips-2 c = rw (c.if-address-chips.false, c.if-address-chips-2.true)

pub returns : goal.returns
unfolding heard_by
returns c = rw (c.if-address-chips.false, c.if-address-chips-2.false)
