-- `accounts::side_by_side` meets its contract: the contracts of `long::transfer` and `plain::transfer_bench`, and demand 3.
-- Assumes nothing.
use Rattle.sheet.specs.Protocol.{sent}
use Rattle.accounts.proofs.Agreeing.{sides_agree}
use Rattle.accounts.proofs.side_by_side.Goals as goal

pub returns : goal.returns
returns c = let a = c.args in
    let long = c.transfer-long.ensures.ram_after in
    let plain = c.transfer_bench-plain.ensures.value in
    record { ram_after = long; plain_value = plain; agreed = sides_agree a.part a.chips a.registers a.ram.now a.bench (sent a.bytes.now a.bits) _ c.transfer_bench-plain.result c.requires long plain }
