-- `ram::whole_bytes` meets its contract, mode by mode.
-- Assumes nothing.
use mathlib.Core.Path.{◌≡◌, ap, ◌∙◌, sym}
use Prim.Native.Nat.{ℕ, ◌-◌}
use native.Mathlib.Omega.{arith}
use lib.ListN.{length}
use Rattle.sheet.specs.Registers.{bank_row}
use Rattle.sheet.specs.Runs.{put_run}
use Rattle.laws.proofs.Runs.{as_wide}
use Rattle.ram.proofs.whole_bytes.Goals as goal

pub static_run-requires : goal.static_run-requires
static_run-requires c = (c.requires.two, as_wide 1 c.args.m (length c.args.bytes.now) (length c.args.ram.now - c.args.v) c.in-1.is c.requires.fit, c.requires.nibbles)

pub two_run-requires : goal.two_run-requires
two_run-requires c = (c.requires.two, as_wide 2 c.args.m (length c.args.bytes.now) (length c.args.ram.now - c.args.v) c.in-2.is c.requires.fit, c.requires.nibbles)

pub three_run-requires : goal.three_run-requires
three_run-requires c = (as_wide 3 c.args.m (length c.args.bytes.now) (length c.args.ram.now - c.args.v) c.in-3.is c.requires.fit, c.requires.nibbles)

pub four_run-requires : goal.four_run-requires
four_run-requires c = (as_wide 4 c.args.m (length c.args.bytes.now) (length c.args.ram.now - c.args.v) (omega arith) c.requires.fit, c.requires.nibbles)

pub returns-in-1 : goal.returns-in-1
unfolding bank_row
returns-in-1 c = let a = c.args in
    c.static_run.ensures ∙ ap (λ (m : ℕ). put_run m (bank_row m a.bank) a.v a.bytes.now a.ram.now) (sym c.in-1.is)

pub returns-in-2 : goal.returns-in-2
unfolding bank_row
returns-in-2 c = let a = c.args in
    c.two_run.ensures ∙ ap (λ (m : ℕ). put_run m (bank_row m a.bank) a.v a.bytes.now a.ram.now) (sym c.in-2.is)

pub returns-in-3 : goal.returns-in-3
unfolding bank_row
returns-in-3 c = let a = c.args in
    c.three_run.ensures ∙ ap (λ (m : ℕ). put_run m (bank_row m a.bank) a.v a.bytes.now a.ram.now) (sym c.in-3.is)

pub returns-in_default : goal.returns-in_default
unfolding bank_row
returns-in_default c = let a = c.args in
    let e : 4 ≡ a.m = omega arith in
    c.four_run.ensures ∙ ap (λ (m : ℕ). put_run m (bank_row m a.bank) a.v a.bytes.now a.ram.now) e
