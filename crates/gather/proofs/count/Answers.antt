-- `gather::count` meets its contract, mode by mode.
-- Assumes nothing.
use mathlib.Core.Path.{◌≡◌, sym, ap, ◌∙◌}
use Prim.Native.Nat.{ℕ}
use native.Mathlib.Omega.{arith}
use Rattle.writer_sheet.specs.Writer.{bytes_for}
use Rattle.gather.proofs.count.Goals as goal

by_mode : (k : ℕ) {m : ℕ} (size : ℕ) → m ≡ k → bytes_for k size ≡ bytes_for m size
by_mode k size e = ap (λ (m : ℕ). bytes_for m size) (sym e)

pub returns-in-1 : goal.returns-in-1
returns-in-1 c = let up : _ ≡ bytes_for 1 c.args.size = omega arith in
    up ∙ by_mode 1 c.args.size c.in-1.is

pub returns-in-2 : goal.returns-in-2
returns-in-2 c = let up : _ ≡ bytes_for 2 c.args.size = omega arith in
    up ∙ by_mode 2 c.args.size c.in-2.is

pub returns-in-3 : goal.returns-in-3
returns-in-3 c = let up : _ ≡ bytes_for 3 c.args.size = omega arith in
    up ∙ by_mode 3 c.args.size c.in-3.is

pub returns-in_default : goal.returns-in_default
returns-in_default c = let up : _ ≡ bytes_for 4 c.args.size = omega arith in
    up ∙ by_mode 4 c.args.size (omega arith)
