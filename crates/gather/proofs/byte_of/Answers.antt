-- `gather::byte_of` meets its contract, mode by mode.
-- Assumes nothing.
use mathlib.Core.Path.{◌≡◌, sym, ap, ◌∙◌}
use mathlib.Core.List.{List}
use Prim.Native.Nat.{ℕ, ◌+◌, ◌*◌, ◌≤◌}
use native.Mathlib.Omega.{arith}
use lib.ListN.{length}
use Rattle.sheet.specs.Data.{width_of}
use Rattle.writer_sheet.specs.Writer.{bits_from}
use Rattle.laws.proofs.Runs.{as_wide}
use Rattle.gather.proofs.byte_of.Goals as goal

static : (m j n : ℕ) → m ≡ 1 → width_of m * (j + 1) ≤ n → 8 * (j + 1) ≤ n
static m j n e h = as_wide 1 m (j + 1) n e h

two : (m j n : ℕ) → m ≡ 2 → width_of m * (j + 1) ≤ n → 4 * (j + 1) ≤ n
two m j n e h = as_wide 2 m (j + 1) n e h

by_mode : (k : ℕ) {m : ℕ} (bank j : ℕ) (columns : List ℕ) → m ≡ k → bits_from 8 k (2 * bank) (width_of k * j) columns ≡ bits_from 8 m (2 * bank) (width_of m * j) columns
by_mode k bank j columns e = ap (λ (m : ℕ). bits_from 8 m (2 * bank) (width_of m * j) columns) (sym e)

pub overflow_mul-j : goal.overflow_mul-j
overflow_mul-j c = omega (arith, static c.args.m c.args.j (length c.args.columns.now) c.if-m-eq1.true c.requires.3)

pub static_byte-requires : goal.static_byte-requires
static_byte-requires c = (omega (arith, static c.args.m c.args.j (length c.args.columns.now) c.if-m-eq1.true c.requires.3), c.requires.2)

pub overflow_mul-j-else-m-eq1 : goal.overflow_mul-j-else-m-eq1
overflow_mul-j-else-m-eq1 c = omega (arith, two c.args.m c.args.j (length c.args.columns.now) (omega arith) c.requires.3)

pub two_byte-requires : goal.two_byte-requires
two_byte-requires c = (omega (arith, two c.args.m c.args.j (length c.args.columns.now) (omega arith) c.requires.3), c.requires.2)

pub returns-then-m-eq1 : goal.returns-then-m-eq1
returns-then-m-eq1 c = c.static_byte.ensures ∙ by_mode 1 c.args.bank c.args.j c.args.columns.now c.if-m-eq1.true

pub returns-else-m-eq1 : goal.returns-else-m-eq1
returns-else-m-eq1 c = c.two_byte.ensures ∙ by_mode 2 c.args.bank c.args.j c.args.columns.now (omega arith)
