-- `gather::gather` meets its contract, mode by mode.
-- Assumes nothing.
use mathlib.Core.Path.{◌≡◌, refl, sym, ap, ap₂, ◌∙◌}
use mathlib.Core.Logic.{◌≢◌}
use Prim.Native.Nat.{ℕ, zero, suc, ◌*◌, ◌%◌, ◌≤◌, ◌<◌}
use native.Mathlib.Omega.{arith}
use lib.ListN.{length}
use borrow.Author.Tests.{lt-ltb, le-ltb}
use Rattle.sheet.specs.Registers.{bank_row}
use Rattle.sheet.specs.Data.{width_of}
use Rattle.writer_sheet.specs.Writer.{data_from, bytes_for}
use Rattle.gather.proofs.gather.Goals as goal

-- columns by sixteen are whole bytes but in 1:3
whole : (m size : ℕ) → 0 < m → m < 5 → m ≢ 3 → size % 16 ≡ 0 → width_of m * bytes_for m size ≤ size
whole zero size p l n e = absurd (omega (arith, p))
whole (suc zero) size p l n e = omega (arith, e)
whole (suc (suc zero)) size p l n e = omega (arith, e)
whole (suc (suc (suc zero))) size p l n e = absurd (n refl)
whole (suc (suc (suc (suc zero)))) size p l n e = omega (arith, e)
whole (suc (suc (suc (suc (suc m))))) size p l n e = absurd (omega (arith, l))

few-banks : (m bank : ℕ) → m < 3 → 2 * bank ≡ bank_row m bank
unfolding bank_row
few-banks m bank h = rw (lt-ltb m 3 h) refl

no-banks : (m bank : ℕ) → 3 ≤ m → 0 ≡ bank_row m bank
unfolding bank_row
no-banks m bank h = rw (le-ltb m 3 h) refl

pub byte_data-requires : goal.byte_data-requires
byte_data-requires c = let p = c.requires in
    let few : c.args.m < 3 = c.if-m-lt3.true in
    record { some = p.some; few = few; two = p.two; fit = rw p.all (whole c.args.m (length c.args.columns.now) p.some p.four (λ e. omega (arith, few, e)) p.sixteen) }

pub three_data-requires : goal.three_data-requires
three_data-requires c = (c.requires.all ∙ ap (λ (m : ℕ). bytes_for m (length c.args.columns.now)) c.if-m-eq3.true, c.requires.near)

pub four_data-requires : goal.four_data-requires
four_data-requires c = let p = c.requires in
    let e : c.args.m ≡ 4 = omega arith in
    let all : length c.args.out.now ≡ bytes_for 4 (length c.args.columns.now) = p.all ∙ ap (λ (m : ℕ). bytes_for m (length c.args.columns.now)) e in
    rw all (omega (arith, p.sixteen))

pub returns-then-m-lt3 : goal.returns-then-m-lt3
returns-then-m-lt3 c = let a = c.args in
    c.byte_data.ensures ∙ ap (λ (b : ℕ). data_from (length a.out.now) a.m b a.columns.now) (few-banks a.m a.bank c.if-m-lt3.true)

pub returns-then-m-eq3 : goal.returns-then-m-eq3
returns-then-m-eq3 c = let a = c.args in
    c.three_data.ensures
    ∙ ap₂ (λ (m b : ℕ). data_from (length a.out.now) m b a.columns.now) (sym c.if-m-eq3.true) (no-banks a.m a.bank (omega (arith, c.if-m-eq3.true)))

pub returns-else-m-eq3 : goal.returns-else-m-eq3
returns-else-m-eq3 c = let a = c.args in
    let e : a.m ≡ 4 = omega arith in
    c.four_data.ensures ∙ ap₂ (λ (m b : ℕ). data_from (length a.out.now) m b a.columns.now) (sym e) (no-banks a.m a.bank (omega arith))
