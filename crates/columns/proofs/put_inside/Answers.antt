-- put_inside: after j turns the bits of the first j columns are put.
-- Assumes nothing.
use mathlib.Core.Path.{◌≡◌, refl, ap, ◌∙◌}
use mathlib.Core.List.{List}
use Prim.Native.Nat.{ℕ, ◌+◌, ◌-◌, ◌*◌, ◌/◌, ◌%◌, ◌^◌, ◌≤◌, ◌<◌, min}
use native.Mathlib.Nat.{mul-zero, mul-suc, min-le_left, min-eq_right, le_of_lt}
use native.Mathlib.Numerals.{add-one}
use native.Mathlib.Omega.{arith}
use lib.ListN.{length, get_or, set}
use Rattle.sheet.specs.Data.{changed, put_bits, width_of}
use Rattle.laws.proofs.Counts.{width-less}
use Rattle.laws.proofs.Runs.{length-bits}
use Rattle.words.specs.Fields.{with_rows, field}
use Rattle.words.proofs.Bytes.{later}
use Rattle.columns.proofs.put_inside.Invariants.{Put}
use Rattle.columns.proofs.put_inside.Goals as goal

-- a column more
more : (m b x v y j : ℕ) (ram before after : List ℕ) → y ≡ field x 0 8 → m * j < 8 → before ≡ put_bits (min 8 (m * j)) m b v x ram
    → after ≡ set before (v + j) (with_rows b (min m (8 - m * j)) (y / 2 ^ (m * j) % 2 ^ min m (8 - m * j)) (get_or before (v + j) 0))
    → after ≡ put_bits (min 8 (m * (j + 1))) m b v x ram
unfolding changed
more m b x v y j ram before after told small eb ea =
    let h = min m (8 - m * j) in
    let all : m * j + (h + (8 - m * j - h)) ≡ 8 = omega arith in
    let next : m * j + h ≡ min 8 (m * (j + 1)) = rw (add-one j, mul-suc m j) (omega arith) in
    later m b x v y ram told j h (8 - m * j - h) before after (min-le_left m (8 - m * j)) all (eb ∙ ap (λ (n : ℕ). put_bits n m b v x ram) (min-eq_right (le_of_lt small))) ea
    ∙ ap (λ (n : ℕ). put_bits n m b v x ram) next

same : {m b byte at j : ℕ} {columns₀ columns : List ℕ} → Put m b byte at columns₀ columns j → length columns ≡ length columns₀
same {m} {b} {byte} {at} {j} {columns₀} h = ap length h.so_far ∙ length-bits (min 8 (m * j)) m b at byte columns₀

-- a turn's column is there, and the byte has a bit for it
there : {m b byte at width j : ℕ} {columns₀ columns : List ℕ} → Put m b byte at columns₀ columns j
    → 0 < m → at + width_of m ≤ length columns₀ → width ≡ width_of m → j < width → (at + j < length columns) × (m * j < 8)
there {m} {b} {byte} {at} {width} {j} h some fits w l = (omega (arith, same h), width-less m j some (omega arith))

pub loop-j-init : goal.loop-j-init
unfolding put_bits
loop-j-init c = record { so_far = rw (mul-zero c.args.m) refl }

pub loop-j-preserved : goal.loop-j-preserved
loop-j-preserved c = let a = c.args in
    record {
      so_far = more a.m a.b a.byte a.at c.reversed-bits.result c.loop-j.j a.columns.now c.loop-j.columns _ c.reversed-bits.ensures (there c.loop-j.invariant c.requires.0 c.requires.2 c.width-width.ensures c.loop-j-test.true).1 c.loop-j.invariant.so_far (ap (λ (q : ℕ). set c.loop-j.columns (a.at + c.loop-j.j) q) c.put_field.ensures);
    }
