-- `packed_words::put_bytes` meets its contract: after j turns the first j bytes are changed.
-- Assumes nothing.
use mathlib.Core.Path.{◌≡◌, refl, ap, ap₂, ◌∙◌}
use mathlib.Core.List.{List}
use Prim.Native.Nat.{ℕ, ◌+◌}
use native.Mathlib.Numerals.{add-one}
use native.Mathlib.Omega.{arith}
use lib.ListN.{length}
use Rattle.sheet.specs.Data.{changed}
use Rattle.laws.proofs.Runs.{length-changed}
use Rattle.words.specs.Fields.{column_of, mixed, merged}
use Rattle.packed_words.proofs.put_bytes.Invariants.{Merging}
use Rattle.packed_words.proofs.put_bytes.Goals as goal

-- a byte more
turn : {rows t at j a b : ℕ} {ram₀ ram after : List ℕ} → a ≡ column_of rows j → b ≡ column_of t j → after ≡ changed (mixed a b) (at + j) ram
    → Merging rows t at ram₀ ram j → Merging rows t at ram₀ after (j + 1)
unfolding merged
turn {rows} {t} {at} {j} {ram = ram} ea eb e m =
    let more = e ∙ ap₂ (λ (a b : ℕ). changed (mixed a b) (at + j) ram) ea eb in
    record {
      so_far = rw (add-one j) (more ∙ ap (changed (mixed (column_of rows j) (column_of t j)) (at + j)) m.so_far);
      long = ap length more ∙ length-changed _ (at + j) ram ∙ m.long;
    }

-- all of them
done : {rows t at n j : ℕ} {ram₀ ram : List ℕ} → j ≡ n → Merging rows t at ram₀ ram j → ram ≡ merged n rows t at ram₀
done {rows} {t} {at} {ram₀ = ram₀} e m = m.so_far ∙ ap (λ (k : ℕ). merged k rows t at ram₀) e

pub loop-j-init : goal.loop-j-init
unfolding merged
loop-j-init c = record { so_far = refl; long = refl }

pub loop-j-preserved : goal.loop-j-preserved
loop-j-preserved c = turn c.two_of.ensures c.two_of-in-loop-j.ensures c.put.ensures c.loop-j.invariant

pub returns : goal.returns
returns c = done (omega (arith, c.loop-j-test.false, c.loop-j.auto.j-end)) c.loop-j.invariant
