-- 1:3 by words: a byte a word, and four bytes more of a run.
-- Assumes nothing.
use mathlib.Core.Path.{◌≡◌, sym, ap, subst, ◌∙◌}
use mathlib.Core.List.{List}
use Prim.Native.Nat.{ℕ, ◌+◌, ◌*◌, ◌≤◌, ◌<◌}
use native.Mathlib.Omega.{arith}
use lib.ListN.{length, get_or}
use Rattle.std.specs.Prelude.{Ok}
use Rattle.sheet.specs.Checks.{over_in}
use Rattle.words.specs.Fields.{merged, three_columns, three_rows}
use Rattle.words.proofs.Words.{three-put}
use Rattle.ram.proofs.Runs.{Running, turn, small}

module _ {v : ℕ} {bytes ram₀ : List ℕ} (w : over_in 0 ram₀ ≡ Ok tt) where
  -- a byte more, its word put at its place
  one_more : (i t p : ℕ) (ram : List ℕ) → i < length bytes → t ≡ three_columns (get_or bytes i 0) → p ≡ v + 3 * i
      → Running 3 0 v bytes ram₀ ram i → Running 3 0 v bytes ram₀ (merged 3 three_rows t p ram) (i + 1)
  one_more i t p ram l et ep r =
      turn l
      (ap (λ (k : ℕ). merged 3 three_rows k p ram) et ∙ ap (λ (k : ℕ). merged 3 three_rows (three_columns (get_or bytes i 0)) k ram) ep
      ∙ three-put (get_or bytes i 0) (v + 3 * i) ram (small (omega arith) (omega arith) w r))
      r

  -- and four
  pub four-more : {ram : List ℕ} (i a b c d : ℕ) → i + 4 ≤ length bytes
      → a ≡ three_columns (get_or bytes i 0) → b ≡ three_columns (get_or bytes (i + 1) 0) → c ≡ three_columns (get_or bytes (i + 2) 0) → d ≡ three_columns (get_or bytes (i + 3) 0)
      → {after : List ℕ} → after ≡ merged 3 three_rows d (v + 3 * i + 9) (merged 3 three_rows c (v + 3 * i + 6) (merged 3 three_rows b (v + 3 * i + 3) (merged 3 three_rows a (v + 3 * i) ram)))
      → Running 3 0 v bytes ram₀ ram i → Running 3 0 v bytes ram₀ after (i + 4)
  four-more {ram} i a b c d l ea eb ec ed e r =
      let r1 = one_more i a (v + 3 * i) ram (omega arith) ea (omega arith) r in
      let r2 = one_more (i + 1) b (v + 3 * i + 3) _ (omega arith) eb (omega arith) r1 in
      let r3 = one_more (i + 2) c (v + 3 * i + 6) _ (omega arith) ec (omega arith) (at (omega arith) r2) in
      let r4 = one_more (i + 3) d (v + 3 * i + 9) _ (omega arith) ed (omega arith) (at (omega arith) r3) in
      subst (λ (l : List ℕ). Running 3 0 v bytes ram₀ l (i + 4)) (sym e) (at (omega arith) r4)
    where
      at : {ram : List ℕ} {j k : ℕ} → j ≡ k → Running 3 0 v bytes ram₀ ram j → Running 3 0 v bytes ram₀ ram k
      at {ram} e r = subst (Running 3 0 v bytes ram₀ ram) e r
