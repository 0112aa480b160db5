-- `packed_ram::three_fours` meets its contract: after so many turns of four the first bytes are written.
-- Assumes nothing.
use mathlib.Core.Path.{◌≡◌, sym, ap, ◌∙◌, subst}
use mathlib.Core.List.{List}
use Prim.Native.Nat.{ℕ, ◌+◌, ◌*◌, ◌≤◌, ◌<◌}
use native.Mathlib.Omega.{arith}
use lib.ListN.{length, get_or}
use Rattle.sheet.specs.Data.{put_bits}
use Rattle.packed_sheet.specs.Packed.{unpacked}
use Rattle.laws.proofs.Packed.{never-over}
use Rattle.ram.proofs.Runs.{Running, begun, turn, small}
use Rattle.packed_ram.proofs.Bytes.{four-put}
use Rattle.packed_ram.proofs.three_fours.Goals as goal

module _ {v : ℕ} {bytes ram₀ : List ℕ} where
  -- a byte more, at its place
  one_more : (i p : ℕ) (ram : List ℕ) → i < length bytes → p ≡ v + 3 * i → Running 3 0 v bytes ram₀ ram i → Running 3 0 v bytes ram₀ (put_bits 8 3 0 p (get_or bytes i 0) ram) (i + 1)
  one_more i p ram l e r = turn l (ap (λ (k : ℕ). put_bits 8 3 0 k (get_or bytes i 0) ram) e) r

  -- and four
  four-more : {ram : List ℕ} (i : ℕ) → i + 4 ≤ length bytes
      → {after : List ℕ} → after ≡ put_bits 8 3 0 (v + 3 * i + 9) (get_or bytes (i + 3) 0) (put_bits 8 3 0 (v + 3 * i + 6) (get_or bytes (i + 2) 0) (put_bits 8 3 0 (v + 3 * i + 3) (get_or bytes (i + 1) 0) (put_bits 8 3 0 (v + 3 * i) (get_or bytes i 0) ram)))
      → Running 3 0 v bytes ram₀ ram i → Running 3 0 v bytes ram₀ after (i + 4)
  four-more {ram} i l e r =
      let r1 = one_more i (v + 3 * i) ram (omega arith) (omega arith) r in
      let r2 = one_more (i + 1) (v + 3 * i + 3) _ (omega arith) (omega arith) r1 in
      let r3 = one_more (i + 2) (v + 3 * i + 6) _ (omega arith) (omega arith) (at (omega arith) r2) in
      let r4 = one_more (i + 3) (v + 3 * i + 9) _ (omega arith) (omega arith) (at (omega arith) r3) in
      subst (λ (l : List ℕ). Running 3 0 v bytes ram₀ l (i + 4)) (sym e) (at (omega arith) r4)
    where
      at : {ram : List ℕ} {j k : ℕ} → j ≡ k → Running 3 0 v bytes ram₀ ram j → Running 3 0 v bytes ram₀ ram k
      at {ram} e r = subst (Running 3 0 v bytes ram₀ ram) e r

-- they begin at an even column
even : (at four : ℕ) → 2 * (at + 6 * four) ≡ 2 * at + 3 * (4 * four)
even at four = omega arith

pub loop-four-init : goal.loop-four-init
loop-four-init c = begun

pub loop-four-preserved : goal.loop-four-preserved
loop-four-preserved c = let i = 4 * c.loop-four.four in
    let bytes = c.args.bytes.now in
    let ram = unpacked c.loop-four.ram in
    let kept = small (omega arith) (omega arith) (never-over c.args.ram.now (λ k. (c.slice_known-1.given k).fits)) c.loop-four.invariant in
    let next : i + 4 ≡ 4 * (c.loop-four.four + 1) = omega arith in
    rw next at (four-more i (omega (arith, c.loop-four-test.true))
    (ap unpacked c.put_twelve.ensures
    ∙ four-put (get_or bytes i 0) (get_or bytes (i + 1) 0) (get_or bytes (i + 2) 0) (get_or bytes (i + 3) 0) (c.args.at + 6 * c.loop-four.four) _ _ _ _ c.loop-four.ram kept
    c.three_columns-a.ensures c.three_columns-b.ensures c.three_columns-c.ensures c.three_columns-d.ensures
    ∙ ap (λ (k : ℕ). put_bits 8 3 0 (k + 9) (get_or bytes (i + 3) 0) (put_bits 8 3 0 (k + 6) (get_or bytes (i + 2) 0) (put_bits 8 3 0 (k + 3) (get_or bytes (i + 1) 0) (put_bits 8 3 0 k (get_or bytes i 0) ram)))) (even c.args.at c.loop-four.four))
    c.loop-four.invariant)
