-- `ram::put_bits` meets its contract: after k turns the first k bits are put.
-- Assumes nothing.
use mathlib.Core.Path.{◌≡◌, refl, ap, ◌∙◌}
use mathlib.Core.List.{List}
use Prim.Native.Nat.{ℕ, ◌+◌, ◌/◌, ◌%◌, ◌<◌}
use native.Mathlib.Numerals.{add-one}
use lib.ListN.{length}
use Rattle.sheet.specs.Data.{changed, with_row, bit_of, put_bits}
use Rattle.ram.proofs.put_bits.Invariants.{Putting}
use Rattle.ram.proofs.put_bits.Goals as goal

turn : (ram₀ : List ℕ) (at m b x : ℕ) (ram after : List ℕ) (k bit : ℕ) → k < 8 → bit ≡ bit_of x k
    → after ≡ changed (with_row (b + k % m) bit) (at + k / m) ram → length after ≡ length ram
    → Putting ram₀ at m b x ram k → Putting ram₀ at m b x after (k + 1)
unfolding put_bits
turn ram₀ at m b x ram after k bit l eb e long r = record {
  so_far =
      rw (add-one k)
      (e ∙ ap (λ (n : ℕ). changed (with_row (b + k % m) n) (at + k / m) ram) eb
      ∙ ap (changed (with_row (b + k % m) (bit_of x k)) (at + k / m)) r.so_far);
  long = long ∙ r.long;
}

pub loop-k-init : goal.loop-k-init
unfolding put_bits
loop-k-init c = record { so_far = refl; long = refl }

pub loop-k-preserved : goal.loop-k-preserved
loop-k-preserved c = let a = c.args in
    turn a.ram.now a.at a.m a.b a.x c.loop-k.ram c.put_row.new.ram c.loop-k.k c.bit_of-bit.result
    c.loop-k-test.true c.bit_of-bit.ensures c.put_row.ensures c.put_row.auto.ram c.loop-k.invariant
