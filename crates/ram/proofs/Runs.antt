-- A run in two parts, byte by byte, and where it is cut; and the loop over the bytes of a run, for any mode.
-- Assumes nothing.
use mathlib.Core.Path.{◌≡◌, refl, sym, ap, ◌∙◌, subst}
use mathlib.Core.List.{List, [], ◌∷◌, ◌++◌}
use Prim.Native.Nat.{ℕ, suc, ◌+◌, ◌*◌, ◌≤◌, ◌<◌}
use native.Mathlib.Nat.{add-zero, mul-zero, le_of_lt}
use native.Mathlib.Numerals.{add-one}
use native.Mathlib.Omega.{arith}
use lib.ListN.{length, get_or, take}
use lib.Seq.{take-suc, take_all, length-take-le}
use Rattle.std.specs.Prelude.{Ok}
use Rattle.sheet.specs.Checks.{over_in}
use Rattle.sheet.specs.Data.{put_bits, width_of}
use Rattle.sheet.specs.Runs.{put_run}
use Rattle.laws.proofs.Runs.{length-bits, length_run, run_past}
use Rattle.laws.proofs.Nibbles.{Nibbles, nibbles-of, run-nibbles}

pub run-append : (m b v : ℕ) (xs ys ram : List ℕ) → put_run m b v (xs ++ ys) ram ≡ put_run m b (v + width_of m * length xs) ys (put_run m b v xs ram)
unfolding put_run
run-append m b v [] ys ram = rw (mul-zero (width_of m), add-zero v)
run-append m b v (x ∷ xs) ys ram =
    run-append m b (v + width_of m) xs ys (put_bits 8 m b v x ram)
    ∙ ap (λ (c : ℕ). put_run m b c ys (put_run m b (v + width_of m) xs (put_bits 8 m b v x ram))) (along v (width_of m) (length xs))
  where
    along : (v w n : ℕ) → v + w + w * n ≡ v + w * suc n
    along v w n = omega arith

-- after a byte that reaches the end no byte has a column
pub run-cut : (m b v x : ℕ) (xs ram : List ℕ) → length ram ≤ v + width_of m → put_run m b v (x ∷ xs) ram ≡ put_bits 8 m b v x ram
unfolding put_run
run-cut m b v x xs ram h = run_past m b (v + width_of m) xs (put_bits 8 m b v x ram) (rw (length-bits 8 m b v x ram) h)

-- the first i bytes are written
pub record Running (m b v : ℕ) (bytes ram₀ ram : List ℕ) (i : ℕ) : Type 0 where
  pub so_far : ram ≡ put_run m b v (take i bytes) ram₀
  pub long : length ram ≡ length ram₀

module _ {m b v : ℕ} {bytes ram₀ : List ℕ} where
  pub begun : Running m b v bytes ram₀ ram₀ 0
  unfolding put_run
  begun = record { so_far = refl; long = refl }

  -- a byte more
  pub turn : {ram after : List ℕ} {i : ℕ} → i < length bytes → after ≡ put_bits 8 m b (v + width_of m * i) (get_or bytes i 0) ram
      → Running m b v bytes ram₀ ram i → Running m b v bytes ram₀ after (i + 1)
  unfolding put_run
  turn {ram} {after} {i} l e r =
      let more : put_run m b v (take (i + 1) bytes) ram₀ ≡ put_bits 8 m b (v + width_of m * i) (get_or bytes i 0) (put_run m b v (take i bytes) ram₀) =
      rw (add-one i, take-suc bytes i 0 l) (run-append m b v (take i bytes) (get_or bytes i 0 ∷ []) ram₀ ∙ rw (length-take-le i bytes (le_of_lt l))) in
      let s : after ≡ put_run m b v (take (i + 1) bytes) ram₀ = e ∙ ap (put_bits 8 m b (v + width_of m * i) (get_or bytes i 0)) r.so_far ∙ sym more in
      record { so_far = s; long = ap length s ∙ length_run m b v (take (i + 1) bytes) ram₀ }

  -- all bytes
  pub done : {ram : List ℕ} {i : ℕ} → length bytes ≤ i → Running m b v bytes ram₀ ram i → ram ≡ put_run m b v bytes ram₀
  done {i = i} l r = r.so_far ∙ ap (λ (xs : List ℕ). put_run m b v xs ram₀) (take_all i bytes l)

  -- its columns are still below 16
  pub small : {ram : List ℕ} {i : ℕ} → 0 < m → b + m ≤ 4 → over_in 0 ram₀ ≡ Ok tt → Running m b v bytes ram₀ ram i → Nibbles ram
  small {i = i} pm h w r = subst Nibbles (sym r.so_far) (run-nibbles m b v (take i bytes) ram₀ pm h (nibbles-of 0 ram₀ w))

-- a run of no bytes puts nothing
pub no_bytes : (m b at : ℕ) (xs ram : List ℕ) → length xs ≤ 0 → put_run m b at xs ram ≡ ram
unfolding put_run
no_bytes m b at [] ram h = refl
no_bytes m b at (x ∷ xs) ram h = absurd (omega arith)

-- and of the bytes that do not fit only the first puts bits
pub first_byte : (m b at : ℕ) (xs ram : List ℕ) → 0 < length xs → length ram ≤ at + width_of m → put_run m b at xs ram ≡ put_bits 8 m b at (get_or xs 0 0) ram
first_byte m b at [] ram some edge = absurd (omega arith)
first_byte m b at (x ∷ xs) ram some edge = run-cut m b at x xs ram edge
