-- What a row of a column is worth, up to the row after the last.
-- Assumes nothing.
use mathlib.Core.Path.{◌≡◌, refl}
use Prim.Native.Nat.{ℕ, zero, suc, ◌+◌, ◌*◌, ◌/◌, ◌%◌, ◌^◌, ◌<◌}
use native.Mathlib.Omega.{arith}

-- row n is worth a power of two; a column q with what is below that row replaced is a byte
pub record Worth (n q : ℕ) : Type 0 where
  pub exact : 1 * 2 ^ n % 256 ≡ 2 ^ n
  pub kept : (rest : ℕ) → rest < 2 ^ n → q / 2 ^ n * 2 ^ n + rest < 256

pub worth : (n q : ℕ) → n < 5 → q < 256 → Worth n q
worth zero q h l = record { exact = refl; kept = λ rest s. omega arith }
worth (suc zero) q h l = record { exact = refl; kept = λ rest s. omega arith }
worth (suc (suc zero)) q h l = record { exact = refl; kept = λ rest s. omega arith }
worth (suc (suc (suc zero))) q h l = record { exact = refl; kept = λ rest s. omega arith }
worth (suc (suc (suc (suc zero)))) q h l = record { exact = refl; kept = λ rest s. omega arith }
worth (suc (suc (suc (suc (suc n))))) q h l = omega arith
