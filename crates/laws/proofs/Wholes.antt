-- The whole bytes of a transfer as a part of its bytes: so many from the first on.
-- Assumes nothing.
use mathlib.Core.Path.{◌≡◌, refl}
use mathlib.Core.Bool.{Bool, true, false, cond}
use mathlib.Core.List.{List}
use Prim.Native.Nat.{ℕ, ◌-◌, ◌≤◌}
use native.Mathlib.Nat.{le_refl}
use native.Mathlib.Omega.{arith}
use lib.Dec.{ltb}
use lib.ListN.{length, take}
use lib.Seq.{take_all}
use Rattle.sheet.specs.Protocol.{sent, whole_count, whole_of}

pub whole-most : (size bits : ℕ) → whole_count size bits ≤ size
whole-most size bits = go (ltb bits 8)
  where
    go : (b : Bool) → cond b (size - 1) size ≤ size
    go true = omega arith
    go false = omega arith

pub whole-taken : (bytes : List ℕ) (bits : ℕ) → take (whole_count (length bytes) bits) bytes ≡ whole_of (sent bytes bits)
unfolding whole_of
whole-taken bytes bits = go (ltb bits 8)
  where
    go : (b : Bool) → take (cond b (length bytes - 1) (length bytes)) bytes ≡ cond b (take (length bytes - 1) bytes) bytes
    go true = refl
    go false = take_all (length bytes) bytes (le_refl (length bytes))
