-- The digits of a number: those of its tenth, and the last one.
-- Assumes nothing.
use mathlib.Core.Path.{◌≡◌, ap}
use mathlib.Core.Logic.{⊎_elim}
use mathlib.Core.List.{List, [], ◌∷◌, ◌++◌}
use Prim.Native.Nat.{ℕ, zero, suc, ◌+◌, ◌/◌, ◌%◌, ◌≤◌, ◌<◌}
use native.Mathlib.Omega.{arith}
use borrow.Author.Tests.{lt-ltb, le-ltb}
use Rattle.lemmas.proofs.Order.{lt_or_le}
use Rattle.log_sheet.specs.Logs.{digits_in, decimal}

-- the bound does not matter if it is over the number
same_digits : (k j n : ℕ) → n < k → n < j → digits_in k n ≡ digits_in j n
unfolding digits_in
same_digits zero j n hk hj = absurd (omega arith)
same_digits (suc k) zero n hk hj = absurd (omega arith)
same_digits (suc k) (suc j) n hk hj =
    ⊎_elim
    (λ (l : n < 10). rw (lt-ltb n 10 l))
    (λ (l : 10 ≤ n). rw (le-ltb n 10 l) (ap (λ (d : List ℕ). d ++ ((48 + n % 10) ∷ [])) (same_digits k j (n / 10) (omega arith) (omega arith))))
    (lt_or_le n 10)

-- a number below ten
pub one-digit : (n : ℕ) → n < 10 → decimal n ≡ (48 + n) ∷ []
unfolding decimal digits_in
one-digit n h = rw (lt-ltb n 10 h)

-- any other
pub more-digits : (n : ℕ) → 10 ≤ n → decimal n ≡ decimal (n / 10) ++ ((48 + n % 10) ∷ [])
unfolding decimal digits_in
more-digits n h = rw (le-ltb n 10 h) (ap (λ (d : List ℕ). d ++ ((48 + n % 10) ∷ [])) (same_digits n (suc (n / 10)) (n / 10) (omega arith) (omega arith)))

-- for the tactics, which name no dash
pub ruleset digit = (one-digit)
