-- Where the sizes are right, what a call gave and its numbers that are put are the definition's.
-- Assumes nothing.
use mathlib.Core.Path.{◌≡◌}
use mathlib.Core.Bool.{Bool, true, ◌&&◌}
use mathlib.Core.List.{List}
use Prim.Native.Nat.{ℕ}
use lib.Dec.{eqb}
use lib.ListN.{length, get_or}
use Rattle.lent_long.specs.LongCalls.{said_c}

pub said : (whole : Bool) (buffer answer : List ℕ) {numbers ns last after put : List ℕ} {n : ℕ} → (whole && eqb (length answer) 6) ≡ true → ns ≡ numbers → last ≡ after
    → (n ≡ get_or ns 0 0) × (put ≡ ns) → said_c whole numbers after buffer answer ≡ record { number = n; buffer = last; answer = put }
said whole buffer answer e en el p = rw (e, p.0, p.1, en, el)
