-- A run that begins one column earlier: what the functions that write whole bytes of packed columns promise.
-- `proofs/Stream.antt` proves a run from an odd column on equal to one from the even column before it.
use Rattle.std.specs.Prelude.{ℕ, ◌+◌, ◌-◌, ◌*◌, ◌/◌, ◌%◌, ◌^◌, List, [], ◌∷◌}
use Rattle.words.specs.Fields.{with_rows, field}

-- the eight bits that begin s bits before byte x, where byte p comes before it
unfoldable pub earlier : ℕ → ℕ → ℕ → ℕ
earlier s p x = (p * 256 + x) / 2 ^ s % 256

-- the bytes of a run, each s bits earlier, where byte p comes before the first
unfoldable pub stream : ℕ → ℕ → List ℕ → List ℕ
stream s p [] = []
stream s p (x ∷ xs) = earlier s p x ∷ stream s x xs

-- the rows that byte p gives its last column
abbrev pub ending : ℕ → ℕ → ℕ → ℕ → ℕ
ending m b p = with_rows b m (field p (8 - m) m)
