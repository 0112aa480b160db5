-- How long lines are, by the digits of their numbers.
-- Assumes nothing.
use mathlib.Core.Path.{◌≡◌, refl, sym, ap, ◌∙◌}
use mathlib.Core.Logic.{⊎_elim}
use mathlib.Core.List.{List, [], ◌∷◌, ◌++◌, append_assoc}
use Prim.Native.Nat.{ℕ, zero, suc, ◌+◌, ◌*◌, ◌/◌, ◌%◌, ◌^◌, ◌≤◌, ◌<◌}
use native.Mathlib.Nat.{pow-suc}
use native.Mathlib.Omega.{arith}
use lib.ListN.{length, length-append}
use Rattle.lemmas.proofs.Order.{lt_or_le}
use Rattle.text.proofs.Decimals.{one-digit, more-digits}
use Rattle.log_sheet.specs.Logs.{decimal, spaced, line}

-- a number below a power of ten has no more digits than the power
decimal-few : (k n : ℕ) → n < 10 ^ suc k → length (decimal n) ≤ suc k
decimal-few zero n h = omega (arith, ap length (one-digit n h))
decimal-few (suc k) n h =
    ⊎_elim
    (λ (l : n < 10). omega (arith, ap length (one-digit n l)))
    (λ (l : 10 ≤ n). omega (arith, ap length (more-digits n l), length-append (decimal (n / 10)) ((48 + n % 10) ∷ []), decimal-few k (n / 10) (omega (arith, pow-suc 10 (suc k)))))
    (lt_or_le n 10)

-- every number has k + 1 digits at most
abbrev pub Below : ℕ → List ℕ → Type 0
Below k [] = Unit {0}
Below k (n ∷ ns) = (n < 10 ^ suc k) × Below k ns

-- below 100,000
abbrev pub Small : List ℕ → Type 0
Small ns = Below 4 ns

spaced-append : (ns ms : List ℕ) → spaced (ns ++ ms) ≡ spaced ns ++ spaced ms
unfolding spaced
spaced-append [] ms = refl
spaced-append (n ∷ ns) ms = ap (λ (l : List ℕ). 32 ∷ l) (ap (λ (l : List ℕ). decimal n ++ l) (spaced-append ns ms) ∙ sym (append_assoc (decimal n) (spaced ns) (spaced ms)))

-- a space and the digits, a number
pub spaced-few : (k : ℕ) (ns : List ℕ) → Below k ns → length (spaced ns) ≤ (k + 2) * length ns
unfolding spaced
spaced-few k [] s = omega arith
spaced-few k (n ∷ ns) s = omega (arith, length-append (decimal n) (spaced ns), decimal-few k n s.0, spaced-few k ns s.1)

-- and the letter and LF
pub line-few : (letter : ℕ) (ns : List ℕ) → Small ns → length (line letter ns) ≤ 6 * length ns + 2
line-few letter ns s = omega (arith, length-append (spaced ns) (10 ∷ []), spaced-few 4 ns s)

-- one number of one digit more
pub line-last : (letter : ℕ) (ns : List ℕ) (last : ℕ) → Small ns → last < 10 → length (line letter (ns ++ (last ∷ []))) ≤ 6 * length ns + 4
line-last letter ns last s h =
    omega
    (arith, length-append (spaced (ns ++ (last ∷ []))) (10 ∷ []), ap length (spaced-append ns (last ∷ [])), length-append (spaced ns) (spaced (last ∷ [])), spaced-few 4 ns s, spaced-few 0 (last ∷ []) (omega arith))

-- a small number and six of one digit
pub line-short : (letter n : ℕ) (ns : List ℕ) → n < 100000 → Below 0 ns → length ns ≡ 6 → length (line letter (n ∷ ns)) ≤ 20
unfolding spaced
line-short letter n ns h s e =
    omega (arith, length-append (spaced (n ∷ ns)) (10 ∷ []), length-append (decimal n) (spaced ns), decimal-few 4 n h, spaced-few 0 ns s)
