-- Twelve bytes of registers: kept as words and taken back, and with some of them made others.
-- Assumes nothing.
use mathlib.Core.Path.{◌≡◌, refl, sym, ap, subst, ◌∙◌}
use mathlib.Core.List.{List, [], ◌∷◌}
use Prim.Native.Nat.{ℕ, ◌+◌, ◌-◌, ◌*◌, ◌%◌, ◌<◌}
use native.Mathlib.Omega.{arith}
use lib.ListN.{length, get_or, set}
use Rattle.sheet.specs.declared.Settings.{Settings}
use Rattle.sheet.specs.declared.Command.{Command}
use Rattle.sheet.specs.declared.Command.TheVariants.{PointerHigh, PointerLow, Pointer, ModeSet, DeviceSelect, BlinkSelect, BankSelect}
use Rattle.sheet.specs.Commands.{obeyed}
use Rattle.words.specs.Fields.{column_of, joined, laid}
use Rattle.words.proofs.Words.{column-joined}
use Rattle.wire.specs.Bytes.{registers_in}
use Rattle.wire.proofs.Parts.{firsts, firsts-all}
use Rattle.lent_opening.specs.declared.Kept.{Kept}
use Rattle.lent_opening.specs.Held.{held_in}

-- what holds of twelve bytes that are written out, holds of a list of twelve
pub by-twelve : (P : List ℕ → Type 0) (l : List ℕ) → length l ≡ 12 → P (firsts 12 l) → P l
by-twelve P l e p = subst P (firsts-all 12 l e) p

-- the words of twelve bytes hold them
pub held : (l : List ℕ) → length l ≡ 12 → ((i : ℕ) → get_or l i 0 < 256)
    → held_in (record { first = joined 4 (λ j. get_or l (0 + j) 0); second = joined 4 (λ j. get_or l (4 + j) 0); third = joined 4 (λ j. get_or l (8 + j) 0) }) ≡ l
held l e w =
    (λ i. word 0 0 (omega arith) i ∷ word 0 1 (omega arith) i ∷ word 0 2 (omega arith) i ∷ word 0 3 (omega arith) i
    ∷ word 4 0 (omega arith) i ∷ word 4 1 (omega arith) i ∷ word 4 2 (omega arith) i ∷ word 4 3 (omega arith) i
    ∷ word 8 0 (omega arith) i ∷ word 8 1 (omega arith) i ∷ word 8 2 (omega arith) i ∷ word 8 3 (omega arith) i ∷ [])
    ∙ firsts-all 12 l e
  where
    word : (at j : ℕ) → j < 4 → column_of (joined 4 (λ i. get_or l (at + i) 0)) j ≡ get_or l (at + j) 0
    word at j h = column-joined 4 (λ i. get_or l (at + i) 0) (λ i. w (at + i)) j h

-- and are stored over any twelve
pub stored : (k : Kept) (l : List ℕ) → length l ≡ 12 → laid 4 k.third 8 (laid 4 k.second 4 (laid 4 k.first 0 l)) ≡ held_in k
unfolding laid
stored k l e = by-twelve (λ l. laid 4 k.third 8 (laid 4 k.second 4 (laid 4 k.first 0 l)) ≡ held_in k) l e refl

-- ---- a command in them

-- twelve bytes that are the registers after a command
pub record Obeys (l : List ℕ) (k : Command) (after : List ℕ) : Type 0 where
  pub registers : registers_in after ≡ obeyed (registers_in l) k
  pub twelve : length after ≡ 12

pub obeys_told : {l after : List ℕ} {k told : Command} → k ≡ told → Obeys l told after → (registers_in after ≡ obeyed (registers_in l) k) × (length after ≡ 12)
obeys_told {l} e h = (h.registers ∙ sym (ap (obeyed (registers_in l)) e), h.twelve)

pub pointer-high : (l : List ℕ) → length l ≡ 12 → (n : ℕ) → Obeys l (PointerHigh n) (set (set l 3 (16 * n + get_or l 3 0 % 16)) 9 0)
pointer-high l e n = by-twelve (λ l. Obeys l (PointerHigh n) (set (set l 3 (16 * n + get_or l 3 0 % 16)) 9 0)) l e (record { registers = refl; twelve = refl })

pub pointer-low : (l : List ℕ) → length l ≡ 12 → (n : ℕ) → Obeys l (PointerLow n) (set (set l 3 (get_or l 3 0 - get_or l 3 0 % 16 + n)) 10 0)
pointer-low l e n = by-twelve (λ l. Obeys l (PointerLow n) (set (set l 3 (get_or l 3 0 - get_or l 3 0 % 16 + n)) 10 0)) l e (record { registers = refl; twelve = refl })

pub pointer : (l : List ℕ) → length l ≡ 12 → (p : ℕ) → Obeys l (Pointer p) (set (set (set l 3 p) 9 0) 10 0)
pointer l e p = by-twelve (λ l. Obeys l (Pointer p) (set (set (set l 3 p) 9 0) 10 0)) l e (record { registers = refl; twelve = refl })

pub mode-set : (l : List ℕ) → length l ≡ 12 → (s : Settings) → Obeys l (ModeSet s) (set (set (set l 0 s.e) 1 s.b) 2 s.m)
mode-set l e s = by-twelve (λ l. Obeys l (ModeSet s) (set (set (set l 0 s.e) 1 s.b) 2 s.m)) l e (record { registers = refl; twelve = refl })

pub device-select : (l : List ℕ) → length l ≡ 12 → (n : ℕ) → Obeys l (DeviceSelect n) (set (set l 4 n) 11 0)
device-select l e n = by-twelve (λ l. Obeys l (DeviceSelect n) (set (set l 4 n) 11 0)) l e (record { registers = refl; twelve = refl })

pub blink-select : (l : List ℕ) → length l ≡ 12 → (ab bf : ℕ) → Obeys l (BlinkSelect ab bf) (set (set l 7 ab) 8 bf)
blink-select l e ab bf = by-twelve (λ l. Obeys l (BlinkSelect ab bf) (set (set l 7 ab) 8 bf)) l e (record { registers = refl; twelve = refl })

pub bank-select : (l : List ℕ) → length l ≡ 12 → (i o : ℕ) → Obeys l (BankSelect i o) (set (set l 5 i) 6 o)
bank-select l e i o = by-twelve (λ l. Obeys l (BankSelect i o) (set (set l 5 i) 6 o)) l e (record { registers = refl; twelve = refl })
