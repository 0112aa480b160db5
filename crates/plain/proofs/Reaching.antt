-- A turn that changes no chip need not go along the list.
-- Assumes nothing.
use mathlib.Core.Path.{◌≡◌, refl, sym, ap₂, ◌∙◌}
use mathlib.Core.Logic.{◌⊎◌, inl, inr}
use mathlib.Core.Bool.{Bool, true, false, cond}
use mathlib.Core.List.{List, [], ◌∷◌, map}
use Prim.Native.Nat.{ℕ, ◌<◌, ◌≤◌}
use native.Mathlib.Nat.{le_refl}
use native.Mathlib.Omega.{arith}
use lib.ListN.{length}
use borrow.Author.Tests.{lt-ltb, le-ltb}
use Rattle.lemmas.proofs.Order.{lt_or_le}
use Rattle.walks.proofs.Firsts.{first_of, first-all}
use Rattle.sheet.specs.declared.Chip.{Chip}
use Rattle.sheet.specs.declared.Expect.{Expect}
use Rattle.sheet.specs.declared.Expect.TheVariants.{Control, One, All}
use Rattle.sheet.specs.Parts.{part_of}
use Rattle.sheet.specs.Registers.{in_range}
use Rattle.sheet.specs.Protocol.{is_data}
use Rattle.sheet.specs.Plain.{hears, chip_byte, chip_lost}
use Rattle.turns.specs.declared.BusByte.{BusByte}
use Rattle.turns.specs.declared.Turn.{Turn}
use Rattle.turns.specs.Asking.{taken}
use Rattle.turns.specs.Turns.{taken_by, reach_of}

-- a control byte changes no chip
still : (h : BusByte) (c : Chip) → h.expect ≡ Control → taken h c ≡ c
still h c e =
    (λ j. cond (hears h.address c) (cond h.cut (chip_lost (is_data (e j)) c) (cond (in_range (part_of h.part) c.registers) (chip_byte (part_of h.part) (e j) h.byte c) c)) c)
    ∙ go (hears h.address c) h.cut (in_range (part_of h.part) c.registers)
  where
    go : (t cut u : Bool) → cond t (cond cut (chip_lost false c) (cond u c c)) c ≡ c
    go true true u = refl
    go true false true = refl
    go true false false = refl
    go false cut u = refl

module _ (bytes : List ℕ) (t : Turn) (n : ℕ) (xs : List Chip) where
  all-still : t.heard.expect ≡ Control → n < 2 → (ys : List Chip) → ys ≡ map (taken_by bytes t n) ys
  all-still e l [] = refl
  all-still e l (c ∷ cs) = ap₂ (λ (d : Chip) (ds : List Chip). d ∷ ds) (sym (rw (lt-ltb n 2 l) (still t.heard c e))) (all-still e l cs)

  -- as many as it changes are all, or none need be changed
  pub record Reached (k : ℕ) : Type 0 where
    pub within : k ≤ length xs
    pub all : first_of (taken_by bytes t n) k xs ≡ map (taken_by bytes t n) xs

  to_the_end : Reached (length xs)
  to_the_end = record { within = le_refl (length xs); all = first-all (taken_by bytes t n) xs }

  pub reached : Reached (reach_of t.heard.expect n (length xs))
  reached = by_expect t.heard.expect refl
    where
      by_count : t.heard.expect ≡ Control → (n < 2) ⊎ (2 ≤ n) → Reached (reach_of Control n (length xs))
      by_count e (inl l) = rw (lt-ltb n 2 l) (record { within = omega arith; all = all-still e l xs })
      by_count e (inr l) = rw (le-ltb n 2 l) to_the_end

      by_expect : (e : Expect) → t.heard.expect ≡ e → Reached (reach_of e n (length xs))
      by_expect Control e = by_count e (lt_or_le n 2)
      by_expect (One k) e = to_the_end
      by_expect (All k) e = to_the_end
