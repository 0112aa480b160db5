-- What the chips make of the bytes that are left, the last of which is cut or not, is what the sheet says of the whole ones and of the one that is cut.
-- Assumes nothing.
use mathlib.Core.Path.{◌≡◌, refl, sym, ap, ◌∙◌}
use mathlib.Core.Bool.{Bool, true, false, cond, ◌&&◌}
use mathlib.Core.List.{List, [], ◌∷◌, map}
use Prim.Native.Nat.{ℕ, suc, ◌-◌}
use native.Mathlib.Omega.{arith}
use lib.Dec.{leb-suc-zero}
use lib.ListN.{length, take, drop}
use Rattle.sheet.specs.declared.Chip.{Chip}
use Rattle.sheet.specs.declared.Expect.{Expect}
use Rattle.sheet.specs.declared.Expect.TheVariants.{Control}
use Rattle.sheet.specs.Parts.{Part}
use Rattle.sheet.specs.Protocol.{next, next_after, is_data, Sent, cut, whole_of, cut_data}
use Rattle.sheet.specs.Plain.{hears, chip_lost, chip_ended, Plain, plain_heard, plain_whole}
use Rattle.turns.specs.Turns.{lost_to, plain_left}

-- chips that lose nothing
kept : (address : ℕ) (cs : List Chip) → map (chip_ended address false) cs ≡ cs
kept address [] = refl
kept address (c ∷ cs) = λ j. go (hears address c) j ∷ kept address cs j
  where
    go : (b : Bool) → cond b (chip_lost false c) c ≡ c
    go true = refl
    go false = refl

module _ (K : Part) (address : ℕ) where
  -- all are whole
  left-whole : (e : Expect) (xs : List ℕ) (s : Plain) → plain_left K address false e xs s ≡ plain_heard K address e xs s
  unfolding plain_left plain_heard
  left-whole e [] s = refl
  left-whole e (x ∷ xs) s = left-whole (next e x) xs _

  -- the last is cut
  left_cut : (e : Expect) (x : ℕ) (xs : List ℕ) (s : Plain)
      → plain_left K address true e (x ∷ xs) s ≡ lost_to address (next_after e (take (length xs) (x ∷ xs))) (plain_heard K address e (take (length xs) (x ∷ xs)) s)
  unfolding plain_left plain_heard
  left_cut e x [] s = refl
  left_cut e x (y ∷ ys) s = rw (leb-suc-zero (length ys)) (left_cut (next e x) y ys _)

-- ---- the bytes after the address

module _ (K : Part) (address : ℕ) (s : Plain) where
  -- what the whole bytes make of them, and the one that is cut, if there is one
  abbrev made : Bool → List ℕ → Plain
  made cut whole =
      let h = plain_heard K address Control (drop 1 whole) s in
      record { acknowledged = h.acknowledged; last = h.last; chips = map (chip_ended address (cut && is_data (next_after Control (drop 1 whole)))) h.chips }

  none-lost : (h : Plain) → h ≡ record { acknowledged = h.acknowledged; last = h.last; chips = map (chip_ended address false) h.chips }
  none-lost h = λ j. record { acknowledged = h.acknowledged; last = h.last; chips = sym (kept address h.chips) j }

  cut-made : (bytes : List ℕ) → plain_left K address true Control (drop 1 bytes) s ≡ made true (take (length bytes - 1) bytes)
  unfolding plain_left plain_heard
  cut-made [] = none-lost s
  cut-made (b ∷ []) = none-lost s
  cut-made (b ∷ x ∷ xs) =
      let one_less : suc (length xs) ≡ suc (suc (length xs)) - 1 = omega arith in
      left_cut K address Control x xs s ∙ ap (λ (n : ℕ). made true (take n (b ∷ x ∷ xs))) one_less

  pub left_is : (t : Sent) → plain_left K address (cut t) Control (drop 1 t.bytes) s ≡ plain_whole K address t s
  unfolding whole_of cut_data
  left_is t = go (cut t)
    where
      go : (b : Bool) → plain_left K address b Control (drop 1 t.bytes) s ≡ made b (cond b (take (length t.bytes - 1) t.bytes) t.bytes)
      go true = cut-made t.bytes
      go false = left-whole K address Control (drop 1 t.bytes) s ∙ none-lost (plain_heard K address Control (drop 1 t.bytes) s)
