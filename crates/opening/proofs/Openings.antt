-- An opening: from a command to the next; and what is left after it has the faults, the outcome and the end of the whole.
-- Assumes nothing.
use mathlib.Core.Path.{◌≡◌, refl, sym, ap, subst, ◌∙◌}
use mathlib.Core.Bool.{Bool, true, false, cond, ◌&&◌, false≢true}
use mathlib.Core.List.{List, [], ◌∷◌}
use Prim.Native.Nat.{ℕ, suc, ◌+◌, ◌-◌, ◌≤◌, ◌<◌}
use native.Mathlib.Numerals.{add-one}
use native.Mathlib.Omega.{arith}
use lib.Dec.{eqb}
use lib.ListN.{length, get_or, drop, drop_of_length-le, length-drop}
use lib.Seq.{drop-drop}
use borrow.Author.Tests.{eqb-true, eq-eqb, ne_eqb}
use Rattle.lemmas.proofs.Lists.{next}
use Rattle.sheet.specs.declared.Registers.{Registers}
use Rattle.sheet.specs.declared.Chips.{Chips}
use Rattle.std.specs.Prelude.{Err, None, Some}
use Rattle.sheet.specs.Results.{Addressed, Check}
use Rattle.sheet.specs.declared.Expect.TheVariants.{Control, One, All}
use Rattle.sheet.specs.declared.Refusal.TheVariants.{UndefinedCommand}
use Rattle.sheet.specs.Parts.{Part}
use Rattle.sheet.specs.Registers.{in_range, lost_by}
use Rattle.sheet.specs.Commands.{defined, obeyed}
use Rattle.sheet.specs.Protocol.{heard_by, address_byte, control_of, next_after, Sent, cut, whole_of, cut_data, is_data}
use Rattle.sheet.specs.Checks.{or_else, fault_in, fault_of_sent}
use Rattle.sheet.specs.Long.{begun, heard, heard_whole}
use Rattle.sheet.specs.Agree.{Keeps}
use Rattle.opening.specs.Opened.{Opening, opens, opened, opened_at, heard_from}

-- ---- from place i on

module _ (K : Part) (r : Registers) (bytes : List ℕ) (i : ℕ) where
  two : i + 1 < length bytes → drop i bytes ≡ get_or bytes i 0 ∷ (get_or bytes (i + 1) 0 ∷ drop (i + 2) bytes)
  two h =
      let e : i + 1 + 1 ≡ i + 2 = omega arith in
      next bytes i (omega arith) ∙ ap (λ (xs : List ℕ). get_or bytes i 0 ∷ xs) (next bytes (i + 1) h ∙ ap (λ (n : ℕ). get_or bytes (i + 1) 0 ∷ drop n bytes) e)

  module _ (h : i + 1 < length bytes) where
    pub goes_on : get_or bytes i 0 ≡ 128 → defined (K.command (get_or bytes (i + 1) 0)) ≡ true
        → opened K r i (drop i bytes) ≡ opened K (obeyed r (K.command (get_or bytes (i + 1) 0))) (i + 2) (drop (i + 2) bytes)
    unfolding opened
    goes_on c d = rw (two h, eq-eqb _ 128 c, d)

    pub undefined-at : get_or bytes i 0 ≡ 128 → defined (K.command (get_or bytes (i + 1) 0)) ≡ false
        → opened K r i (drop i bytes) ≡ record { fault = Err (UndefinedCommand (i + 1)); registers = r; at = i }
    unfolding opened
    undefined-at c d = rw (two h, eq-eqb _ 128 c, d)

    pub other_at : (get_or bytes i 0 ≡ 128 → ⊥) → opened K r i (drop i bytes) ≡ opens r i
    unfolding opened
    other_at c = rw (two h, ne_eqb _ 128 c)

  -- where fewer than two bytes are left
  pub ends_at : length bytes - i < 2 → opened K r i (drop i bytes) ≡ opens r i
  unfolding opened
  ends_at h = go (drop i bytes) (subst (λ (n : ℕ). n < 2) (sym (length-drop i bytes)) h)
    where
      go : (xs : List ℕ) → length xs < 2 → opened K r i xs ≡ opens r i
      go [] m = refl
      go (x ∷ []) m = refl
      go (x ∷ (y ∷ xs)) m = absurd (omega arith)

-- ---- what is left

-- what holds where nothing opens, of a command that is undefined, and of a command before an opening of which it holds, holds of every opening
by-command : (K : Part) (P : Registers → ℕ → List ℕ → Opening → Type 0)
    → ((r : Registers) (i : ℕ) (xs : List ℕ) → P r i xs (opens r i))
    → ((r : Registers) (i x : ℕ) (xs : List ℕ) → defined (K.command x) ≡ false → P r i (128 ∷ (x ∷ xs)) (record { fault = Err (UndefinedCommand (i + 1)); registers = r; at = i }))
    → ((r : Registers) (i x : ℕ) (xs : List ℕ) (o : Opening) → defined (K.command x) ≡ true → P (obeyed r (K.command x)) (i + 2) xs o → P r i (128 ∷ (x ∷ xs)) o)
    → (r : Registers) (i : ℕ) (xs : List ℕ) → P r i xs (opened K r i xs)
unfolding opened
by-command K P none undefined step r i [] = none r i []
by-command K P none undefined step r i (c ∷ []) = none r i (c ∷ [])
by-command K P none undefined step r i (c ∷ (x ∷ xs)) = go (eqb c 128) (defined (K.command x)) refl refl (by-command K P none undefined step (obeyed r (K.command x)) (i + 2) xs)
  where
    o : Opening
    o = opened K (obeyed r (K.command x)) (i + 2) xs

    go : (s t : Bool) → eqb c 128 ≡ s → defined (K.command x) ≡ t → P (obeyed r (K.command x)) (i + 2) xs o → P r i (c ∷ (x ∷ xs)) (cond s (cond t o (record { fault = Err (UndefinedCommand (i + 1)); registers = r; at = i })) (opens r i))
    go true true e d h = subst (λ (b : ℕ). P r i (b ∷ (x ∷ xs)) o) (sym (eqb-true c 128 e)) (step r i x xs o d h)
    go true false e d h = subst (λ (b : ℕ). P r i (b ∷ (x ∷ xs)) (record { fault = Err (UndefinedCommand (i + 1)); registers = r; at = i })) (sym (eqb-true c 128 e)) (undefined r i x xs d)
    go false t e d h = none r i (c ∷ (x ∷ xs))

record Leaves (K : Part) (r : Registers) (i : ℕ) (xs : List ℕ) (o : Opening) : Type 0 where
  from : i ≤ o.at
  most : o.at ≤ i + length xs
  fault : (cut : Bool) → fault_in K cut r.unknown Control i xs ≡ or_else o.fault (fault_in K cut o.registers.unknown Control o.at (drop (o.at - i) xs))
  group : (ram : List ℕ) → heard K Control xs (opened_at i r ram) ≡ heard K Control (drop (o.at - i) xs) (opened_at o.at o.registers ram)
  then : next_after Control xs ≡ next_after Control (drop (o.at - i) xs)

leaves : (K : Part) (r : Registers) (i : ℕ) (xs : List ℕ) → Leaves K r i xs (opened K r i xs)
unfolding fault_in heard control_of
leaves K = by-command K (Leaves K) none undefined step
  where
    none : (r : Registers) (i : ℕ) (xs : List ℕ) → Leaves K r i xs (opens r i)
    none r i xs =
        let all : i - i ≡ 0 = omega arith in
        record { from = omega arith; most = omega arith; fault = λ cut. rw all; group = λ ram. rw all; then = rw all }

    undefined : (r : Registers) (i x : ℕ) (xs : List ℕ) → defined (K.command x) ≡ false → Leaves K r i (128 ∷ (x ∷ xs)) (record { fault = Err (UndefinedCommand (i + 1)); registers = r; at = i })
    undefined r i x xs d =
        let all : i - i ≡ 0 = omega arith in
        record { from = omega arith; most = omega arith; fault = λ cut. rw (d, add-one i); group = λ ram. rw all; then = rw all }

    step : (r : Registers) (i x : ℕ) (xs : List ℕ) (o : Opening) → defined (K.command x) ≡ true → Leaves K (obeyed r (K.command x)) (i + 2) xs o → Leaves K r i (128 ∷ (x ∷ xs)) o
    step r i x xs o d h =
        let both : o.at - i ≡ suc (suc (o.at - (i + 2))) = omega (arith, h.from) in
        let second : i + 1 + 1 ≡ i + 2 = omega arith in
        let third : suc (suc i) ≡ i + 2 = omega arith in
        record {
          from = omega (arith, h.from);
          most = omega (arith, h.most);
          fault = λ cut. rw (d, third, both) (h.fault cut);
          group = λ ram. rw (second, both) (h.group ram);
          then = rw both h.then;
        }

-- the registers stay in range
pub opened-kept : (K : Part) → Keeps K → (r : Registers) (i : ℕ) (xs : List ℕ) → in_range K r ≡ true → in_range K (opened K r i xs).registers ≡ true
opened-kept K keeps =
    by-command K (λ r i xs o. in_range K r ≡ true → in_range K o.registers ≡ true) (λ r i xs e. e) (λ r i x xs d e. e) (λ r i x xs o d h e. h (keeps r x e))

-- ---- of a whole transfer, of which byte 0 came

pub record Opens (K : Part) (before : Registers) (t : Sent) (o : Opening) : Type 0 where
  pub some : 0 < o.at
  pub most : o.at ≤ length (whole_of t)
  pub fault : fault_of_sent K before.unknown t ≡ or_else o.fault (fault_in K (cut t) o.registers.unknown Control o.at (drop o.at (whole_of t)))
  pub group : (ram : List ℕ) → heard_from K t o.at o.registers ram ≡ heard_whole K t (begun before ram)

pub opens-whole : (K : Part) (before : Registers) (t : Sent) (o : Opening) → 0 < length (whole_of t) → o ≡ opened K before 1 (drop 1 (whole_of t)) → Opens K before t o
unfolding cut_data
opens-whole K before t o h e =
    let l : Leaves K before 1 (drop 1 (whole_of t)) o = subst (Leaves K before 1 (drop 1 (whole_of t))) (sym e) (leaves K before 1 (drop 1 (whole_of t))) in
    let place : 1 + (o.at - 1) ≡ o.at = omega (arith, l.from) in
    let rest : drop (o.at - 1) (drop 1 (whole_of t)) ≡ drop o.at (whole_of t) = drop-drop (o.at - 1) 1 (whole_of t) ∙ ap (λ (n : ℕ). drop n (whole_of t)) place in
    record {
      some = omega (arith, l.from);
      most = omega (arith, l.most, length-drop 1 (whole_of t));
      fault = l.fault (cut t) ∙ ap (λ (xs : List ℕ). or_else o.fault (fault_in K (cut t) o.registers.unknown Control o.at xs)) rest;
      group = λ ram.
          let left : heard K Control (drop o.at (whole_of t)) (opened_at o.at o.registers ram) ≡ heard K Control (drop 1 (whole_of t)) (begun before ram) =
          sym (l.group ram ∙ ap (λ (xs : List ℕ). heard K Control xs (opened_at o.at o.registers ram)) rest) in
          let then : next_after Control (drop o.at (whole_of t)) ≡ next_after Control (drop 1 (whole_of t)) = sym (l.then ∙ ap (next_after Control) rest) in
          λ j. record { registers = lost_by (cut t && is_data (then j)) (left j).registers; ram = (left j).ram; counts = (left j).counts; last = (left j).last };
    }

-- a transfer that a group hears has a byte 0
pub hearer_some : (n : Chips) (t : Sent) (g : ℕ) → heard_by n (address_byte t) ≡ Some g → 0 < length (whole_of t)
unfolding heard_by
hearer_some n t g e = go (whole_of t) e
  where
    nobody : Addressed → Bool
    nobody (Some h) = false
    nobody None = true

    go : (xs : List ℕ) → heard_by n (get_or xs 0 0) ≡ Some g → 0 < length xs
    go [] e = absurd (false≢true (sym (ap nobody e)))
    go (x ∷ xs) e = omega arith
