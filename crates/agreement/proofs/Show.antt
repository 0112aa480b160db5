-- The chips' pictures one after the other are the long picture, and their lit elements add up.
-- Assumes nothing.
use mathlib.Core.Path.{◌≡◌, refl, sym, ap, ap₂, ◌∙◌}
use mathlib.Core.Bool.{Bool, true, false, cond}
use mathlib.Core.List.{List, [], ◌∷◌, ◌++◌, map-append, append-nil}
use Prim.Native.Nat.{ℕ, zero, suc, ◌+◌, ◌*◌, ◌≤◌, ◌<◌}
use native.Mathlib.Nat.{mul-zero, suc-ne-zero}
use native.Mathlib.Omega.{arith}
use lib.Dec.{eqb}
use lib.Seq.{take-take}
use lib.ListN.{length, take, drop, replicate, length-drop, length-replicate, take-append-drop}
use lib.Seq.{length-take-le}
use borrow.Author.Tests.{lt-ltb, eq-eqb}
use Rattle.sheet.specs.declared.Registers.{Registers}
use Rattle.sheet.specs.declared.Chip.{Chip}
use Rattle.sheet.specs.declared.Chips.{Chips}
use Rattle.std.specs.Prelude.{Ok}
use Rattle.sheet.specs.Results.{Pictured}
use Rattle.sheet.specs.Parts.{Part}
use Rattle.sheet.specs.Protocol.{chips_in}
use Rattle.sheet.specs.Checks.{check_picture}
use Rattle.sheet.specs.Pictures.{picture_of, lit_in, Seen}
use Rattle.sheet.specs.Registers.{registers_of}
use Rattle.sheet.specs.Long.{State, columns_of, picture_call}
use Rattle.sheet.specs.Plain.{chip_fits, check_chip_picture, chip_picture_call}
use Rattle.sheet.specs.Agree.{group_chips, group_of, chips_of, Valid, chip_seen, lit_of, chip_pictures, chips_lit, with_address, Shows}
use Rattle.laws.proofs.Ranges.{InRange, in-range}
use Rattle.laws.proofs.Nibbles.{Nibbles, check-nibbles, take-nibbles, drop-nibbles}
use Rattle.laws.proofs.Fits.{fits-of}
use Rattle.laws.proofs.Lit.{lit_join}
use Rattle.agreement.proofs.Chips.{chip_at, own-columns}

-- what is seen of columns that are shown
abbrev seen_of : Registers → ℕ → List ℕ → Seen
seen_of r phase columns = record { result = Ok (lit_in (picture_of r phase columns)); out = picture_of r phase columns }

-- the chips' pictures and lit elements are those of columns that are shown
record Same (K : Part) (phase : ℕ) (chips : List Chip) (r : Registers) (columns : List ℕ) : Type 0 where
  picture : chip_pictures K phase chips ≡ picture_of r phase columns
  lit : chips_lit K phase chips ≡ lit_in (picture_of r phase columns)

module _ (K : Part) (g : ℕ) (r : Registers) (phase : ℕ) (pg : g < 2) (pp : phase < 2) (h : InRange K r) where
  -- the first C columns and the rest
  apart : (columns : List ℕ) → picture_of r phase (take K.columns columns) ++ picture_of r phase (drop K.columns columns) ≡ picture_of r phase columns
  unfolding picture_of
  apart columns = sym (map-append _ (take K.columns columns) (drop K.columns columns)) ∙ ap (λ (c : List ℕ). picture_of r phase c) (take-append-drop K.columns columns)

  -- no chip of the group is refused
  seen-alone : (i : ℕ) (columns : List ℕ) → i < K.limit → Nibbles columns → chip_seen K phase (chip_at g i r (take K.columns columns)) ≡ seen_of r phase (take K.columns columns)
  unfolding chip_picture_call check_chip_picture chip_fits
  seen-alone i columns l w =
      rw (lt-ltb g 2 pg, lt-ltb i K.limit l, in-range K r h, take-take K.columns K.columns columns (omega arith), check-nibbles 0 (take K.columns columns) (take-nibbles K.columns columns w), lt-ltb phase 2 pp, eq-eqb (length {A = ℕ} (replicate K.columns 0)) K.columns (length-replicate K.columns 0)) refl

  same_from : (n i : ℕ) (columns : List ℕ) → i + n ≤ K.limit → Nibbles columns → length columns ≡ K.columns * n → Same K phase (group_chips K n g i r columns) r columns
  unfolding group_chips picture_of lit_in
  same_from zero i [] l w e = record { picture = refl; lit = refl }
  same_from zero i (q ∷ qs) l w e = absurd (suc-ne-zero (length qs) (e ∙ mul-zero K.columns))
  same_from (suc n) i columns l w e =
      let rest = same_from n (suc i) (drop K.columns columns) (omega arith) (drop-nibbles K.columns columns w) (length-drop K.columns columns ∙ omega (arith, e)) in
      let first = seen-alone i columns (omega arith) w in
      record {
        picture = ap₂ (λ (k : Seen) (l : List ℕ). k.out ++ l) first rest.picture ∙ apart columns;
        lit =
            ap₂ (λ (k : Seen) (m : ℕ). lit_of k.result + m) first rest.lit
            ∙ sym (lit_join (picture_of r phase (take K.columns columns)) (picture_of r phase (drop K.columns columns)))
            ∙ ap lit_in (apart columns);
      }

  -- columns after the group's do not matter
  same-part : (n : ℕ) (columns : List ℕ) → n ≤ K.limit → Nibbles columns → K.columns * n ≤ length columns → Same K phase (group_chips K n g 0 r columns) r (take (K.columns * n) columns)
  same-part n columns l w e =
      let size = length-take-le (K.columns * n) columns e in
      let own : group_chips K n g 0 r columns ≡ group_chips K n g 0 r (take (K.columns * n) columns) =
      ap (group_chips K n g 0 r) (sym (take-append-drop (K.columns * n) columns)) ∙ own-columns K n g 0 r (take (K.columns * n) columns) (drop (K.columns * n) columns) size in
      rw own (same_from n 0 (take (K.columns * n) columns) (omega arith) (take-nibbles (K.columns * n) columns w) size)

-- no picture of a valid state is refused
seen-group : (K : Part) (n : Chips) (s : State) (g phase : ℕ) (out : List ℕ) → Valid K n s → g < 2 → phase < 2 → length out ≡ K.columns * chips_in g n
    → picture_call K n s.registers s.ram g phase out ≡ seen_of (registers_of g s.registers) phase (columns_of K n g s.ram)
unfolding picture_call check_picture
seen-group K n s g phase out v pg pp e = rw (v, lt-ltb g 2 pg, lt-ltb phase 2 pp, eq-eqb (length out) (K.columns * chips_in g n) e) refl

-- ---- the group's chips, among both groups'

with_join : (g : ℕ) (a b : List Chip) → with_address g (a ++ b) ≡ with_address g a ++ with_address g b
with_join g [] b = refl
with_join g (c ∷ cs) b = rw (with_join g cs b) (by-test (eqb c.sa0 g) (with_address g cs))
  where
    by-test : (t : Bool) (l : List Chip) → cond t (c ∷ (l ++ with_address g b)) (l ++ with_address g b) ≡ cond t (c ∷ l) l ++ with_address g b
    by-test true l = refl
    by-test false l = refl

with-own : (K : Part) (g n i : ℕ) (r : Registers) (columns : List ℕ) → with_address g (group_chips K n g i r columns) ≡ group_chips K n g i r columns
unfolding group_chips
with-own K g zero i r columns = refl
with-own K g (suc n) i r columns = rw (eq-eqb g g refl) (ap (λ (l : List Chip). chip_at g i r (take K.columns columns) ∷ l) (with-own K g n (suc i) r (drop K.columns columns)))

with-other : (K : Part) (g h n i : ℕ) (r : Registers) (columns : List ℕ) → eqb h g ≡ false → with_address g (group_chips K n h i r columns) ≡ []
unfolding group_chips
with-other K g h zero i r columns e = refl
with-other K g h (suc n) i r columns e = rw e (with-other K g h n (suc i) r (drop K.columns columns) e)

with-group : (K : Part) (n : Chips) (s : State) (g : ℕ) → g < 2 → with_address g (chips_of K n s) ≡ group_of K g n s
with-group K n s zero pg =
    with_join 0 (group_of K 0 n s) (group_of K 1 n s)
    ∙ ap₂ (λ (a b : List Chip). a ++ b) (with-own K 0 n.zero 0 s.registers.zero s.ram) (with-other K 0 1 n.one 0 s.registers.one (drop (K.columns * n.zero) s.ram) refl)
    ∙ append-nil (group_of K 0 n s)
with-group K n s (suc zero) pg =
    with_join 1 (group_of K 0 n s) (group_of K 1 n s)
    ∙ ap₂ (λ (a b : List Chip). a ++ b) (with-other K 1 0 n.zero 0 s.registers.zero s.ram refl) (with-own K 1 n.one 0 s.registers.one (drop (K.columns * n.zero) s.ram))
with-group K n s (suc (suc g)) pg = absurd (omega arith)

-- ---- the law

shows : (K : Part) (n : Chips) (s : State) (g phase : ℕ) (out : List ℕ) → Valid K n s → g < 2 → phase < 2 → length out ≡ K.columns * chips_in g n
    → Same K phase (group_of K g n s) (registers_of g s.registers) (columns_of K n g s.ram) → Shows K n s (chips_of K n s) g phase out
shows K n s g phase out v pg pp e same =
    let seen = seen-group K n s g phase out v pg pp e in
    let own = with-group K n s g pg in
    record {
      picture = ap (λ (k : Seen). k.out) seen ∙ sym same.picture ∙ ap (λ (cs : List Chip). chip_pictures K phase cs) (sym own);
      lit = ap (λ (k : Seen). k.result) seen ∙ ap Ok (sym same.lit) ∙ ap (λ (cs : List Chip). Ok (chips_lit K phase cs)) (sym own);
    }

pub show : (K : Part) (n : Chips) (s : State) (g phase : ℕ) (out : List ℕ) → Valid K n s → g < 2 → phase < 2 → length out ≡ K.columns * chips_in g n → Shows K n s (chips_of K n s) g phase out
show K n s zero phase out v pg pp e =
    let f = fits-of K n s.registers s.ram v in
    shows K n s zero phase out v pg pp e (same-part K 0 s.registers.zero phase pg pp f.zero_in n.zero s.ram f.zero-few f.nibbles (omega (arith, f.columns)))
show K n s (suc zero) phase out v pg pp e =
    let f = fits-of K n s.registers s.ram v in
    let rest = drop (K.columns * n.zero) s.ram in
    shows K n s 1 phase out v pg pp e
    (same-part K 1 s.registers.one phase pg pp f.one_in n.one rest f.one-few (drop-nibbles (K.columns * n.zero) s.ram f.nibbles) (omega (arith, length-drop (K.columns * n.zero) s.ram, f.columns)))
show K n s (suc (suc g)) phase out v pg pp e = absurd (omega arith)
