-- The first i columns are written and counted; then one more, or all up to another place.
-- Assumes nothing.
use mathlib.Core.Path.{◌≡◌, refl, sym, ap, ap₂, ◌∙◌}
use mathlib.Core.List.{List, [], ◌∷◌, ◌++◌, map, map-append}
use Prim.Native.Nat.{ℕ, zero, suc, ◌+◌, ◌-◌, ◌*◌, ◌/◌, ◌^◌, ◌≤◌, ◌<◌}
use native.Mathlib.Nat.{mod-lt, mul-le-mul_left, mul-le-mul_right}
use native.Mathlib.Numerals.{add-one}
use native.Mathlib.Omega.{arith}
use lib.Count.{ones}
use lib.ListN.{length, get_or, set, take, drop, length-take, length-drop, length-append, length-map}
use lib.Pow.{pow_pos, pow_mono}
use lib.Seq.{take-suc, take_all, take-add, take-take, take_at, take-append-add, length-take-le}
use Rattle.lemmas.proofs.Lists.{drop-take}
use Rattle.lemmas.proofs.Mapped.{Mapped, mapped-one, mapped-all}
use Rattle.std.specs.Prelude.{Some}
use Rattle.sheet.specs.Pictures as pictures
use Rattle.laws.proofs.Lit.{lit_join, few-lit}
use Rattle.picture.specs.Drawn.{rows_of, Drawn, drawn, Low}

pub record Drawing (first height : ℕ) (columns out : List ℕ) (lit i : ℕ) : Type 0 where
  pub mapped : Mapped (pictures.lit height (Some first)) columns out i
  pub counted : lit ≡ pictures.lit_in (rows_of first height (take i columns))

-- the elements before end are those before i and the part from i to end
up_to : (l : List ℕ) (i end : ℕ) → i ≤ end → take end l ≡ take i l ++ take (end - i) (drop i l)
up_to l i end le =
    let e : end ≡ i + (end - i) = omega arith in
    ap (λ (k : ℕ). take k l) e ∙ take-add i (end - i) l

-- ---- writing

-- a part of what f makes is what f makes of the part
first_of : (f : ℕ → ℕ) (n : ℕ) (l : List ℕ) → take n (map f l) ≡ map f (take n l)
first_of f zero l = refl
first_of f (suc n) [] = refl
first_of f (suc n) (x ∷ l) = ap (λ (r : List ℕ). f x ∷ r) (first_of f n l)

rest_of : (f : ℕ → ℕ) (n : ℕ) (l : List ℕ) → drop n (map f l) ≡ map f (drop n l)
rest_of f zero l = refl
rest_of f (suc n) [] = refl
rest_of f (suc n) (x ∷ l) = rest_of f n l

module _ {f : ℕ → ℕ} {from to : List ℕ} where
  -- two columns more, of one byte
  pub pair_turn : {p q : ℕ} (i : ℕ) → Mapped f from to (2 * i) → 2 * i + 1 < length from → p ≡ f (get_or from (2 * i) 0) → q ≡ f (get_or from (2 * i + 1) 0)
      → Mapped f from (set (set to (2 * i) p) (2 * i + 1) q) (2 * (i + 1))
  pair_turn i d h ep eq =
      let next : 2 * (i + 1) ≡ 2 * i + 1 + 1 = omega arith in
      rw next (mapped-one _ _ _ _ _ h eq (mapped-one _ _ _ _ _ (omega arith) ep d))

  -- all up to another place
  pub written-turn : {some : List ℕ} (i end : ℕ) → Mapped f from to i → i ≤ end → end ≤ length from → some ≡ map f (take (end - i) (drop i from))
      → Mapped f from (take i to ++ (some ++ drop (end - i) (drop i to))) end
  written-turn i end d le most e =
      let part = take (end - i) (drop i from) in
      let rest = drop (end - i) (drop i to) in
      let long = length-take-le i to (omega (arith, d.size)) in
      let size : length (map f part) ≡ end - i = length-map part f ∙ length-take (end - i) (drop i from) ∙ omega (arith, length-drop i from) in
      rw e
      (record {
        size = length-append (take i to) (map f part ++ rest) ∙ omega (arith, long, size, length-append (map f part) rest, length-drop (end - i) (drop i to), length-drop i to, d.size);
        so_far =
            sym (ap (λ (k : ℕ). take k (take i to ++ (map f part ++ rest))) {x = length (take i to) + (end - i)} {y = end} (omega (arith, long)))
            ∙ take-append-add (take i to) (map f part ++ rest) (end - i)
            ∙ ap₂ (λ (a b : List ℕ). a ++ b) d.so_far (take_at (map f part) rest (end - i) size)
            ∙ sym (map-append f (take i from) part)
            ∙ ap (map f) (sym (up_to from i end le));
      })

  -- a part of what is written
  pub written-part : {n : ℕ} (i end : ℕ) → Mapped f from to n → i ≤ end → end ≤ n → take (end - i) (drop i to) ≡ map f (take (end - i) (drop i from))
  written-part {n} i end d le most =
      sym (drop-take i end to le)
      ∙ ap (drop i) (sym (take-take end n to most) ∙ ap (take end) d.so_far ∙ first_of f end (take n from) ∙ ap (map f) (take-take end n from most))
      ∙ rest_of f i (take end from)
      ∙ ap (map f) (drop-take i end from le)

-- ---- counting

-- what is shown of a column is at most four rows of it
pub rows-low : (first height : ℕ) (columns : List ℕ) → height < 5 → Low (rows_of first height columns)
rows-low first height [] h i = omega arith
rows-low first height (q ∷ qs) h zero = omega (arith, mod-lt (q / 2 ^ first) (pow_pos height), pow_mono {i = height} {j = 4} (omega arith))
rows-low first height (q ∷ qs) h (suc i) = rows-low first height qs h i

-- a column more
pub one-lit : {lit : ℕ} (i : ℕ) (columns : List ℕ) → i < length columns → lit ≡ pictures.lit_in (take i columns)
    → lit + ones (get_or columns i 0) ≡ pictures.lit_in (take (i + 1) columns)
unfolding pictures.lit_in
one-lit i columns h e = rw (add-one i, take-suc columns i 0 h, lit_join (take i columns) (get_or columns i 0 ∷ []), ← e) (omega arith)

-- all up to another place
counted-turn : {lit some : ℕ} (first height : ℕ) (columns : List ℕ) (i end : ℕ) → i ≤ end → lit ≡ pictures.lit_in (rows_of first height (take i columns))
    → some ≡ pictures.lit_in (rows_of first height (take (end - i) (drop i columns))) → lit + some ≡ pictures.lit_in (rows_of first height (take end columns))
counted-turn first height columns i end le e s =
    let part = take (end - i) (drop i columns) in
    rw (up_to columns i end le, map-append (pictures.lit height (Some first)) (take i columns) part, lit_join (rows_of first height (take i columns)) (rows_of first height part), ← e, ← s)

-- ---- both

module _ {first height : ℕ} {columns : List ℕ} where
  pub begun : {out : List ℕ} → length out ≡ length columns → Drawing first height columns out 0 0
  unfolding pictures.lit_in
  begun size = record { mapped = record { size = size; so_far = refl }; counted = refl }

  module _ {out : List ℕ} {lit i : ℕ} (d : Drawing first height columns out lit i) where
    -- no more than four a column
    pub few : height < 5 → lit ≤ 4 * i
    few rows =
        let long = length-take i columns in
        omega (arith, d.counted, few-lit height first (take i columns), mul-le-mul_left {m = length (take i columns)} {n = i} height (omega arith), mul-le-mul_right {m = height} {n = 4} i (omega arith))

    -- a column more
    pub one-turn : {q : ℕ} → i < length columns → q ≡ pictures.lit height (Some first) (get_or columns i 0) → Drawing first height columns (set out i q) (lit + ones q) (i + 1)
    unfolding pictures.lit_in
    one-turn {q} h e = record {
      mapped = mapped-one _ _ _ _ _ h e d.mapped;
      counted =
          rw (add-one i, take-suc columns i 0 h, map-append (pictures.lit height (Some first)) (take i columns) (get_or columns i 0 ∷ []), lit_join (rows_of first height (take i columns)) (rows_of first height (get_or columns i 0 ∷ [])), ← d.counted, ← e)
          (omega arith);
    }

    -- all up to another place
    pub part-turn : {end : ℕ} {some : Drawn} → i ≤ end → end ≤ length columns → some ≡ drawn first height (take (end - i) (drop i columns))
        → Drawing first height columns (take i out ++ (some.out ++ drop (end - i) (drop i out))) (lit + some.lit) end
    part-turn {end} le most e = record {
      mapped = written-turn i end d.mapped le most (ap (λ (k : Drawn). k.out) e);
      counted = counted-turn first height columns i end le d.counted (ap (λ (k : Drawn). k.lit) e);
    }

    -- all up to another place, which are written and then counted in two parts
    pub parts-turn : {to : List ℕ} {ones more end : ℕ} (middle : ℕ) → i ≤ middle → middle ≤ end → Mapped (pictures.lit height (Some first)) columns to end
        → ones ≡ pictures.lit_in (take (middle - i) (drop i to)) → more ≡ pictures.lit_in (take (end - middle) (drop middle to)) → Drawing first height columns to (lit + (ones + more)) end
    parts-turn {end} middle le most m e f =
        let before = counted-turn first height columns i middle le d.counted (e ∙ ap pictures.lit_in (written-part i middle m le most)) in
        record {
          mapped = m;
          counted = omega (arith, counted-turn first height columns middle end most before (f ∙ ap pictures.lit_in (written-part middle end m most (omega arith))));
        }

    -- all columns
    pub done : length columns ≤ i → record { lit = lit; out = out } ≡ drawn first height columns
    done h =
        let counted = d.counted ∙ ap (λ (l : List ℕ). pictures.lit_in (rows_of first height l)) (take_all i columns h) in
        let written = mapped-all (pictures.lit height (Some first)) columns out i h d.mapped in
        λ j. record { lit = counted j; out = written j }
