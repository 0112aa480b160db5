-- A loop that gathers data bytes: after j turns the first j are there.
-- Assumes nothing.
use mathlib.Core.Path.{◌≡◌, refl, sym, ap, ap₂, ◌∙◌}
use mathlib.Core.List.{List, [], ◌∷◌, ◌++◌, append_assoc}
use Prim.Native.Nat.{ℕ, suc, ◌+◌, ◌*◌, ◌≤◌, ◌<◌}
use native.Mathlib.Numerals.{add-one}
use native.Mathlib.Omega.{arith}
use lib.ListN.{length, set, take, drop, length-set, length-append, length-drop}
use lib.Seq.{take_all, take_at, take-suc-set, length-take-le}
use Rattle.sheet.specs.Data.{width_of}
use Rattle.writer_sheet.specs.Writer.{bits_from, data_from}
use Rattle.laws.proofs.Wanted.{bits_lt}
use Rattle.words.specs.Fields.{joined, column_of}
use Rattle.gather.proofs.Sides.{columns_of}

pub record Gathering (m b : ℕ) (columns before out : List ℕ) (j : ℕ) : Type 0 where
  pub size : length out ≡ length before
  pub so_far : take j out ≡ data_from j m b columns

pub begun : {m b : ℕ} {columns before : List ℕ} → Gathering m b columns before before 0
unfolding data_from
begun = record { size = refl; so_far = refl }

-- a byte more
pub turn : {m b : ℕ} {columns before out : List ℕ} {j x : ℕ} → j < length before → x ≡ bits_from 8 m b (width_of m * j) columns → Gathering m b columns before out j
    → Gathering m b columns before (set out j x) (j + 1)
unfolding data_from
turn {out = out} {j = j} {x = x} h e s =
    record {
      size = length-set out j x ∙ s.size;
      so_far = rw (add-one j, take-suc-set out j x (omega (arith, h, s.size))) (ap₂ (λ (l : List ℕ) (y : ℕ). l ++ (y ∷ [])) s.so_far e);
    }

-- ---- four bytes more

-- the bytes of a number
four-of : (f : ℕ → ℕ) → ((i : ℕ) → f i < 256) → let w = joined 4 f in column_of w 0 ∷ column_of w 1 ∷ column_of w 2 ∷ column_of w 3 ∷ [] ≡ f 0 ∷ f 1 ∷ f 2 ∷ f 3 ∷ []
four-of f h = let e = columns_of f h in
    ap₂ (λ (x : ℕ) (l : List ℕ). x ∷ l) e.0 (ap₂ (λ (x : ℕ) (l : List ℕ). x ∷ l) e.1 (ap₂ (λ (x y : ℕ). x ∷ y ∷ []) e.2 e.3))

pub turn-four : {m : ℕ} {columns before out new : List ℕ} {j w : ℕ} → j + 4 ≤ length before → w ≡ joined 4 (λ i. bits_from 8 m 0 (width_of m * (j + i)) columns)
    → new ≡ column_of w 0 ∷ column_of w 1 ∷ column_of w 2 ∷ column_of w 3 ∷ [] → Gathering m 0 columns before out j → Gathering m 0 columns before (take j out ++ (new ++ drop 4 (drop j out))) (j + 4)
unfolding data_from
turn-four {m} {columns} {before} {out} {new} {j} {w} fits e n s =
    let x : ℕ → ℕ = λ i. bits_from 8 m 0 (width_of m * (j + i)) columns in
    let is : new ≡ x 0 ∷ x 1 ∷ x 2 ∷ x 3 ∷ [] =
    n ∙ ap (λ (k : ℕ). column_of k 0 ∷ column_of k 1 ∷ column_of k 2 ∷ column_of k 3 ∷ []) e ∙ four-of x (λ i. bits_lt 8 m 0 (width_of m * (j + i)) columns) in
    let rest = drop 4 (drop j out) in
    let joins = sym (append_assoc (take j out) new rest) in
    let head : length (take j out) ≡ j = length-take-le j out (omega (arith, fits, s.size)) in
    let front : length (take j out ++ new) ≡ j + 4 = omega (arith, length-append (take j out) new, ap length is) in
    let on : j + 4 ≡ suc (suc (suc (suc j))) = omega arith in
    let i₀ : j + 0 ≡ j = omega arith in
    let i₁ : j + 1 ≡ suc j = omega arith in
    let i₂ : j + 2 ≡ suc (suc j) = omega arith in
    let i₃ : j + 3 ≡ suc (suc (suc j)) = omega arith in
    record {
      size = ap length joins ∙ omega (arith, length-append (take j out ++ new) rest, length-drop 4 (drop j out), length-drop j out, s.size, front);
      so_far = ap (take (j + 4)) joins ∙ take_at (take j out ++ new) rest (j + 4) front ∙ ap₂ (λ (l k : List ℕ). l ++ k) s.so_far is ∙ rw (i₀, i₁, i₂, i₃, on) (simp append_assoc);
    }

-- all bytes
pub done : {m b : ℕ} {columns before out : List ℕ} {j : ℕ} → j ≡ length before → Gathering m b columns before out j → out ≡ data_from (length before) m b columns
done {m = m} {b = b} {columns = columns} {out = out} {j = j} all s = sym (take_all j out (omega (arith, all, s.size))) ∙ s.so_far ∙ ap (λ (n : ℕ). data_from n m b columns) all
