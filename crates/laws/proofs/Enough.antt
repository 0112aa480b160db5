-- How many data bytes so many columns take, what their run counts, and who acknowledges the last.
-- Assumes nothing.
use mathlib.Core.Path.{◌≡◌, sym, ap, ◌∙◌}
use mathlib.Core.Logic.{⊎_elim, ◌≢◌}
use Prim.Native.Nat.{ℕ, zero, suc, ◌+◌, ◌-◌, ◌*◌, ◌/◌, ◌%◌, ◌<◌}
use native.Mathlib.Nat.{zero-add, mul-zero, mod-lt, div-add-mod'}
use native.Mathlib.Omega.{arith}
use lib.Arith.{digits_div}
use borrow.Author.Tests.{eq-eqb, ne_eqb, lt-ltb, le-ltb}
use Rattle.lemmas.proofs.Order.{equal_or_not}
use Rattle.std.specs.Prelude.{None}
use Rattle.sheet.specs.Results.{Acknowledger}
use Rattle.sheet.specs.Parts.{Part}
use Rattle.sheet.specs.Data.{width_of, acknowledger}
use Rattle.sheet.specs.Runs.{last_run, counted_run}
use Rattle.writer_sheet.specs.Writer.{bytes_for}
use Rattle.writer_sheet.specs.Puts.{put_counts, put_last}
use Rattle.laws.proofs.Counts.{counted-at-once, counts-alike, width-less}
use Rattle.laws.proofs.Runs.{last-at-once}
use Rattle.laws.proofs.Wanted.{byte-there}

module _ (m size : ℕ) (pm : 0 < m) where
  abbrev w : ℕ
  w = width_of m

  -- size / w where that is all, and one more where a rest is left
  pub even-bytes : size % w ≡ 0 → bytes_for m size ≡ size / w
  even-bytes e =
      let s : size + (w - 1) ≡ size / w * w + (w - 1) = omega (arith, div-add-mod' size w, e) in
      ap (λ (k : ℕ). k / w) s ∙ digits_div (size / w) {m = w} {r = w - 1} (omega arith)

  pub odd-bytes : size % w ≢ 0 → bytes_for m size ≡ suc (size / w)
  odd-bytes ne =
      let l : size % w < w = mod-lt size {m = w} (omega arith) in
      let s : size + (w - 1) ≡ suc (size / w) * w + (size % w - 1) = omega (arith, div-add-mod' size w, ne) in
      ap (λ (k : ℕ). k / w) s ∙ digits_div (suc (size / w)) {m = w} {r = size % w - 1} (omega arith)

  -- from counts of the bytes before it
  pub run-counts : (before : ℕ) → counted_run (bytes_for m size) m 0 size (record { acknowledged = before; stored = 0; discarded = 0 }) ≡ put_counts m size (before + bytes_for m size)
  run-counts before =
      let all : size - 0 ≡ size = omega arith in
      counted-at-once (bytes_for m size) m 0 size _ pm
      ∙ ⊎_elim
      (λ (e : size % w ≡ 0).
      let none : m * (size % w) ≡ 0 = ap (λ (k : ℕ). m * k) e ∙ mul-zero m in
      rw (all, eq-eqb (size % w) 0 e, even-bytes e) (counts-alike _ _ (omega arith) (omega (arith, none)) (omega (arith, none))))
      (λ (ne : size % w ≢ 0).
      let rest : m * (size % w) < 8 = width-less m (size % w) pm (mod-lt size {m = w} (omega arith)) in
      rw (all, ne_eqb (size % w) 0 ne, odd-bytes ne) (counts-alike _ _ (omega arith) (omega (arith, rest)) (omega (arith, rest))))
      (equal_or_not (size % w) 0)

  last_of : (K : Part) (j : ℕ) → last_run K (suc j) m 0 size None ≡ acknowledger K m (w * j) size
  last_of K j = last-at-once K j m 0 size None ∙ ap (λ (v : ℕ). acknowledger K m v size) (zero-add (w * j))

  -- the last byte ends with the last column, or past it
  by-rest : (K : Part) (c j : ℕ) → 0 < K.columns → size ≡ K.columns * suc c → bytes_for m size ≡ suc j → last_run K (bytes_for m size) m 0 size None ≡ put_last m size (suc c)
  unfolding acknowledger
  by-rest K c j pc es ej =
      ap (λ (k : ℕ). last_run K k m 0 size None) ej ∙ last_of K j
      ∙ ⊎_elim
      (λ (e : size % w ≡ 0).
      let q : size / w ≡ suc j = sym (even-bytes e) ∙ ej in
      let all : w * suc j ≡ size = sym (ap (λ (k : ℕ). w * k) q) ∙ omega (arith, div-add-mod' size w, e) in
      let ends : w * j + 7 / m ≡ c * K.columns + (K.columns - 1) = omega (arith, all) in
      let chip : (w * j + 7 / m) / K.columns ≡ suc c - 1 = ap (λ (k : ℕ). k / K.columns) ends ∙ digits_div c {m = K.columns} {r = K.columns - 1} (omega arith) ∙ omega arith in
      rw (eq-eqb (size % w) 0 e, lt-ltb (w * j + 7 / m) size (omega (arith, all)), chip))
      (λ (ne : size % w ≢ 0).
      let q : size / w ≡ j = omega (arith, odd-bytes ne, ej) in
      let over : w * j + size % w ≡ size = sym (ap (λ (k : ℕ). w * k + size % w) q) ∙ omega (arith, div-add-mod' size w) in
      rw (ne_eqb (size % w) 0 ne, le-ltb (w * j + 7 / m) size (omega (arith, over, mod-lt size {m = w} (omega arith)))))
      (equal_or_not (size % w) 0)

  pub run-last : (K : Part) (chips : ℕ) → 0 < K.columns → 0 < chips → size ≡ K.columns * chips → last_run K (bytes_for m size) m 0 size None ≡ put_last m size chips
  run-last K zero pc ph es = absurd (omega arith)
  run-last K (suc c) pc ph es =
      let some : 0 < bytes_for m size = omega (arith, byte-there m 0 size (omega arith)) in
      by-rest K c (bytes_for m size - 1) pc es (omega (arith, some))
