-- A data byte that all of a group's chips follow, each by itself, is the byte in the group's columns.
-- Assumes nothing.
use mathlib.Core.Path.{◌≡◌, refl, sym, ap, ap₂, ◌∙◌}
use mathlib.Core.List.{List, map, map-map}
use Prim.Native.Nat.{ℕ, zero, suc, ◌+◌, ◌*◌, ◌≤◌, ◌<◌}
use native.Mathlib.Nat.{add-zero, add-suc}
use native.Mathlib.Omega.{arith}
use lib.ListN.{length}
use Rattle.sheet.specs.declared.Registers.{Registers}
use Rattle.sheet.specs.Parts.{Part}
use Rattle.sheet.specs.Registers.{backplanes, bank_row}
use Rattle.sheet.specs.Plain.{after_column, after_columns, chip_data}
use Rattle.sheet.specs.Places.{position, at_position}
use Rattle.sheet.specs.Data.{changed, put_bits, width_of}
use Rattle.sheet.specs.Agree.{group_chips}
use Rattle.laws.proofs.Ranges.{planes_pos}
use Rattle.laws.proofs.Steps.{one, home, p-at}
use Rattle.laws.proofs.Runs.{changed-past, as_good}
use Rattle.agreement.proofs.Chips.{alike, set-alike}
use Rattle.agreement.proofs.Column.{rows_of, one-column}
use Rattle.agreement.proofs.Byte.{put_columns, length-columns, by-columns}

module _ (K : Part) (x g n : ℕ) (r : Registers) (ram : List ℕ) (lp : r.p < K.columns) (la : r.a ≤ K.limit) (ll : length ram ≤ K.columns * K.limit) where
  -- the first k columns of the byte
  by-column : (k : ℕ)
      → map (after_columns K x k) (group_chips K n g 0 r ram)
      ≡ group_chips K n g 0 (at_position K r (position K r + k)) (put_columns k (backplanes r) (bank_row (backplanes r) r.i) (position K r) x ram)
  unfolding after_columns put_columns at_position backplanes
  by-column zero =
      set-alike (after_columns K x 0) g r r (λ i c. refl) K n 0 ram
      ∙ rw (add-zero (position K r)) (ap (λ (s : Registers). group_chips K n g 0 s ram) (sym (home K r lp la)))
  by-column (suc k) =
      let u : ℕ = position K r + k in
      let s = at_position K r u in
      let t = put_columns k (backplanes r) (bank_row (backplanes r) r.i) (position K r) x ram in
      let lt : length t ≤ K.columns * K.limit = rw (length-columns k (backplanes r) (bank_row (backplanes r) r.i) (position K r) x ram) ll in
      sym (map-map (after_column K x k) (after_columns K x k) (group_chips K n g 0 r ram))
      ∙ ap (map (after_column K x k)) (by-column k)
      ∙ one-column K x k g s n t (p-at K u r (omega arith))
      ∙ ap₂ (λ (q : Registers) (c : List ℕ). group_chips K n g 0 q c)
      (one K u r (omega arith) ∙ ap (λ (v : ℕ). at_position K r v) (sym (add-suc (position K r) k)))
      (as_good K u r (length t) lt (λ v. changed (rows_of x k s) v t) (λ v w hv hw. changed-past (rows_of x k s) v t hv ∙ sym (changed-past (rows_of x k s) w t hw)))

  -- all of them
  pub data_agrees :
      map (chip_data K x) (group_chips K n g 0 r ram)
      ≡ group_chips K n g 0 (at_position K r (position K r + width_of (backplanes r))) (put_bits 8 (backplanes r) (bank_row (backplanes r) r.i) (position K r) x ram)
  unfolding chip_data
  data_agrees =
      alike (chip_data K x) (after_columns K x (width_of (backplanes r))) g r r (λ i c. refl) K n 0 ram
      ∙ by-column (width_of (backplanes r))
      ∙ ap (λ (c : List ℕ). group_chips K n g 0 (at_position K r (position K r + width_of (backplanes r))) c)
      (sym (by-columns (backplanes r) (bank_row (backplanes r) r.i) (position K r) x ram (planes_pos r)))
