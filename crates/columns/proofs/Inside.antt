-- Data bytes that end in the columns from P to the chip's last: A stays at each of their columns, so that one chip alone stores and acknowledges them all.
-- Assumes nothing.
use mathlib.Core.Path.{◌≡◌, refl, sym, ap, ap₂, ◌∙◌, subst}
use mathlib.Core.Bool.{Bool, true, false, cond}
use mathlib.Core.List.{List, [], ◌∷◌}
use Prim.Native.Nat.{ℕ, zero, suc, ◌+◌, ◌*◌, ◌/◌, ◌≤◌, ◌<◌}
use native.Mathlib.Nat.{add-zero, add-suc, mul-zero, mul-one, mul-suc, le-div_iff_mul-le}
use native.Mathlib.Omega.{arith}
use lib.Dec.{eqb}
use lib.ListN.{length, get_or, set}
use borrow.Author.Tests.{ne_eqb}
use Rattle.sheet.specs.declared.Chip.{Chip}
use Rattle.sheet.specs.declared.Registers.{Registers}
use Rattle.sheet.specs.Parts.{Part}
use Rattle.sheet.specs.Registers.{at_place, backplanes, bank_row}
use Rattle.sheet.specs.Plain.{put_rows, chip_data, acknowledges_data}
use Rattle.sheet.specs.Places.{advanced, advanced_by}
use Rattle.sheet.specs.Data.{changed, put_bits, width_of}
use Rattle.laws.proofs.Ranges.{InRange, planes_pos}
use Rattle.laws.proofs.Steps.{columns_move}
use Rattle.laws.proofs.Runs.{unchanged}
use Rattle.agreement.proofs.Byte.{put_columns, by-columns}
use Rattle.columns.specs.Stored.{stored_in, columns_after, ran_over, room_in}
use Rattle.columns.proofs.Apart.{with, byte-apart, on_in, on-planes}

-- n data bytes end before the chip's last column
abbrev pub Inside : Part → Registers → ℕ → Type 0
Inside K r n = r.p + width_of (backplanes r) * n ≤ K.columns

-- as the code asks
pub has_room : (K : Part) (r : Registers) (n : ℕ) → InRange K r → n ≤ room_in K r → Inside K r n
has_room K r n h l = omega (arith, h.p-in, (le-div_iff_mul-le {k = width_of (backplanes r)} (omega arith)).0 l)

-- a column on from a place that is not the last
pub still : (K : Part) (k : ℕ) (r : Registers) → r.p + k < K.columns → advanced_by K k r ≡ at_place r (r.p + k) r.a
unfolding advanced_by advanced
still K zero r l = rw (add-zero r.p) refl
still K (suc k) r l =
    ap (advanced K) (still K k r (omega arith)) ∙ rw (ne_eqb (r.p + k + 1) K.columns (omega arith)) (ap (λ (p : ℕ). at_place r p r.a) (omega arith))

-- so A stays
a-stays : (K : Part) (k : ℕ) (r : Registers) → r.p + k < K.columns → (advanced_by K k r).a ≡ r.a
a-stays K k r l = ap (λ (s : Registers). s.a) (still K k r l)

on-on : (K : Part) (n m : ℕ) (r : Registers) → advanced_by K n (advanced_by K m r) ≡ advanced_by K (m + n) r
unfolding advanced_by
on-on K zero m r = rw (add-zero m) refl
on-on K (suc n) m r = rw (add-suc m n) (ap (advanced K) (on-on K n m r))

-- a chip of another subaddress keeps its columns
untouched : (K : Part) (s x : ℕ) (r : Registers) (n : ℕ) (l : List ℕ) → eqb r.a s ≡ false → r.p + n ≤ K.columns → columns_after K s x r n l ≡ l
unfolding columns_after changed
untouched K s x r zero l other fits = refl
untouched K s x r (suc n) l other fits =
    let t = advanced_by K n r in
    let m = backplanes t in
    ap (λ (k : List ℕ). set k t.p (stored_in t s x n (get_or k t.p 0))) (untouched K s x r n l other (omega arith))
    ∙ ap (λ (b : Bool). set l t.p (cond b (put_rows m (bank_row m t.i) (m * n) x (get_or l t.p 0)) (get_or l t.p 0))) (ap (λ (a : ℕ). eqb a s) (a-stays K n r (omega arith)) ∙ other)
    ∙ unchanged t.p l

-- and only moves on: a byte
byte-passed : (K : Part) (x : ℕ) (c : Chip) → eqb c.registers.a c.subaddress ≡ false → c.registers.p + width_of (backplanes c.registers) ≤ K.columns
    → chip_data K x c ≡ with c c.columns (advanced_by K (width_of (backplanes c.registers)) c.registers)
byte-passed K x c other fits =
    let r = c.registers in
    let w = width_of (backplanes r) in
    byte-apart K x c ∙ ap (λ (l : List ℕ). with c l (advanced_by K w r)) (untouched K c.subaddress x r w c.columns other fits)

-- after which the others are inside
pub byte_inside : (K : Part) (n : ℕ) (r : Registers) → InRange K r → Inside K r (suc (suc n)) → (Inside K (advanced_by K (width_of (backplanes r)) r) (suc n)) × ((advanced_by K (width_of (backplanes r)) r).a ≡ r.a)
byte_inside K n r h fits =
    let w = width_of (backplanes r) in
    let k = suc n in
    let less : r.p + w < K.columns = omega (arith, mul-suc w k, mul-suc w n) in
    (subst (λ (m : ℕ). (advanced_by K w r).p + width_of m * k ≤ K.columns) (sym (on-planes K w r h)) (omega (arith, mul-suc w k, ap (λ (s : Registers). s.p) (still K w r less))), a-stays K w r less)

-- all bytes
pub passed : (K : Part) (xs : List ℕ) (c : Chip) → InRange K c.registers → eqb c.registers.a c.subaddress ≡ false → Inside K c.registers (length xs)
    → ran_over K xs c ≡ with c c.columns (advanced_by K (width_of (backplanes c.registers) * length xs) c.registers)
unfolding ran_over advanced_by
passed K [] c h other fits = rw (mul-zero (width_of (backplanes c.registers))) refl
passed K (x ∷ []) c h other fits =
    let w = width_of (backplanes c.registers) in
    rw (mul-one w) (byte-passed K x c other (omega (arith, mul-one w)))
passed K (x ∷ y ∷ ys) c h other fits =
    let r = c.registers in
    let w = width_of (backplanes r) in
    let n = suc (length ys) in
    let next = with c c.columns (advanced_by K w r) in
    let more = byte_inside K (length ys) r h fits in
    let all : w + w * n ≡ w * suc n = omega (arith, mul-suc w n) in
    ap (ran_over K (y ∷ ys)) (byte-passed K x c other (omega (arith, mul-suc w n)))
    ∙ passed K (y ∷ ys) next (on_in K w r h) (ap (λ (a : ℕ). eqb a c.subaddress) more.1 ∙ other) more.0
    ∙ ap (with c c.columns) (ap (λ (m : ℕ). advanced_by K (width_of m * n) (advanced_by K w r)) (on-planes K w r h) ∙ on-on K (w * n) w r ∙ ap (λ (k : ℕ). advanced_by K k r) all)

-- ---- the chip that A names

-- the first n columns of a byte
named : (K : Part) (s x : ℕ) (r : Registers) (n : ℕ) (l : List ℕ) → eqb r.a s ≡ true → r.p + n ≤ K.columns
    → columns_after K s x r n l ≡ put_columns n (backplanes r) (bank_row (backplanes r) r.i) r.p x l
unfolding columns_after put_columns changed backplanes
named K s x r zero l own fits = refl
named K s x r (suc n) l own fits =
    let m = backplanes r in
    let b = bank_row m r.i in
    let before = put_columns n m b r.p x l in
    ap₂ (λ (t : Registers) (k : List ℕ). set k t.p (stored_in t s x n (get_or k t.p 0))) (still K n r (omega arith)) (named K s x r n l own (omega arith))
    ∙ ap (λ (c : Bool). set before (r.p + n) (cond c (put_rows m b (m * n) x (get_or before (r.p + n) 0)) (get_or before (r.p + n) 0))) own

-- all of them, bit by bit
pub stored-inside : (K : Part) (s x : ℕ) (r : Registers) (l : List ℕ) → eqb r.a s ≡ true → r.p + width_of (backplanes r) ≤ K.columns
    → columns_after K s x r (width_of (backplanes r)) l ≡ put_bits 8 (backplanes r) (bank_row (backplanes r) r.i) r.p x l
stored-inside K s x r l own fits =
    named K s x r (width_of (backplanes r)) l own fits ∙ sym (by-columns (backplanes r) (bank_row (backplanes r) r.i) r.p x l (planes_pos r))

-- it acknowledges each of several, and no other
pub acknowledged-inside : (K : Part) (x n : ℕ) (c : Chip) → Inside K c.registers (suc n) → acknowledges_data K x c ≡ eqb c.registers.a c.subaddress
unfolding acknowledges_data
acknowledged-inside K x n c fits =
    let r = c.registers in
    let w = width_of (backplanes r) in
    ap (λ (a : ℕ). eqb a c.subaddress) (ap (λ (s : Registers). s.a) (columns_move K x (7 / backplanes r) c) ∙ a-stays K (7 / backplanes r) r (omega (arith, mul-suc w n)))
