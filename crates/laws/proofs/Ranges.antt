-- Registers in range, as facts and as a test; commands keep them there; the rows of a bank are rows of a column.
-- Assumes nothing.
use mathlib.Core.Path.{◌≡◌, refl}
use mathlib.Core.Bool.{Bool, true, false, cond, ◌&&◌}
use mathlib.Core.List.{List, [], ◌∷◌}
use Prim.Native.Nat.{ℕ, zero, suc, ◌+◌, ◌-◌, ◌*◌, ◌%◌, ◌≤◌, ◌<◌}
use native.Mathlib.Nat.{mul-le-mul_left}
use native.Mathlib.Omega.{arith}
use lib.Dec.{eqb, leb, leb→le, ltb, ltb→lt, eqb-suc-zero}
use borrow.Author.Tests.{leb-true, ltb-true, lt-ltb, le-leb}
use Rattle.lemmas.proofs.Tests.{and_left, and_right, both_true, all, all-at}
use Rattle.sheet.specs.declared.Marks.{Marks}
use Rattle.sheet.specs.declared.Registers.{Registers}
use Rattle.sheet.specs.declared.Command.{Command}
use Rattle.sheet.specs.declared.Command.TheVariants.{PointerHigh, PointerLow, Pointer, ModeSet, DeviceSelect, FrequencyCtrl, BlinkSelect, BankSelect, Undefined}
use Rattle.sheet.specs.Parts.{Part, within, Range, command_in, pcf8532_ranges, pcf8532, pca85133_ranges, pca85133}
use Rattle.sheet.specs.Registers.{at_place, with_marks, in_range, backplanes, bank_row}
use Rattle.sheet.specs.Commands.{sets, restored, obeyed}
use Rattle.sheet.specs.Places.{position}

-- a mark is 0 or 1
pub record MarksIn (u : Marks) : Type 0 where
  pub high-in : u.high < 2
  pub low-in : u.low < 2
  pub device-in : u.device < 2

-- every register in its range, for chips of the part
pub record InRange (K : Part) (r : Registers) : Type 0 where
  pub e-in : r.e < 2
  pub b-in : r.b < 2
  pub m-in : r.m < 4
  pub p-in : r.p < K.columns
  pub a_in : r.a ≤ K.limit
  pub i-in : r.i < 2
  pub o-in : r.o < 2
  pub ab-in : r.ab < 2
  pub bf-in : r.bf < 4
  pub marks-in : MarksIn r.unknown

-- the test's facts
pub range-of : (K : Part) (r : Registers) → in_range K r ≡ true → InRange K r
unfolding in_range
range-of K r t =
    let t1 = both_true (ltb r.e 2) _ t in
    let t2 = both_true (ltb r.b 2) _ t1.1 in
    let t3 = both_true (ltb r.m 4) _ t2.1 in
    let t4 = both_true (ltb r.p K.columns) _ t3.1 in
    let t5 = both_true (leb r.a K.limit) _ t4.1 in
    let t6 = both_true (ltb r.i 2) _ t5.1 in
    let t7 = both_true (ltb r.o 2) _ t6.1 in
    let t8 = both_true (ltb r.ab 2) _ t7.1 in
    let t9 = both_true (ltb r.bf 4) _ t8.1 in
    let t10 = both_true (ltb r.unknown.high 2) _ t9.1 in
    let t11 = both_true (ltb r.unknown.low 2) (ltb r.unknown.device 2) t10.1 in
    record {
      e-in = ltb-true r.e 2 t1.0;
      b-in = ltb-true r.b 2 t2.0;
      m-in = ltb-true r.m 4 t3.0;
      p-in = ltb-true r.p K.columns t4.0;
      a_in = leb-true r.a K.limit t5.0;
      i-in = ltb-true r.i 2 t6.0;
      o-in = ltb-true r.o 2 t7.0;
      ab-in = ltb-true r.ab 2 t8.0;
      bf-in = ltb-true r.bf 4 t9.0;
      marks-in = record { high-in = ltb-true r.unknown.high 2 t10.0; low-in = ltb-true r.unknown.low 2 t11.0; device-in = ltb-true r.unknown.device 2 t11.1 };
    }

-- and back
pub in-range : (K : Part) (r : Registers) → InRange K r → in_range K r ≡ true
unfolding in_range
in-range K r h =
    rw (lt-ltb r.e 2 h.e-in, lt-ltb r.b 2 h.b-in, lt-ltb r.m 4 h.m-in, lt-ltb r.p K.columns h.p-in, le-leb r.a K.limit h.a_in, lt-ltb r.i 2 h.i-in, lt-ltb r.o 2 h.o-in, lt-ltb r.ab 2 h.ab-in, lt-ltb r.bf 4 h.bf-in, lt-ltb r.unknown.high 2 h.marks-in.high-in, lt-ltb r.unknown.low 2 h.marks-in.low-in, lt-ltb r.unknown.device 2 h.marks-in.device-in)

-- another place in range keeps them there
pub placed_in : (K : Part) (r : Registers) (p a : ℕ) → InRange K r → p < K.columns → a ≤ K.limit → InRange K (at_place r p a)
placed_in K r p a h lp la = record { e-in = h.e-in; b-in = h.b-in; m-in = h.m-in; p-in = lp; a_in = la; i-in = h.i-in; o-in = h.o-in; ab-in = h.ab-in; bf-in = h.bf-in; marks-in = h.marks-in }

-- and so do other marks
pub marked_in : (K : Part) (r : Registers) (u : Marks) → InRange K r → MarksIn u → InRange K (with_marks r u)
marked_in K r u h l = record { e-in = h.e-in; b-in = h.b-in; m-in = h.m-in; p-in = h.p-in; a_in = h.a_in; i-in = h.i-in; o-in = h.o-in; ab-in = h.ab-in; bf-in = h.bf-in; marks-in = l }

-- ---- commands keep registers in range

-- the ends of a range that was hit
hit : (lo hi n : ℕ) → within lo hi n ≡ true → (lo ≤ n) × (n ≤ hi)
unfolding within
hit lo hi n e = let t = both_true (leb lo n) (leb n hi) e in (leb-true lo n t.0, leb-true n hi t.1)

-- what holds of a byte in each range of a table
abbrev pub Each : (Command → Type 0) → ℕ → List Range → Type 0
Each P x [] = Unit {0}
Each P x (t ∷ ts) = (t.first ≤ x → x ≤ t.last → P (t.is x)) × Each P x ts

-- and of no command holds of the byte's command
pub by-range : (P : Command → Type 0) (x : ℕ) (ts : List Range) → Each P x ts → P Undefined → P (command_in ts x)
unfolding command_in
by-range P x [] each none = none
by-range P x (t ∷ ts) each none = go (within t.first t.last x) (hit t.first t.last x) (by-range P x ts each.1 none)
  where
    go : (b : Bool) → (b ≡ true → (t.first ≤ x) × (x ≤ t.last)) → P (command_in ts x) → P (cond b (t.is x) (command_in ts x))
    go true h rest = each.0 (h refl).0 (h refl).1
    go false h rest = rest

-- a command leaves or restores a mark
pub marks-kept : (c : Command) (u : Marks) → MarksIn u → MarksIn (restored c u)
marks-kept (PointerHigh n) u h = record { high-in = omega arith; low-in = h.low-in; device-in = h.device-in }
marks-kept (PointerLow n) u h = record { high-in = h.high-in; low-in = omega arith; device-in = h.device-in }
marks-kept (Pointer p) u h = record { high-in = omega arith; low-in = omega arith; device-in = h.device-in }
marks-kept (ModeSet s) u h = h
marks-kept (DeviceSelect n) u h = record { high-in = h.high-in; low-in = h.low-in; device-in = omega arith }
marks-kept FrequencyCtrl u h = h
marks-kept (BlinkSelect ab bf) u h = h
marks-kept (BankSelect i o) u h = h
marks-kept Undefined u h = h

obeyed_in : (K : Part) (r : Registers) (c : Command) → InRange K r → InRange K (sets r c) → InRange K (obeyed r c)
obeyed_in K r c h set = marked_in K (sets r c) (restored c r.unknown) set (marks-kept c r.unknown h.marks-in)

-- pointer high ends at 09 and 16 × 9 + 15 is 159; device-select ends at E3
pub pcf8532-kept : (r : Registers) (x : ℕ) → InRange pcf8532 r → InRange pcf8532 (obeyed r (pcf8532.command x))
pcf8532-kept r x h =
    obeyed_in pcf8532 r (pcf8532.command x) h
    (by-range (λ c. InRange pcf8532 (sets r c)) x pcf8532_ranges (
      (λ l m. placed_in pcf8532 r (16 * (x % 16) + r.p % 16) r.a h (omega arith) h.a_in),
      (
        (λ l m. placed_in pcf8532 r (r.p - r.p % 16 + x % 16) r.a h (omega (arith, h.p-in)) h.a_in),
        ((λ l m. omega arith), ((λ l m. placed_in pcf8532 r r.p (x % 4) h h.p-in (omega arith)), ((λ l m. h), ((λ l m. omega arith), ((λ l m. omega arith), tt))))),
      ),
    )
    h)

-- the pointer ends at 4F, which is 79; device-select ends at E7
pub pca85133-kept : (r : Registers) (x : ℕ) → InRange pca85133 r → InRange pca85133 (obeyed r (pca85133.command x))
pca85133-kept r x h =
    obeyed_in pca85133 r (pca85133.command x) h
    (by-range (λ c. InRange pca85133 (sets r c)) x pca85133_ranges (
      (λ l m. placed_in pca85133 r x r.a h (omega (m, arith)) h.a_in),
      ((λ l m. omega arith), ((λ l m. placed_in pca85133 r r.p (x % 8) h h.p-in (omega arith)), ((λ l m. omega arith), ((λ l m. omega arith), tt)))),
    )
    h)

-- ---- backplanes and banks

-- backplanes are 1 to 4, and a bank's rows are rows of a column
fits : ℕ → ℕ → Bool
fits m bank = ltb 0 (cond (eqb m 0) 4 m) && ltb (bank_row (cond (eqb m 0) 4 m) bank + cond (eqb m 0) 4 m) 5

pub rows_fit : (r : Registers) (bank : ℕ) → r.m < 4 → bank < 2 → (0 < backplanes r) × (bank_row (backplanes r) bank + backplanes r < 5)
unfolding fits backplanes bank_row
rows_fit r bank hm hb =
    let t = all-at 2 (λ k. fits r.m k) (all-at 4 (λ k. all 2 (λ j. fits k j)) tt r.m hm) bank hb in
    (ltb→lt 0 (backplanes r) (and_left (ltb 0 (backplanes r)) (ltb (bank_row (backplanes r) bank + backplanes r) 5) t), ltb→lt (bank_row (backplanes r) bank + backplanes r) 5 (and_right (ltb 0 (backplanes r)) (ltb (bank_row (backplanes r) bank + backplanes r) 5) t))

-- the same of a number of backplanes
pub bank-rows-fit : (m bank : ℕ) → m < 5 → bank < 2 → bank_row m bank + m ≤ 4
unfolding bank_row
bank-rows-fit m bank hm hb =
    leb→le (bank_row m bank + m) 4 (all-at 2 (λ i. leb (bank_row m i + m) 4) (all-at 5 (λ n. all 2 (λ i. leb (bank_row n i + n) 4)) tt m hm) bank hb)

pub planes_pos : (r : Registers) → 0 < backplanes r
unfolding backplanes
planes_pos r = go r.m
  where
    go : (m : ℕ) → 0 < cond (eqb m 0) 4 m
    go zero = omega arith
    go (suc m) = rw (eqb-suc-zero m) (omega arith)

-- ---- the position

pub position_lt : (K : Part) (r : Registers) → InRange K r → position K r < K.columns * suc K.limit
unfolding position
position_lt K r h = omega (arith, mul-le-mul_left K.columns h.a_in, h.p-in)
