-- `packed_ram::odd_run` meets its contract: the stream from the column before, which keeps what it has, and then the last column.
-- Assumes nothing.
use mathlib.Core.Path.{◌≡◌, sym, ap, ap₂, ◌∙◌, subst}
use mathlib.Core.Logic.{◌≢◌}
use mathlib.Core.List.{List, ◌∷◌}
use Prim.Native.Nat.{ℕ, suc, ◌+◌, ◌-◌, ◌*◌, ◌/◌, ◌%◌, ◌^◌, ◌≤◌, ◌<◌}
use native.Mathlib.Nat.{div-add-mod', mod-lt, mul-zero, mul-one}
use native.Mathlib.Omega.{arith}
use lib.ListN.{length, get_or}
use lib.Pow.{shr_lt, shr_le}
use Rattle.sheet.specs.Registers.{bank_row}
use Rattle.sheet.specs.Data.{changed, width_of}
use Rattle.sheet.specs.Runs.{put_run}
use Rattle.packed_sheet.specs.Packed.{unpacked}
use Rattle.laws.proofs.Ranges.{bank-rows-fit}
use Rattle.laws.proofs.Runs.{changed-alike, unchanged, length_run}
use Rattle.laws.proofs.Nibbles.{nibbles-of, run-nibbles}
use Rattle.laws.proofs.Packed.{length-unpacked, even-column}
use Rattle.packed_words.specs.Placed.{placed}
use Rattle.packed_ram.specs.Stream.{stream, ending}
use Rattle.packed_words.proofs.Placed.{rows_lt}
use Rattle.packed_ram.proofs.Bytes.{few, room, last-put}
use Rattle.packed_ram.proofs.Stream.{exact, last_of, run-later}
use Rattle.packed_ram.proofs.odd_run.Goals as goal

-- the even column before an odd one
column-before : (v : ℕ) → v % 2 ≢ 0 → 2 * (v / 2) + 1 ≡ v
column-before v e = omega (arith, div-add-mod' v 2, mod-lt v {m = 2} (omega arith), e)

-- there is a column, since there is a byte
inside : (v m n : ℕ) (ram : List ℕ) → width_of m * n ≤ length (unpacked ram) - v → 0 < n → v + width_of m ≤ 2 * length ram
inside v m n ram fit some =
    omega (arith, room (width_of m) n 0 v (length (unpacked ram)) (omega arith) fit some, mul-zero (width_of m), length-unpacked ram)

-- all of them are
fits : (v m n : ℕ) {w : ℕ} (ram : List ℕ) → w ≡ width_of m → width_of m * n ≤ length (unpacked ram) - v → w * n ≤ 2 * length ram - v
fits v m n ram e fit = rw e (omega (arith, fit, length-unpacked ram))

-- from the column before on
ends : (v m n : ℕ) {w : ℕ} (ram : List ℕ) → w ≡ width_of m → width_of m * n ≤ length (unpacked ram) - v → 0 < n → v % 2 ≢ 0 → v - 1 + w * n + 1 ≤ 2 * length ram
ends v m n {w} ram e fit some odd =
    let most : v + w * n ≤ 2 * length ram = omega (arith, fits v m n ram e fit, inside v m n ram fit some) in
    omega (arith, most, column-before v odd)

pub shifted_run-requires : goal.shifted_run-requires
shifted_run-requires c = let h = c.requires.0 in (
  record { some = h.some; four = h.four; two = h.two; fit = omega (arith, h.fit, column-before c.args.v c.requires.2); nibbles = h.nibbles },
  c.requires.1,
  omega arith,
)

-- by one column, the bits of the mode
by-one : (m b at p : ℕ) (bytes ram after : List ℕ) → after ≡ put_run m b (2 * at) (stream (m * 1) p bytes) ram → after ≡ put_run m b (2 * at) (stream m p bytes) ram
by-one m b at p bytes ram after e = e ∙ ap (λ (s : ℕ). put_run m b (2 * at) (stream s p bytes) ram) (mul-one m)

-- the stream leaves the RAM as long as it was
long : (m b v : ℕ) (xs ram after : List ℕ) → unpacked after ≡ put_run m b v xs (unpacked ram) → length after ≡ length ram
long m b v xs ram after e =
    omega (arith, length-unpacked after, length-unpacked ram, ap length e, length_run m b v xs (unpacked ram))

pub put_columns-requires : goal.put_columns-requires
put_columns-requires c = let m = c.args.m in
    let down = 4 * (c.width-w.result - 1) in
    let e : 4 * width_of m ≡ 4 + down = omega (arith, c.width-w.ensures) in
    let rows = c.rows_of.ensures.small in
    let columns = c.columns_of-t.ensures.small in (
      subst (λ (n : ℕ). c.args.v - 1 + c.width-w.result * length c.args.bytes.now + 1 ≤ 2 * n) (sym (long m (bank_row m c.args.bank) (2 * (c.args.v / 2)) (stream m c.ending_in-before.result c.args.bytes.now) c.args.ram.now c.shifted_run.new.ram (by-one _ _ _ _ _ _ _ c.shifted_run.ensures))) (ends c.args.v c.args.m (length c.args.bytes.now) c.args.ram.now c.width-w.ensures c.requires.0.fit c.requires.3 c.requires.2),
      omega arith,
      shr_lt 4 down (subst (λ (n : ℕ). c.rows_of.result < 2 ^ n) e rows),
      omega (arith, shr_le c.columns_of-t.result down, rows_lt (width_of m) c.columns_of-t.result (few m) columns),
    )

pub returns : goal.returns
returns c = let a = c.args in
    let h = c.requires.0 in
    let m = a.m in
    let b = bank_row m a.bank in
    let bytes = a.bytes.now in
    let n = length bytes in
    let ram = unpacked a.ram.now in
    let at = a.v / 2 in
    let p = c.ending_in-before.result in
    let odd = column-before a.v c.requires.2 in
    let whole = exact m h.some h.four c.requires.1 in
    let rows = bank-rows-fit m a.bank h.four h.two in
    let after = put_run m b (2 * at) (stream m p bytes) ram in
    let column : a.v - 1 + c.width-w.result * n ≡ 2 * at + width_of m * n = ap₂ (λ (i j : ℕ). i + j * n) {x = a.v - 1} {y = 2 * at} (omega (arith, odd)) c.width-w.ensures in
    let last : get_or bytes (n - 1) 0 ≡ last_of p bytes = sym (ap (λ (i : ℕ). get_or (p ∷ bytes) i 0) {x = n} {y = suc (n - 1)} (omega (arith, c.requires.3))) in
    let kept : changed (ending m b p) (2 * at) ram ≡ ram =
    changed-alike (ending m b p) (λ i. i) (2 * at) ram (ap (ending m b p) (even-column at a.ram.now) ∙ c.ending_in-before.ensures ∙ sym (even-column at a.ram.now)) ∙ unchanged (2 * at) ram in
    c.put_columns.ensures
    ∙ ap (λ (d : ℕ). placed 1 (c.rows_of.result / 2 ^ (4 * d)) (c.columns_of-t.result / 2 ^ (4 * d)) (a.v - 1 + c.width-w.result * n) (unpacked c.shifted_run.new.ram)) {x = c.width-w.result - 1} {y = 7 / m} (omega (arith, c.width-w.ensures))
    ∙ ap₂ (λ (i : ℕ) (l : List ℕ). placed 1 (c.rows_of.result / 2 ^ (4 * (7 / m))) (c.columns_of-t.result / 2 ^ (4 * (7 / m))) i l) column (by-one _ _ _ _ _ _ _ c.shifted_run.ensures)
    ∙ last-put m a.bank (get_or bytes (n - 1) 0) (2 * at + width_of m * n) c.rows_of.result c.columns_of-t.result after h.four h.two whole
    (run-nibbles m b (2 * at) (stream m p bytes) ram h.some rows (nibbles-of 0 ram h.nibbles)) c.rows_of.ensures c.columns_of-t.ensures
    ∙ ap (λ (x : ℕ). changed (ending m b x) (2 * at + width_of m * n) after) last
    ∙ run-later m b h.some whole p (2 * at) bytes ram (λ i. (c.shared_slice_known-1.given i).fits)
    ∙ ap₂ (λ (i : ℕ) (l : List ℕ). put_run m b i bytes l) odd kept

pub bounds-ram-at : goal.bounds-ram-at
bounds-ram-at c = omega (arith, inside c.args.v c.args.m (length c.args.bytes.now) c.args.ram.now c.requires.0.fit c.requires.3, div-add-mod' c.args.v 2)

pub overflow_mul-down : goal.overflow_mul-down
overflow_mul-down c = omega (arith, c.width-w.ensures, few c.args.m)

pub overflow_mul-w : goal.overflow_mul-w
overflow_mul-w c = omega (arith, fits c.args.v c.args.m (length c.args.bytes.now) c.args.ram.now c.width-w.ensures c.requires.0.fit, c.requires.4)

pub overflow_add-v : goal.overflow_add-v
overflow_add-v c = omega (arith, ends c.args.v c.args.m (length c.args.bytes.now) c.args.ram.now c.width-w.ensures c.requires.0.fit c.requires.3 c.requires.2, c.requires.4)

pub overflow_shr-rows_of : goal.overflow_shr-rows_of
overflow_shr-rows_of c = omega (arith, c.width-w.ensures, few c.args.m)

pub overflow_shr-t : goal.overflow_shr-t
overflow_shr-t c = omega (arith, c.width-w.ensures, few c.args.m)
