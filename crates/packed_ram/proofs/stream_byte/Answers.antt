-- `packed_ram::stream_byte` meets its contract: a word in static and 1:2, and in 1:4 the byte's bits in the other order.
-- Assumes nothing.
use mathlib.Core.Path.{◌≡◌, refl, sym, ap, ◌∙◌, subst}
use mathlib.Core.Logic.{◌≢◌}
use mathlib.Core.List.{List}
use Prim.Native.Nat.{ℕ, ◌+◌, ◌*◌, ◌≤◌, ◌<◌}
use native.Mathlib.Omega.{arith}
use lib.ListN.{length, get_or}
use Rattle.sheet.specs.Registers.{bank_row}
use Rattle.sheet.specs.Data.{put_bits, width_of}
use Rattle.packed_sheet.specs.Packed.{unpacked}
use Rattle.laws.proofs.Packed.{unpacked-nibbles}
use Rattle.words.specs.Fields.{merged}
use Rattle.packed_words.specs.Placed.{Word, RowsWord}
use Rattle.packed_words.proofs.Placed.{rows_lt}
use Rattle.packed_ram.proofs.Bytes.{few, word-put, four-packed}
use Rattle.packed_ram.proofs.stream_byte.Goals as goal

-- its columns are there, in the mode that a match tells
there : (k at n : ℕ) {m : ℕ} → m ≡ k → 2 * at + width_of m ≤ 2 * n → 2 * at + width_of k ≤ 2 * n
there k at n e h = subst (λ (m : ℕ). 2 * at + width_of m ≤ 2 * n) e h

by_word : (n k at : ℕ) (ram : List ℕ) {m bank x rows t : ℕ} {after : List ℕ} → (0 < m) × (m < 5) × (m ≢ 3) × (bank < 2) × (2 * at + width_of m ≤ 2 * length ram) → ((i : ℕ) → get_or ram i 0 < 256)
    → RowsWord m bank rows → m ≡ k → 2 * n ≡ width_of k → Word k x t → after ≡ merged n rows t at ram
    → unpacked after ≡ put_bits 8 m (bank_row m bank) (2 * at) x (unpacked ram)
by_word n k at ram {m} {bank} {x} {rows} {t} h bytes r e wide et told =
    ap unpacked told
    ∙ word-put n m bank x at rows t ram (wide ∙ ap width_of (sym e)) h.0 h.1 h.3
    (unpacked-nibbles ram bytes) r (subst (λ (m : ℕ). Word m x t) (sym e) et)

pub returns-in_default : goal.returns-in_default
unfolding bank_row
returns-in_default c = let a = c.args in
    let e : a.m ≡ 4 = omega arith in
    four-packed a.x a.at c.reversed.result a.ram.now c.reversed.ensures (unpacked-nibbles a.ram.now (λ i. (c.slice_known-1.given i).fits))
    ∙ ap (λ (m : ℕ). put_bits 8 m (bank_row m a.bank) (2 * a.at) a.x (unpacked a.ram.now)) (sym e)

pub rows_of-rows-requires : goal.rows_of-rows-requires
rows_of-rows-requires c = (c.requires.0, c.requires.1, c.requires.3)

pub overflow_cast-rows : goal.overflow_cast-rows
overflow_cast-rows c = let m = c.args.m in omega (arith, rows_lt (width_of m) c.rows_of-rows.result (few m) c.rows_of-rows.ensures.small)

pub overflow_cast-eight_columns : goal.overflow_cast-eight_columns
overflow_cast-eight_columns c = omega (arith, c.eight_columns.ensures.small)

pub put_four-requires : goal.put_four-requires
put_four-requires c = omega (arith, there 1 c.args.at (length c.args.ram.now) c.in-1.is c.requires.4)

pub overflow_cast-four_columns : goal.overflow_cast-four_columns
overflow_cast-four_columns c = omega (arith, c.four_columns.ensures.small)

pub put_two-requires : goal.put_two-requires
put_two-requires c = omega (arith, there 2 c.args.at (length c.args.ram.now) c.in-2.is c.requires.4)

pub bounds-ram-at : goal.bounds-ram-at
bounds-ram-at c = let e : c.args.m ≡ 4 = omega arith in omega (arith, there 4 c.args.at (length c.args.ram.now) e c.requires.4)

pub returns-in-1 : goal.returns-in-1
returns-in-1 c = by_word 4 1 c.args.at c.args.ram.now c.requires (λ i. (c.slice_known-1.given i).fits) c.rows_of-rows.ensures c.in-1.is refl c.eight_columns.ensures c.put_four.ensures

pub returns-in-2 : goal.returns-in-2
returns-in-2 c = by_word 2 2 c.args.at c.args.ram.now c.requires (λ i. (c.slice_known-1.given i).fits) c.rows_of-rows.ensures c.in-2.is refl c.four_columns.ensures c.put_two.ensures
