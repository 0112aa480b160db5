-- `packed_ram::cut_byte` meets its contract: the bytes after the first have no column.
-- Assumes nothing.
use mathlib.Core.Path.{◌≡◌, sym, ap, ◌∙◌}
use mathlib.Core.List.{List}
use Prim.Native.Nat.{ℕ, ◌+◌, ◌*◌, ◌≤◌, ◌<◌}
use native.Mathlib.Nat.{div-add-mod', mod-lt}
use native.Mathlib.Omega.{arith}
use lib.ListN.{length, get_or}
use Rattle.std.proofs.lemmas.Grind.{common_steps}
use Rattle.sheet.specs.Registers.{bank_row}
use Rattle.sheet.specs.Data.{put_bits, width_of}
use Rattle.packed_sheet.specs.Packed.{unpacked}
use Rattle.laws.proofs.Runs.{run_past}
use Rattle.laws.proofs.Packed.{length-unpacked, unpacked-nibbles}
use Rattle.ram.proofs.Runs.{no_bytes, first_byte}
use Rattle.packed_words.proofs.Placed.{rows_lt}
use Rattle.packed_ram.proofs.Bytes.{few, byte_put}
use Rattle.packed_ram.proofs.cut_byte.Goals as goal

-- the first byte reaches the end
reaches : (ram : List ℕ) (at w : ℕ) → length (unpacked ram) ≤ at + w → 2 * length ram ≤ at + w
reaches ram at w h = omega (arith, length-unpacked ram)

pub cut_columns-requires : goal.cut_columns-requires
cut_columns-requires c = let a = c.args in
    let there : 0 < length a.rest.now = grind (arith, common_steps) in
    (omega (arith, c.if-at-ram.true, div-add-mod' a.at 2, mod-lt a.at {m = 2} (omega arith)), omega (arith, reaches a.ram.now a.at (width_of a.m) (c.requires.edge there), few a.m), rows_lt (width_of a.m) _ (few a.m) c.rows_of.ensures.small, rows_lt (width_of a.m) _ (few a.m) c.columns_of.ensures.small)

pub returns-then-at-ram : goal.returns-then-at-ram
returns-then-at-ram c = let a = c.args in
    let rest = a.rest.now in
    let ram = unpacked a.ram.now in
    let b = bank_row a.m a.bank in
    let x = c.in-Some.field-0.now in
    let there : 0 < length rest = grind (arith, common_steps) in
    let first : x ≡ get_or rest 0 0 = grind (arith, common_steps) in
    c.cut_columns.ensures (width_of a.m) (reaches a.ram.now a.at (width_of a.m) (c.requires.edge there))
    ∙ byte_put a.m a.bank x a.at c.rows_of.result c.columns_of.result ram c.requires.some c.requires.four c.requires.two
    (unpacked-nibbles a.ram.now (λ i. (c.slice_known-1.given i).fits)) c.rows_of.ensures c.columns_of.ensures
    ∙ ap (λ (q : ℕ). put_bits 8 a.m b a.at q ram) first
    ∙ sym (first_byte a.m b a.at rest ram there (c.requires.edge there))

pub returns-else-at-ram : goal.returns-else-at-ram
returns-else-at-ram c = let a = c.args in
    sym (run_past a.m (bank_row a.m a.bank) a.at a.rest.now (unpacked a.ram.now) (omega (arith, length-unpacked a.ram.now, c.if-at-ram.false, div-add-mod' a.at 2)))

pub returns-in_default : goal.returns-in_default
returns-in_default c = let none : length c.args.rest.now ≤ 0 = grind (arith, common_steps) in
    sym (no_bytes c.args.m (bank_row c.args.m c.args.bank) c.args.at c.args.rest.now (unpacked c.args.ram.now) none)
