-- `ram::static_run` meets its contract: after i turns the first i bytes are written, each as its first four columns and its last.
-- Assumes nothing.
use mathlib.Core.Path.{ap, ap₂, ◌∙◌}
use mathlib.Core.Bool.{Bool}
use Prim.Native.Nat.{ℕ, ◌+◌, ◌-◌, ◌*◌, ◌^◌, ◌<◌}
use native.Mathlib.Omega.{arith}
use lib.Bits.{bit_and}
use lib.Dec.{T, eqb, eqb→eq}
use lib.ListN.{get_or}
use Rattle.lemmas.proofs.Tests.{all, all-at}
use Rattle.words.specs.Fields.{with_rows, field, column_of, mixed, merged, InBank}
use Rattle.words.proofs.Words.{first-four, four-columns}
use Rattle.ram.specs.Tables.{static_columns}
use Rattle.ram.proofs.Runs.{begun, turn, small}
use Rattle.ram.proofs.static_run.Goals as goal

-- four columns of a byte from its column k on, in a bank, as a test that computes
abbrev is_shown : ℕ → ℕ → ℕ → ℕ → Bool
is_shown masks k bank x =
    all 4 (λ j. eqb (bit_and (column_of (static_columns x masks (7 - 2 * bank)) j) ((2 ^ 1 - 1) * (1 + 3 * bank))) (bit_and (5 * field x (1 * (k + j)) 1) ((2 ^ 1 - 1) * (1 + 3 * bank))))

shown : (masks k bank x : ℕ) → T (all 2 (λ b. all 256 (is_shown masks k b))) → bank < 2 → x < 256 → InBank 1 bank x k (static_columns x masks (7 - 2 * bank))
shown masks k bank x ok lb lx j h =
    eqb→eq _ _ (all-at 4 (λ i. eqb (bit_and (column_of (static_columns x masks (7 - 2 * bank)) i) ((2 ^ 1 - 1) * (1 + 3 * bank))) (bit_and (5 * field x (1 * (k + i)) 1) ((2 ^ 1 - 1) * (1 + 3 * bank)))) (all-at 256 (is_shown masks k bank) (all-at 2 (λ b. all 256 (is_shown masks k b)) ok bank lb) x lx) j h)

first-shown : (bank x : ℕ) → bank < 2 → x < 256 → InBank 1 bank x 0 (static_columns x 0x10204080 (7 - 2 * bank))
unfolding static_columns field column_of
first-shown bank x lb lx = shown 0x10204080 0 bank x tt lb lx

last-shown : (bank x : ℕ) → bank < 2 → x < 256 → InBank 1 bank x 4 (static_columns x 0x01020408 (7 - 2 * bank))
unfolding static_columns field column_of
last-shown bank x lb lx = shown 0x01020408 4 bank x tt lb lx

pub loop-i-preserved : goal.loop-i-preserved
unfolding with_rows column_of mixed
loop-i-preserved c = let a = c.args in
    let i = c.loop-i.i in
    let x = get_or a.bytes.now i 0 in
    let at = a.v + 8 * i in
    let byte = (c.shared_slice_known-1.given i).fits in
    let bank = c.wide.ensures.0 in
    let moved = c.wide-2.ensures.0 in
    let w = small (omega arith) (omega arith) c.requires.2 c.loop-i.invariant in
    let one = c.static_columns.ensures ∙ ap (λ (k : ℕ). static_columns x 0x10204080 (7 - 2 * k)) moved in
    let two = c.static_columns-in-loop-i.ensures ∙ ap (λ (k : ℕ). static_columns x 0x01020408 (7 - 2 * k)) moved in
    let first = first-four 1 16843009 a.bank x at (static_columns x 0x10204080 (7 - 2 * a.bank)) c.loop-i.ram _ tt tt (omega arith) (omega arith) c.requires.0 w (first-shown a.bank x c.requires.0 byte)
    (c.put_four.ensures ∙ ap₂ (λ (k t : ℕ). merged 4 (16843009 * (1 + 3 * k)) t at c.loop-i.ram) bank one) in
    turn c.loop-i-test.true
    (four-columns 1 16843009 a.bank x at 4 (static_columns x 0x01020408 (7 - 2 * a.bank)) c.loop-i.ram _ tt tt (omega arith) (omega arith) c.requires.0 w (last-shown a.bank x c.requires.0 byte) first c.put_four-in-loop-i.new.ram
    (c.put_four-in-loop-i.ensures ∙ ap₂ (λ (k t : ℕ). merged 4 (16843009 * (1 + 3 * k)) t (at + 4) c.put_four.new.ram) bank two))
    c.loop-i.invariant

pub loop-i-init : goal.loop-i-init
loop-i-init c = begun
