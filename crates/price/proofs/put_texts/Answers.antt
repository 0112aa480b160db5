-- `price::put_texts` meets its contract: a symbol's text a turn; the bytes left give the rest.
-- Assumes nothing.
use mathlib.Core.Path.{◌≡◌, sym, ap, ◌∙◌}
use mathlib.Core.List.{List}
use Prim.Native.Nat.{ℕ, ◌+◌, ◌/◌, ◌≤◌, ◌<◌}
use native.Mathlib.Omega.{arith}
use lib.ListN.{length, take, get_or}
use lib.Seq.{length-take-le}
use borrow.Author.Tests.{eq-eqb, ne_eqb}
use Rattle.price_sheet.specs.Price.{shown}
use Rattle.laws.proofs.Spelling.{texts-fit}
use Rattle.glyphs.specs.Tables.{code_of}
use Rattle.price.proofs.Fronting.{read-turn, read-refused, read_done, read-filled}
use Rattle.price.proofs.put_texts.Goals as goal

pub returns-then-entry-byte : goal.returns-then-entry-byte
returns-then-entry-byte c = read-refused c.loop-i-test.true (sym (rw (ne_eqb _ _ c.if-entry-byte.true) at c.entry_of-entry.ensures.code)) c.loop-i.invariant

pub loop-i-preserved : goal.loop-i-preserved
loop-i-preserved c = let inv = c.loop-i.invariant in
    let room : c.loop-i.place + 1 < 160 = omega (arith, inv.few, c.loop-i-test.true, c.requires.0.bytes) in
    let code : c.entry_of-entry.result / 256 ≡ code_of (shown c.args.mode (get_or c.args.segments.now c.loop-i.i 0)) = rw (eq-eqb _ _ c.if-entry-byte.false) at c.entry_of-entry.ensures.code in
    read-turn _ c.loop-i-test.true room c.requires.0.enough code (λ z. absurd (omega (arith, z, c.entry_of-entry.ensures.some))) inv

-- what was before is as long
front : (before out : List ℕ) → before ≡ take 160 out → 160 ≤ length out → length before ≡ 160
front before out e h = ap length e ∙ length-take-le 160 out h

pub bounds-out-place-then-place-before : goal.bounds-out-place-then-place-before
bounds-out-place-then-place-before c = omega (arith, c.if-place-before.true, front c.args.before.now c.args.out.now c.requires.1 c.requires.0.enough, c.requires.0.enough, c.loop-i.invariant.kept)

pub returns-then-place-before : goal.returns-then-place-before
returns-then-place-before c = read_done c.loop-i-test.false c.requires.1 (omega (arith, c.if-place-before.true, front c.args.before.now c.args.out.now c.requires.1 c.requires.0.enough)) c.requires.0.enough c.loop-i.invariant

pub returns-else-place-before : goal.returns-else-place-before
returns-else-place-before c = read-filled c.loop-i-test.false (texts-fit c.args.mode c.args.segments.now 160 (record { bytes = c.requires.0.bytes; four = c.requires.0.four; enough = omega arith })) (omega (arith, c.if-place-before.false, front c.args.before.now c.args.out.now c.requires.1 c.requires.0.enough)) c.loop-i.invariant
