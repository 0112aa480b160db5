-- `price::put_bytes` meets its contract: a byte a turn; the symbols left give the rest.
-- Assumes nothing.
use mathlib.Core.Path.{sym, ap, ◌∙◌}
use Prim.Native.Nat.{◌<◌}
use native.Mathlib.Omega.{arith}
use Rattle.laws.proofs.Symbols.{begun-symbol}
use Rattle.glyphs.specs.declared.Bytes.{Bytes}
use Rattle.glyphs.specs.Tables.{byte_by}
use Rattle.glyphs.proofs.Tested.{byte-is}
use Rattle.price.proofs.Fronting.{spell-turn, spell-refused, spell-done}
use Rattle.price.proofs.put_bytes.Goals as goal

pub loop-i-preserved : goal.loop-i-preserved
loop-i-preserved c = let inv = c.loop-i.invariant in
    let room : c.loop-i.place < 80 = omega (arith, inv.few.0, c.loop-i-test.true, c.requires.bytes) in
    let found = sym c.begun_at.ensures ∙ c.in-Some.is in
    let s = c.in-Some.symbol in
    let byte = c.byte_of.ensures ∙ ap (λ (l : Bytes). byte_by l s) c.bytes_of-bytes.ensures ∙ byte-is _ c.requires.four _ (begun-symbol _ _ _ _ found) in
    spell-turn s c.byte_of.result c.text_size-i.result c.loop-i-test.true room c.requires.enough found byte c.text_size-i.ensures.0 inv

pub returns-in-None : goal.returns-in-None
returns-in-None c = spell-refused c.loop-i-test.true (sym c.begun_at.ensures ∙ c.in-None.is) c.loop-i.invariant

pub returns : goal.returns
returns c = spell-done c.loop-i-test.false c.loop-i.invariant
