-- `writer::put_head` meets its contract: the settings, then the pointer's bytes.
-- Assumes nothing.
use mathlib.Core.Path.{◌≡◌, sym, ap, ap₂, ◌∙◌}
use mathlib.Core.List.{List, ◌++◌}
use Prim.Native.Nat.{ℕ, ◌+◌, ◌*◌}
use native.Mathlib.Omega.{arith}
use lib.ListN.{length, take, drop}
use lib.Seq.{length-take-le}
use Rattle.lemmas.proofs.Lists.{after_first}
use Rattle.sheet.specs.Parts.{part_of}
use Rattle.writer.proofs.put_head.Goals as goal

first : (part : ℕ) (out : List ℕ) → length out ≡ 8 + 2 * length ((part_of part).pointer 0) → length (take 7 out) ≡ 7
first part out h = length-take-le 7 out (omega arith)

pub returns : goal.returns
returns c = after_first c.put_settings.new.out (drop 7 c.args.out.now) c.put_pointer.new.out 7 (ap length c.put_settings.ensures)
    ∙ ap₂ (λ (x y : List ℕ). x ++ y) c.put_settings.ensures c.put_pointer.ensures

pub slice_bounds-put_settings-end-2 : goal.slice_bounds-put_settings-end-2
slice_bounds-put_settings-end-2 c = sym (first c.args.part c.args.out.now c.requires.1)

pub put_settings-requires : goal.put_settings-requires
put_settings-requires c = (c.requires.0, first c.args.part c.args.out.now c.requires.1)
