-- `chip::show_own` meets its contract: the columns of the part are a part of the array.
-- Assumes nothing.
use mathlib.Core.Path.{◌≡◌, sym, ◌∙◌}
use mathlib.Core.List.{List}
use Prim.Native.Nat.{ℕ, ◌≤◌}
use Rattle.sheet.specs.Parts.{part_of}
use native.Mathlib.Omega.{arith}
use lib.ListN.{length}
use lib.Seq.{length-take-le}
use Rattle.laws.proofs.Named.{columns-small, by_eighty}
use borrow.Author.Rules.{rules}
use Rattle.chip.proofs.show_own.Goals as goal

-- the part's columns are so many
fits : (part own : ℕ) (columns : List ℕ) → own ≡ (part_of part).columns → 160 ≡ length columns → own ≤ length columns
fits part own columns e all = omega (arith, columns-small part)

pub slice_bounds-columns-end : goal.slice_bounds-columns-end
slice_bounds-columns-end c = let all : 160 ≡ length c.args.columns = search rules in fits c.args.part _ c.args.columns c.columns-own.ensures all

pub slice_bounds-show-end : goal.slice_bounds-show-end
slice_bounds-show-end c = let all : 160 ≡ length c.args.columns = search rules in sym (length-take-le _ _ (fits c.args.part _ c.args.columns c.columns-own.ensures all))

pub show-requires : goal.show-requires
show-requires c =
    let all : 160 ≡ length c.args.columns = search rules in
    (c.requires.0 ∙ sym c.columns-own.ensures ∙ sym (length-take-le _ _ (fits c.args.part _ c.args.columns c.columns-own.ensures all)), omega (arith, c.requires.0, columns-small c.args.part), omega (arith, c.requires.0, by_eighty c.args.part 1), c.requires.1, c.requires.2)
