-- columns_fit: whether the check of the part's columns passes.
-- Assumes nothing.
use mathlib.Core.Path.{◌≡◌, sym}
use native.Mathlib.Omega.{arith}
use lib.ListN.{length}
use lib.Seq.{length-take-le}
use Rattle.laws.proofs.Named.{columns-small}
use borrow.Author.Rules.{rules}
use Rattle.chip.proofs.columns_fit.Goals as goal

pub slice_bounds-columns-end : goal.slice_bounds-columns-end
slice_bounds-columns-end c = let all : 160 ≡ length c.args.columns = search rules in
    omega (arith, all, c.columns-own.ensures, columns-small c.args.part)

pub slice_bounds-first_over-end : goal.slice_bounds-first_over-end
slice_bounds-first_over-end c = sym (length-take-le _ _ (let all : 160 ≡ length c.args.columns = search rules in omega (arith, all, c.columns-own.ensures, columns-small c.args.part)))
