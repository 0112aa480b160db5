-- `packed_words::columns_of` meets its contract, mode by mode.
-- Assumes nothing.
use mathlib.Core.Path.{◌≡◌, sym, subst}
use Prim.Native.Nat.{ℕ}
use native.Mathlib.Omega.{arith}
use Rattle.words.specs.Fields.{field}
use Rattle.packed_words.specs.Placed.{nibble_of, Word}
use Rattle.packed_words.proofs.Tested.{word-tested}
use Rattle.packed_words.proofs.columns_of.Goals as goal

in-mode : (k m x t : ℕ) → m ≡ k → Word k x t → Word m x t
in-mode k m x t e w = subst (λ (n : ℕ). Word n x t) (sym e) w

pub returns-in_default : goal.returns-in_default
unfolding field nibble_of
returns-in_default c = let x = c.args.x in
    in-mode 4 c.args.m x _ (omega arith) (subst (λ (y : ℕ). Word 4 x y) (sym c.reversed.ensures) (word-tested 4 (λ n. field n 0 8) tt x c.ranges.x.fits))

pub returns-in-1 : goal.returns-in-1
returns-in-1 c = in-mode 1 _ _ _ c.in-1.is c.eight_columns.ensures

pub returns-in-2 : goal.returns-in-2
returns-in-2 c = in-mode 2 _ _ _ c.in-2.is c.four_columns.ensures

pub returns-in-3 : goal.returns-in-3
returns-in-3 c = in-mode 3 _ _ _ c.in-3.is c.three_columns.ensures
