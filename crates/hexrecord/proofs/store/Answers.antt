-- `hexrecord::store` meets its contract: the data bytes stand where the address says, and a record without any changes nothing.
-- Assumes nothing.
use mathlib.Core.Path.{◌≡◌, ap, ◌∙◌}
use mathlib.Core.Bool.{true}
use mathlib.Core.List.{List, ◌++◌}
use Prim.Native.Nat.{ℕ, ◌+◌, ◌-◌, ◌≤◌, ◌<◌}
use native.Mathlib.Omega.{arith}
use lib.ListN.{length, get_or, take, drop}
use Rattle.image_sheet.specs.Images.{count_of, address_of, inside}
use Rattle.hexrecord.proofs.Faults.{inside_of, stored_is}
use Rattle.hexrecord.proofs.store.Goals as goal

-- where there is data it is inside
fits : (given bytes : List ℕ) (start : ℕ) → start ≡ address_of bytes → inside given bytes ≡ true → 0 < count_of bytes → start + count_of bytes ≤ length given
fits given bytes start a e h = omega (arith, inside_of given bytes e h, a)

pub slice_bounds-copy_from_slice-end : goal.slice_bounds-copy_from_slice-end
slice_bounds-copy_from_slice-end c = fits c.args.given.now c.args.bytes.now c.address_of-start.result c.address_of-start.ensures.0 c.requires.1 c.if-count-gt0.true

pub returns-then-count-gt0 : goal.returns-then-count-gt0
returns-then-count-gt0 c = let given = c.args.given.now in
    let start = c.address_of-start.result in
    let count = get_or c.args.bytes.now 0 0 in
    ap (λ (l : List ℕ). take start given ++ (l ++ drop (start + count - start) (drop start given))) c.copy_from_slice.ensures.after
    ∙ stored_is given 0 c.args.bytes.now (omega (arith, c.if-count-gt0.true)) start c.address_of-start.ensures.0 (fits given c.args.bytes.now start c.address_of-start.ensures.0 c.requires.1 c.if-count-gt0.true) c.requires.0

pub returns-else-count-gt0 : goal.returns-else-count-gt0
returns-else-count-gt0 c = let none : get_or c.args.bytes.now 0 0 ≡ 0 = omega (arith, c.if-count-gt0.false) in
    rw none
