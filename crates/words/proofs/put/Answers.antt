-- `words::put` meets its contract: the new column is a byte, since high divides 256.
-- Assumes nothing.
use mathlib.Core.Path.{◌≡◌}
use Prim.Native.Nat.{ℕ, ◌+◌, ◌*◌, ◌/◌, ◌%◌, ◌≤◌, ◌<◌}
use native.Mathlib.Omega.{arith}
use native.Mathlib.Nat.{mod-lt, div-add-mod', div-lt_iff_lt-mul}
use lib.Arith.{digits_lt}
use lib.ListN.{get_or}
use Rattle.sheet.specs.Data.{changed}
use borrow.Author.Rules.{rules}
use Rattle.words.proofs.put.Goals as goal

new-lt : (q low high f : ℕ) → q < 256 → 0 < low → f * low + low ≤ high → 256 % high ≡ 0 → q / high * high + (f * low + q % low) < 256
new-lt q low high f hq hl hh hd =
    let e : 256 / high * high + 256 % high ≡ 256 = div-add-mod' 256 high in
    let d : q / high < 256 / high = (div-lt_iff_lt-mul {k = high} (omega (arith, hh))).1 (omega (arith, e, hd)) in
    let l : f * low + q % low < high = omega (arith, mod-lt q hl) in
    omega (arith, e, hd, digits_lt d l)

whole : (c : goal.After-slice_known-1) →
    let a = c.args in
    let q = get_or a.ram.now a.at 0 in
    q / a.high * a.high + (a.f * a.low + q % a.low) < 256
whole c =
    let s = c in
    new-lt (get_or s.args.ram.now s.args.at 0) s.args.low s.args.high s.args.f (c.slice_known-1.given s.args.at).fits s.requires.1 s.requires.2 s.requires.3

pub overflow_mul-ram : goal.overflow_mul-ram
overflow_mul-ram c = omega (arith, whole c)

pub overflow_add-ram : goal.overflow_add-ram
overflow_add-ram c = omega (arith, whole c)

pub overflow_add-ram-2 : goal.overflow_add-ram-2
overflow_add-ram-2 c = omega (arith, whole c)

pub returns : goal.returns
unfolding changed
returns c = search rules
