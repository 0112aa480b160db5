-- put_columns: after j turns the first j columns are put, and the registers are j columns on.
-- Assumes nothing.
use mathlib.Core.Path.{◌≡◌, refl, sym, ap, ap₂, ◌∙◌, subst}
use mathlib.Core.List.{List}
use Prim.Native.Nat.{ℕ, ◌<◌, ◌≤◌}
use native.Mathlib.Numerals.{add-one}
use native.Mathlib.Omega.{arith}
use lib.ListN.{length, get_or, set}
use Rattle.sheet.specs.declared.Registers.{Registers}
use Rattle.sheet.specs.Parts.{Part, part_of}
use mathlib.Core.Bool.{true}
use Rattle.sheet.specs.Registers.{in_range, backplanes}
use Rattle.sheet.specs.Places.{advanced, advanced_by}
use Rattle.sheet.specs.Data.{width_of}
use Rattle.laws.proofs.Ranges.{InRange, range-of, planes_pos}
use Rattle.laws.proofs.Counts.{width-less}
use Rattle.columns.specs.Stored.{stored_in, columns_after}
use Rattle.columns.proofs.Apart.{length-after, on_in, on-planes}
use Rattle.columns.proofs.put_columns.Invariants.{Put}
use Rattle.columns.proofs.put_columns.Goals as goal

-- the registers of a turn are in range, and of the same mode; the columns are as many as before
range : {K : Part} {subaddress byte j : ℕ} {r₀ r : Registers} {columns₀ columns : List ℕ} → Put K subaddress byte r₀ columns₀ columns r j
    → in_range K r₀ ≡ true → InRange K r
range {K} {subaddress} {byte} {j} {r₀} h ok = subst (InRange K) (sym h.moved) (on_in K j r₀ (range-of K _ ok))

planes : {K : Part} {subaddress byte j : ℕ} {r₀ r : Registers} {columns₀ columns : List ℕ} → Put K subaddress byte r₀ columns₀ columns r j
    → in_range K r₀ ≡ true → backplanes r ≡ backplanes r₀
planes {K} {subaddress} {byte} {j} {r₀} h ok = ap backplanes h.moved ∙ on-planes K j r₀ (range-of K _ ok)

same : {K : Part} {subaddress byte j : ℕ} {r₀ r : Registers} {columns₀ columns : List ℕ} → Put K subaddress byte r₀ columns₀ columns r j
    → length columns ≡ length columns₀
same {K} {subaddress} {byte} {j} {r₀} {r} {columns₀} h = ap length h.so_far ∙ length-after K subaddress byte r₀ j columns₀

-- so P is one of the columns
there : {K : Part} {subaddress byte j : ℕ} {r₀ r : Registers} {columns₀ columns : List ℕ} → Put K subaddress byte r₀ columns₀ columns r j
    → in_range K r₀ ≡ true → K.columns ≤ length columns₀ → r.p < length columns
there {K} h ok fits = omega (arith, (range h ok).p-in, same h)

pub width-width-requires : goal.width-width-requires
width-width-requires c = rw c.backplanes.ensures (planes_pos _)

pub loop-j-init : goal.loop-j-init
unfolding columns_after advanced_by
loop-j-init c = record { so_far = refl; moved = refl }

pub bounds-columns-registers : goal.bounds-columns-registers
bounds-columns-registers c = there c.loop-j.invariant c.requires.1 c.requires.0

pub stored-requires : goal.stored-requires
stored-requires c = let r = c.args.start in
    let h = range c.loop-j.invariant c.requires.1 in
    let wide : c.width-width.result ≡ width_of (backplanes r) = c.width-width.ensures ∙ ap width_of c.backplanes.ensures in
    (h.m-in, h.i-in, rw (planes c.loop-j.invariant c.requires.1) (width-less (backplanes r) c.loop-j.j (planes_pos r) (omega arith)))

pub bounds-columns-registers-in-loop-j : goal.bounds-columns-registers-in-loop-j
bounds-columns-registers-in-loop-j c = there c.loop-j.invariant c.requires.1 c.requires.0

pub advance-registers-requires : goal.advance-registers-requires
advance-registers-requires c = let h = range c.loop-j.invariant c.requires.1 in (h.p-in, h.a_in)

pub loop-j-preserved : goal.loop-j-preserved
unfolding columns_after advanced_by
loop-j-preserved c = let a = c.args in
    rw (add-one c.loop-j.j)
    (record {
      so_far = ap (λ (q : ℕ). set c.loop-j.columns c.loop-j.registers.p q) c.stored.ensures
          ∙ ap₂ (λ (k : List ℕ) (r : Registers). set k r.p (stored_in r a.subaddress a.byte c.loop-j.j (get_or k r.p 0))) c.loop-j.invariant.so_far c.loop-j.invariant.moved;
      moved = c.advance-registers.ensures ∙ ap (advanced (part_of a.part)) c.loop-j.invariant.moved;
    })
