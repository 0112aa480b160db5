-- `wire::bench_of` meets its contract: after i turns the first i chips are read.
-- Assumes nothing.
use mathlib.Core.Path.{◌≡◌, refl, ap, ◌∙◌}
use mathlib.Core.List.{List, [], ◌∷◌, ◌++◌}
use Prim.Native.Nat.{ℕ, zero, suc, ◌+◌, ◌*◌, ◌≤◌, ◌<◌}
use native.Mathlib.Nat.{add-sub_cancel_left}
use native.Mathlib.Numerals.{add-one}
use native.Mathlib.Omega.{arith}
use lib.ListN.{take, drop, set, length-set}
use lib.Seq.{take-suc-set, drop-drop}
use Rattle.sheet.specs.declared.Chip.{Chip}
use Rattle.wire.specs.Bytes.{chip_in, list_in}
use Rattle.wire.proofs.bench_of.Invariants.{Filled}
use Rattle.wire.proofs.bench_of.Goals as goal

-- where the next chip begins
next-chip : (i : ℕ) → 174 + 174 * i ≡ 174 * suc i
next-chip i = omega arith

-- a chip more
list-one : (i : ℕ) (l : List ℕ) → list_in (suc i) l ≡ list_in i l ++ (chip_in (take 174 (drop (174 * i) l)) ∷ [])
unfolding list_in
list-one zero l = refl
list-one (suc i) l =
    ap (λ (cs : List Chip). chip_in (take 174 l) ∷ cs) (list-one i (drop 174 l) ∙ ap (λ (r : List ℕ). list_in i (drop 174 l) ++ (chip_in (take 174 r) ∷ [])) (drop-drop (174 * i) 174 l ∙ ap (λ (k : ℕ). drop k l) (next-chip i)))

turn : (bytes : List ℕ) (count : ℕ) (chips : List Chip) (i : ℕ) (chip : Chip) → chip ≡ chip_in (take 174 (drop (174 * i) bytes)) → count ≤ 16 → i < count → Filled bytes count chips i
    → Filled bytes count (set chips i chip) (i + 1)
turn bytes count chips i chip e few h s =
    record {
      size = length-set chips i chip ∙ s.size;
      so_far = rw (add-one i, take-suc-set chips i chip (omega (arith, s.size)), list-one i bytes, s.so_far, e);
      most = omega arith;
    }

pub loop-i-init : goal.loop-i-init
unfolding list_in
loop-i-init c = record { size = refl; so_far = refl; most = omega arith }

pub loop-i-preserved : goal.loop-i-preserved
loop-i-preserved c = let part = rw (add-sub_cancel_left (174 * c.loop-i.i) 174) at c.chip_of.ensures in
    turn c.args.bytes.now c.args.count c.loop-i.chips c.loop-i.i c.chip_of.result part c.requires.1 c.loop-i-test.true c.loop-i.invariant

pub returns : goal.returns
returns c = let p = c.loop-i in
    let e : p.i ≡ c.args.count = omega (arith, p.invariant.most) in
    record { count = refl; few = c.requires.1; size = p.invariant.size; first = rw (← e) p.invariant.so_far }
