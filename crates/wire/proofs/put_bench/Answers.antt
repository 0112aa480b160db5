-- `wire::put_bench` meets its contract: after i turns the first i chips are written.
-- Assumes nothing.
use mathlib.Core.Path.{◌≡◌, refl, ap, sym, ◌∙◌}
use mathlib.Core.List.{List, [], ◌∷◌, ◌++◌, append-nil, append_assoc}
use Prim.Native.Nat.{ℕ, ◌+◌, ◌*◌, ◌≤◌, ◌<◌}
use native.Mathlib.Nat.{add-sub_cancel_left}
use native.Mathlib.Numerals.{add-one}
use native.Mathlib.Omega.{arith}
use lib.ListN.{length, get_or, take, drop, length-take, length-drop, length-append}
use lib.Seq.{take-suc, take_all, take_at, length-take-le}
use Rattle.sheet.specs.declared.Chip.{Chip}
use Rattle.wire.specs.Bytes.{chip_bytes, list_bytes}
use Rattle.wire.proofs.put_bench.Invariants.{Put}
use Rattle.wire.proofs.put_bench.Goals as goal

-- a chip more
bytes_one : (cs : List Chip) (c : Chip) → list_bytes (cs ++ (c ∷ [])) ≡ list_bytes cs ++ chip_bytes c
unfolding list_bytes
bytes_one [] c = append-nil (chip_bytes c)
bytes_one (x ∷ xs) c = ap (λ (l : List ℕ). chip_bytes x ++ l) (bytes_one xs c) ∙ sym (append_assoc (chip_bytes x) (list_bytes xs) (chip_bytes c))

turn : (chips : List Chip) (count : ℕ) (out new : List ℕ) (i : ℕ) (d : Chip) → new ≡ chip_bytes (get_or chips i d) → length new ≡ 174 → i < count → count ≤ length chips → Put chips count out i
    → Put chips count (take (174 * i) out ++ (new ++ drop 174 (drop (174 * i) out))) (i + 1)
turn chips count out new i d e len h few s =
    let head : length (take (174 * i) out) ≡ 174 * i = length-take-le (174 * i) out (omega (arith, s.size)) in
    let rest = drop 174 (drop (174 * i) out) in
    let front : length (take (174 * i) out ++ new) ≡ 174 * (i + 1) = omega (arith, length-append (take (174 * i) out) new) in
    let joined = sym (append_assoc (take (174 * i) out) new rest) in
    record {
      size = ap length joined ∙ omega (arith, length-append (take (174 * i) out ++ new) rest, length-drop 174 (drop (174 * i) out), length-drop (174 * i) out, s.size);
      so_far =
          ap (take (174 * (i + 1))) joined ∙ take_at (take (174 * i) out ++ new) rest (174 * (i + 1)) front
          ∙ rw (add-one i, take-suc chips i d (omega arith), bytes_one (take i chips) (get_or chips i d), s.so_far, e);
      most = omega arith;
    }

pub loop-i-init : goal.loop-i-init
unfolding list_bytes
loop-i-init c = record { size = c.requires.0; so_far = refl; most = omega arith }

pub put_chip-requires : goal.put_chip-requires
put_chip-requires c = simp (add-sub_cancel_left, length-take, length-drop) (omega (arith, c.loop-i.invariant.size))

pub loop-i-preserved : goal.loop-i-preserved
loop-i-preserved c = let bench = c.args.bench in
    let whole : length c.put_chip.new.out ≡ 174 = c.put_chip.auto.out ∙ simp (add-sub_cancel_left, length-take, length-drop) (omega (arith, c.loop-i.invariant.size)) in
    rw (add-sub_cancel_left (174 * c.loop-i.i) 174) (turn bench.chips bench.count c.loop-i.out c.put_chip.new.out c.loop-i.i _ c.put_chip.ensures whole (omega arith) (omega arith) c.loop-i.invariant)

pub shape_of-out : goal.shape_of-out
shape_of-out c = c.loop-i.invariant.size ∙ sym c.requires.0

pub returns : goal.returns
returns c = let p = c.loop-i in
    let bench = c.args.bench in
    let e : p.i ≡ bench.count = omega (arith, p.invariant.most) in
    sym (take_all (174 * p.i) p.out (omega (arith, p.invariant.size))) ∙ p.invariant.so_far ∙ ap (λ (k : ℕ). list_bytes (take k bench.chips)) e
