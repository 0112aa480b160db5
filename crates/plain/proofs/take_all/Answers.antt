-- take_all: as many chips take the bytes as those change.
-- Assumes nothing.
use mathlib.Core.Path.{◌≡◌, refl, ap, ◌∙◌}
use mathlib.Core.List.{List, [], ◌∷◌, ◌++◌}
use Prim.Native.Nat.{ℕ, zero, suc, ◌+◌, ◌<◌, ◌≤◌}
use native.Mathlib.Numerals.{add-one}
use native.Mathlib.Omega.{arith}
use lib.ListN.{length, get_or, set, take, drop}
use lib.Seq.{length-take-le}
use Rattle.walks.proofs.Firsts.{first_of, first-at, first_more}
use Rattle.sheet.specs.declared.Chip.{Chip}
use Rattle.turns.specs.declared.Turn.{Turn}
use Rattle.turns.specs.Turns.{taken_by}
use Rattle.plain.proofs.Reaching.{reached}
use Rattle.plain.proofs.take_all.Invariants.{Taken}
use Rattle.plain.proofs.take_all.Goals as goal

-- one chip more
more : (bytes : List ℕ) (t : Turn) (n limit i : ℕ) (chips₀ chips : List Chip) (d new : Chip) → Taken bytes t n limit chips₀ chips i → i < limit → limit ≤ length chips₀
    → new ≡ taken_by bytes t n (get_or chips i d) → Taken bytes t n limit chips₀ (set chips i new) (i + 1)
more bytes t n limit i chips₀ chips d new s l fits e =
    let f = taken_by bytes t n in
    rw (add-one i)
    (record {
      so_far = ap (set chips i) e ∙ ap (λ (zs : List Chip). set zs i (f (get_or zs i d))) s.so_far ∙ ap (λ (c : Chip). set (first_of f i chips₀) i (f c)) (first-at f i chips₀ d) ∙ first_more f i chips₀ d (omega arith);
      most = l;
    })

-- the chips behind those that are reached stay
with-rest : (f : Chip → Chip) (n : ℕ) (chips : List Chip) → first_of f n (take n chips) ++ drop n chips ≡ first_of f n chips
with-rest f zero chips = refl
with-rest f (suc n) [] = refl
with-rest f (suc n) (c ∷ cs) = ap (λ (l : List Chip). f c ∷ l) (with-rest f n cs)

pub loop-chip-init : goal.loop-chip-init
loop-chip-init c = record { so_far = refl; most = omega arith }

pub loop-chip-preserved : goal.loop-chip-preserved
loop-chip-preserved c = let a = c.args in
    let limit = c.reach-limit.result in
    let inside : limit ≤ length a.chips.now = omega (arith, (reached a.bytes.now a.turn a.count a.chips.now).within, c.reach-limit.ensures) in
    let size : length (take limit a.chips.now) ≡ limit = length-take-le limit a.chips.now inside in
    more a.bytes.now a.turn a.count limit c.loop-chip.chip-index (take limit a.chips.now) c.loop-chip.chip-items _ c.take.result c.loop-chip.invariant (omega (arith, size)) (omega (arith, size)) c.take.ensures

pub returns : goal.returns
returns c = let a = c.args in
    let f = taken_by a.bytes.now a.turn a.count in
    let limit = c.reach-limit.result in
    let inside : limit ≤ length a.chips.now = omega (arith, (reached a.bytes.now a.turn a.count a.chips.now).within, c.reach-limit.ensures) in
    let size : length (take limit a.chips.now) ≡ limit = length-take-le limit a.chips.now inside in
    let all : c.loop-chip.chip-index ≡ limit = omega (arith, size, c.loop-chip.invariant.most) in
    ap (λ (l : List Chip). l ++ drop limit a.chips.now) (c.loop-chip.invariant.so_far ∙ ap (λ (k : ℕ). first_of f k (take limit a.chips.now)) all)
    ∙ with-rest f limit a.chips.now ∙ ap (λ (k : ℕ). first_of f k a.chips.now) c.reach-limit.ensures ∙ (reached a.bytes.now a.turn a.count a.chips.now).all
