-- A run in two: the bytes whose columns are all there, and the rest.
-- Assumes nothing.
use mathlib.Core.Path.{◌≡◌, sym, ap, ◌∙◌}
use mathlib.Core.List.{List}
use Prim.Native.Nat.{ℕ, ◌+◌, ◌-◌, ◌*◌, ◌/◌, ◌≤◌, ◌<◌, min}
use native.Mathlib.Nat.{div-le_self, div-mul-le_self, div-add-mod', mod-lt, mul-le-mul_left, mul-le-mul_right}
use native.Mathlib.Omega.{arith}
use lib.ListN.{length, take, drop, length-take, length-drop, take-append-drop}
use lib.Seq.{length-take-le}
use Rattle.sheet.specs.Data.{width_of}
use Rattle.sheet.specs.Runs.{put_run}
use Rattle.ram.proofs.Runs.{run-append}

-- a byte has at most eight columns
pub near : (m whole : ℕ) → width_of m * whole ≤ 8 * whole
near m whole = mul-le-mul_right whole (omega (arith, div-le_self 7 m))

pub fit : (m n left whole : ℕ) → whole ≡ min n (left / width_of m) → width_of m * whole ≤ left
fit m n left whole e = omega (arith, mul-le-mul_left {m = whole} {n = left / width_of m} (width_of m) (omega arith), div-mul-le_self left (width_of m))

-- the first byte that does not fit reaches the end
pub edge : (m n v size whole : ℕ) → whole ≡ min n ((size - v) / width_of m) → whole < n → size ≤ v + width_of m * whole + width_of m
edge m n v size whole ew h =
    let left : ℕ = size - v in
    let e : whole ≡ left / width_of m = omega arith in
    omega (arith, ap (λ (k : ℕ). width_of m * k) e, div-add-mod' left (width_of m), mod-lt left {m = width_of m} (omega arith))

pub some_left : (n whole : ℕ) (bytes : List ℕ) → 0 < length (take n (drop whole bytes)) → whole < length bytes
some_left n whole bytes h = omega (arith, simp (length-take, length-drop) at h)

pub joined : (m b v whole : ℕ) (bytes ram first : List ℕ) → whole ≤ length bytes → first ≡ put_run m b v (take whole bytes) ram
    → put_run m b (v + width_of m * whole) (drop whole bytes) first ≡ put_run m b v bytes ram
joined m b v whole bytes ram first h e =
    ap (put_run m b (v + width_of m * whole) (drop whole bytes)) e
    ∙ ap (λ (n : ℕ). put_run m b (v + width_of m * n) (drop whole bytes) (put_run m b v (take whole bytes) ram)) (sym (length-take-le whole bytes h))
    ∙ sym (run-append m b v (take whole bytes) (drop whole bytes) ram)
    ∙ ap (λ (xs : List ℕ). put_run m b v xs ram) (take-append-drop whole bytes)
