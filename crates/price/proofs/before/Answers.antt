-- `price::before` meets its contract: the first part, and the second after it.
-- Assumes nothing.
use mathlib.Core.Path.{◌≡◌, sym, ap, ap₂, ◌∙◌}
use mathlib.Core.List.{List, ◌++◌, append-nil}
use Prim.Native.Nat.{ℕ, ◌+◌, ◌-◌, ◌≤◌}
use native.Mathlib.Omega.{arith}
use lib.ListN.{length, take, drop, length-append, drop_of_length-le}
use lib.Seq.{take-add, take_at, drop_at, length-take-le}
use Rattle.price.proofs.before.Goals as goal

-- the second part goes over what is after the first
parts : (a z b : List ℕ) (n k : ℕ) → length a ≡ n → length z ≤ k → take n (a ++ z) ++ (b ++ drop k (drop n (a ++ z))) ≡ a ++ b
parts a z b n k e f =
    ap₂ (λ (l r : List ℕ). l ++ (b ++ r)) (take_at a z n e) (ap (λ (l : List ℕ). drop k l) (drop_at a z n e) ∙ drop_of_length-le z {i = k} f)
    ∙ ap (λ (l : List ℕ). a ++ l) (append-nil b)

-- the second part begins where the first ends
whole : (out a b : List ℕ) (n m d k : ℕ) → n ≤ m → d ≡ n → k ≡ m - n → a ≡ take n out → b ≡ take k (drop d out) → a ++ b ≡ take m out
whole out a b n m d k h begun size e f =
    let on : n + (m - n) ≡ m = omega arith in
    ap₂ (λ (l r : List ℕ). l ++ r) e (f ∙ ap₂ (λ (i j : ℕ). take i (drop j out)) size begun) ∙ sym (take-add n (m - n) out) ∙ ap (λ (k : ℕ). take k out) on

pub returns : goal.returns
returns g c =
    let half = c.min-half.result in
    let first : length c.copy_from_slice.new.self ≡ half = ap length c.copy_from_slice.ensures.after ∙ length-take-le half c.args.out.now (omega (arith, c.requires)) in
    parts _ _ _ half _ first (omega (arith, length-append {A = ℕ}))
    ∙ whole c.args.out.now _ _ half g.row.N _ _ (omega arith) (omega arith) (omega arith) c.copy_from_slice.ensures.after c.copy_from_slice-2.ensures.after
