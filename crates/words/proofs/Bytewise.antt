-- A word of columns, a byte each: masks, shifts, products and sums of such words act on each column apart.
-- Assumes nothing.
use mathlib.Core.Path.{◌≡◌, refl, sym, ap, ap₂, ◌∙◌}
use Prim.Native.Nat.{ℕ, zero, suc, ◌+◌, ◌*◌, ◌/◌, ◌%◌, ◌^◌, ◌<◌}
use native.Mathlib.Nat.{add-zero, zero-mul, mod-lt, add-mul, mul_right_comm, mul-div_cancel, div-add-mod', mul-le-mul_right}
use native.Mathlib.Omega.{arith}
use lib.Bits.{bit_and, bit_or, and_zero_l, and_zero_r, or_zero_l, and_block, or_block, and_shr, and_le_r}
use lib.Pow.{pow_pos}
use Rattle.words.specs.Fields.{joined}

pub joined-alike : (n : ℕ) (p q : ℕ → ℕ) → ((j : ℕ) → p j ≡ q j) → joined n p ≡ joined n q
unfolding joined
joined-alike zero p q e = refl
joined-alike (suc n) p q e = ap₂ (λ (a b : ℕ). a * 256 + b) (joined-alike n (λ j. p (suc j)) (λ j. q (suc j)) (λ j. e (suc j))) (e 0)

pub and-joined : (n : ℕ) (p q : ℕ → ℕ) → ((j : ℕ) → p j < 256) → ((j : ℕ) → q j < 256) → bit_and (joined n p) (joined n q) ≡ joined n (λ j. bit_and (p j) (q j))
unfolding joined
and-joined zero p q lp lq = and_zero_l 0
and-joined (suc n) p q lp lq =
    and_block 8 (joined n (λ j. p (suc j))) (joined n (λ j. q (suc j))) (p 0) (q 0) (lp 0) (lq 0)
    ∙ ap (λ (k : ℕ). k * 256 + bit_and (p 0) (q 0)) (and-joined n (λ j. p (suc j)) (λ j. q (suc j)) (λ j. lp (suc j)) (λ j. lq (suc j)))

pub or-joined : (n : ℕ) (p q : ℕ → ℕ) → ((j : ℕ) → p j < 256) → ((j : ℕ) → q j < 256) → bit_or (joined n p) (joined n q) ≡ joined n (λ j. bit_or (p j) (q j))
unfolding joined
or-joined zero p q lp lq = or_zero_l 0
or-joined (suc n) p q lp lq =
    or_block 8 (joined n (λ j. p (suc j))) (joined n (λ j. q (suc j))) (p 0) (q 0) (lp 0) (lq 0)
    ∙ ap (λ (k : ℕ). k * 256 + bit_or (p 0) (q 0)) (or-joined n (λ j. p (suc j)) (λ j. q (suc j)) (λ j. lp (suc j)) (λ j. lq (suc j)))

pub scaled : (n : ℕ) (p : ℕ → ℕ) (k : ℕ) → joined n p * k ≡ joined n (λ j. p j * k)
unfolding joined
scaled zero p k = zero-mul k
scaled (suc n) p k =
    add-mul (joined n (λ j. p (suc j)) * 256) (p 0) k ∙ ap (λ (i : ℕ). i + p 0 * k) (mul_right_comm (joined n (λ j. p (suc j))) 256 k)
    ∙ ap (λ (i : ℕ). i * 256 + p 0 * k) (scaled n (λ j. p (suc j)) k)

pub summed : (n : ℕ) (p q : ℕ → ℕ) → joined n p + joined n q ≡ joined n (λ j. p j + q j)
unfolding joined
summed zero p q = refl
summed (suc n) p q = let e = summed n (λ j. p (suc j)) (λ j. q (suc j)) in omega (arith, e)

-- a mask that is moved up
moved : (w m e : ℕ) → bit_and w (m * 2 ^ e) ≡ bit_and (w / 2 ^ e) m * 2 ^ e
moved w m e =
    ap₂ bit_and (sym (div-add-mod' w (2 ^ e))) (sym (add-zero (m * 2 ^ e)))
    ∙ and_block e (w / 2 ^ e) m (w % 2 ^ e) 0 (mod-lt w (pow_pos e)) (pow_pos e)
    ∙ ap (λ (n : ℕ). bit_and (w / 2 ^ e) m * 2 ^ e + n) (and_zero_r (w % 2 ^ e)) ∙ add-zero (bit_and (w / 2 ^ e) m * 2 ^ e)

-- the lowest column, of b bits, and those above it, shifted down under a mask
pub down : (b m e w k a : ℕ) → m * 2 ^ e < 2 ^ b → a < 2 ^ b → bit_and ((w * 2 ^ b + a) / 2 ^ e) (k * 2 ^ b + m) ≡ bit_and (w / 2 ^ e) k * 2 ^ b + bit_and (a / 2 ^ e) m
down b m e w k a high h =
    let all = w * 2 ^ b + a in
    let mask : (k * 2 ^ e) * 2 ^ b + m * 2 ^ e ≡ (k * 2 ^ b + m) * 2 ^ e = sym (add-mul (k * 2 ^ b) m (2 ^ e) ∙ ap (λ (n : ℕ). n + m * 2 ^ e) (mul_right_comm k (2 ^ b) (2 ^ e))) in
    let B = bit_and (w / 2 ^ e) k in
    let A = bit_and (a / 2 ^ e) m in
    ap (bit_and (all / 2 ^ e)) (sym (mul-div_cancel (k * 2 ^ b + m) (pow_pos e)))
    ∙ sym (and_shr all ((k * 2 ^ b + m) * 2 ^ e) e)
    ∙ ap (λ (n : ℕ). bit_and all n / 2 ^ e) (sym mask)
    ∙ ap (λ (n : ℕ). n / 2 ^ e) (and_block b w (k * 2 ^ e) a (m * 2 ^ e) h high)
    ∙ ap₂ (λ (x y : ℕ). (x * 2 ^ b + y) / 2 ^ e) (moved w k e) (moved a m e)
    ∙ ap (λ (n : ℕ). (n + A * 2 ^ e) / 2 ^ e) (mul_right_comm B (2 ^ e) (2 ^ b))
    ∙ ap (λ (n : ℕ). n / 2 ^ e) (sym (add-mul (B * 2 ^ b) A (2 ^ e)))
    ∙ mul-div_cancel (B * 2 ^ b + A) (pow_pos e)

pub shifted : (n m e : ℕ) (q : ℕ → ℕ) → m * 2 ^ e < 256 → ((j : ℕ) → q j < 256) → bit_and (joined n q / 2 ^ e) (joined n (λ j. m)) ≡ joined n (λ j. bit_and (q j / 2 ^ e) m)
unfolding joined
shifted zero m e q high h = and_zero_r (0 / 2 ^ e)
shifted (suc n) m e q high h =
    down 8 m e (joined n (λ j. q (suc j))) (joined n (λ j. m)) (q 0) high (h 0)
    ∙ ap (λ (k : ℕ). k * 256 + bit_and (q 0 / 2 ^ e) m) (shifted n m e (λ j. q (suc j)) high (λ j. h (suc j)))

-- the rows in m of a column change places with those 2 ^ e times as high
abbrev pub exchanged : ℕ → ℕ → ℕ → ℕ
exchanged m e x = bit_or (bit_and x m * 2 ^ e) (bit_and (x / 2 ^ e) m)

pub exchange : (n m e : ℕ) (q : ℕ → ℕ) → m < 256 → m * 2 ^ e < 256 → ((j : ℕ) → q j < 256)
    → bit_or (bit_and (joined n q) (joined n (λ j. m)) * 2 ^ e) (bit_and (joined n q / 2 ^ e) (joined n (λ j. m))) ≡ joined n (λ j. exchanged m e (q j))
exchange n m e q small high h =
    ap₂ bit_or (ap (λ (k : ℕ). k * 2 ^ e) (and-joined n q (λ j. m) h (λ j. small)) ∙ scaled n (λ j. bit_and (q j) m) (2 ^ e)) (shifted n m e q high h)
    ∙ or-joined n (λ j. bit_and (q j) m * 2 ^ e) (λ j. bit_and (q j / 2 ^ e) m) (λ j. omega (arith, high, mul-le-mul_right (2 ^ e) (and_le_r (q j) m))) (λ j. omega (arith, small, and_le_r (q j / 2 ^ e) m))
