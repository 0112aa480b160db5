-- A byte written column by column, the first column and then each later one, from its bits y in the other order.
-- Assumes nothing.
use mathlib.Core.Path.{◌≡◌, refl, sym, ap, ◌∙◌, subst}
use mathlib.Core.List.{List}
use Prim.Native.Nat.{ℕ, ◌+◌, ◌*◌, ◌/◌, ◌%◌, ◌^◌, ◌≤◌}
use native.Mathlib.Nat.{add-zero, zero-add, mul-zero, div-one}
use native.Mathlib.Omega.{arith}
use lib.ListN.{set}
use Rattle.sheet.specs.Data.{changed, put_bits}
use Rattle.laws.proofs.Nibbles.{Nibbles, bits-nibbles}
use Rattle.words.specs.Fields.{with_rows, field}
use Rattle.words.proofs.Fields.{field-part, column}

module _ (m b x v y : ℕ) (ram : List ℕ) (told : y ≡ field x 0 8) where
  -- column j, of h rows, where d bits are left after it
  pub later : (j h d : ℕ) (before after : List ℕ) → h ≤ m → m * j + (h + d) ≡ 8
      → before ≡ put_bits (m * j) m b v x ram → after ≡ changed (with_rows b h (y / 2 ^ (m * j) % 2 ^ h)) (v + j) before
      → after ≡ put_bits (m * j + h) m b v x ram
  later j h d before after few all eb ea =
      let bits : y / 2 ^ (m * j) % 2 ^ h ≡ field x (m * j) h =
      ap (λ (n : ℕ). n / 2 ^ (m * j) % 2 ^ h) (told ∙ ap (λ (n : ℕ). field x 0 n) (sym all)) ∙ field-part x (m * j) h d in
      ea ∙ ap (λ (f : ℕ). changed (with_rows b h f) (v + j) before) bits ∙ ap (λ (r : List ℕ). changed (with_rows b h (field x (m * j) h)) (v + j) r) eb
      ∙ sym (column m b x v j ram h few)

  pub first : (h d : ℕ) (after : List ℕ) → h ≤ m → h + d ≡ 8 → after ≡ changed (with_rows b h (y % 2 ^ h)) v ram → after ≡ put_bits h m b v x ram
  unfolding put_bits
  first h d after few all ea =
      let e : y / 2 ^ (m * 0) ≡ y = rw (mul-zero m) (div-one y) in
      rw (mul-zero m, zero-add h) at
      (later 0 h d ram after few (rw (mul-zero m, zero-add (h + d)) all) (rw (mul-zero m) refl) (rw (e, add-zero v) ea))

-- of a column below 16 nothing is left
overwritten : (c f : ℕ) (ram : List ℕ) → Nibbles ram → set ram c f ≡ changed (with_rows 0 4 f) c ram
unfolding changed with_rows
overwritten c f ram w = ap (λ (q : ℕ). set ram c q) (omega (arith, w c))

-- 1:4: two columns of four rows, all of them new
pub four-put : (x v y : ℕ) (ram : List ℕ) → y ≡ field x 0 8 → Nibbles ram → set (set ram v (y % 16)) (v + 1) (y / 16 % 16) ≡ put_bits 8 4 0 v x ram
four-put x v y ram told w =
    let e0 : set ram v (y % 16) ≡ put_bits 4 4 0 v x ram = first 4 0 x v y ram told 4 4 _ (omega arith) refl (overwritten v (y % 16) ram w) in
    let w1 : Nibbles (set ram v (y % 16)) = subst Nibbles (sym e0) (bits-nibbles 4 4 0 v x ram (omega arith) (omega arith) w) in
    later 4 0 x v y ram told 1 4 0 _ _ (omega arith) refl e0 (overwritten (v + 1) (y / 16 % 16) (set ram v (y % 16)) w1)
