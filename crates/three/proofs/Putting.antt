-- A loop that writes a data byte at each even column: after c of the columns from v on the output has their bytes.
-- Assumes nothing.
use mathlib.Core.Path.{◌≡◌, refl, sym, ap, ◌∙◌}
use mathlib.Core.List.{List, ◌++◌, append_assoc, append-nil}
use Prim.Native.Nat.{ℕ, zero, suc, ◌+◌, ◌*◌, ◌/◌, ◌%◌, ◌≤◌}
use native.Mathlib.Nat.{add-zero, zero-add, mul-zero, mul-add, mul-le-mul_left}
use native.Mathlib.Omega.{arith}
use lib.ListN.{length, take, drop, length-append, length-drop}
use lib.Seq.{length-take-le, take_all, take_at}
use Rattle.sheet.specs.Parts.{Part, part_of}
use Rattle.writer_sheet.specs.Three.{pair_of, byte_at, pairs_from}
use Rattle.laws.proofs.Named.{of-both}

-- how long a data byte is with the commands before it
abbrev pub step_of : Part → ℕ
step_of K = 4 + 2 * length (K.pointer 0)

pub step_small : (part : ℕ) → step_of (part_of part) ≤ 8
step_small part = of-both (λ K. step_of K ≤ 8) part (omega arith) (omega arith)

-- some bytes, and then more
pairs_join : (K : Part) (n k c : ℕ) (wanted : List ℕ) → pairs_from K n c wanted ++ pairs_from K k (c + 2 * n) wanted ≡ pairs_from K (n + k) c wanted
unfolding pairs_from
pairs_join K zero k c wanted = rw (zero-add k, add-zero c) refl
pairs_join K (suc n) k c wanted =
    let on : c + 2 * suc n ≡ c + 2 + 2 * n = omega arith in
    let more : suc n + k ≡ suc (n + k) = omega arith in
    rw (on, more) (append_assoc (byte_at K c (pair_of wanted c)) (pairs_from K n (c + 2) wanted) (pairs_from K k (c + 2 + 2 * n) wanted) ∙ ap (λ (l : List ℕ). byte_at K c (pair_of wanted c) ++ l) (pairs_join K n k (c + 2) wanted))

pub one_pair : (K : Part) (c : ℕ) (wanted : List ℕ) → byte_at K c (pair_of wanted c) ≡ pairs_from K 1 c wanted
unfolding pairs_from
one_pair K c wanted = sym (append-nil (byte_at K c (pair_of wanted c)))

pub record Putting (K : Part) (step size v : ℕ) (wanted before out : List ℕ) (at c : ℕ) : Type 0 where
  pub long : length out ≡ length before
  pub even : c % 2 ≡ 0
  pub here : at ≡ step * (c / 2)
  pub so_far : take at out ≡ pairs_from K (c / 2) v wanted
  pub most : c ≤ size

module _ {K : Part} {step size v : ℕ} {wanted before : List ℕ} where
  pub begun : Putting K step size v wanted before before 0 0
  unfolding pairs_from
  begun = record { long = refl; even = refl; here = sym (mul-zero step); so_far = refl; most = omega arith }

  -- the next k bytes have their place
  pub room : {out : List ℕ} {at c : ℕ} (k : ℕ) → length before ≡ step * (size / 2) → c + 2 * k ≤ size → Putting K step size v wanted before out at c → at + step * k ≤ length out
  room {out} {at} {c} k e l s =
      let more : c / 2 + k ≤ size / 2 = omega (arith, s.even) in
      omega (arith, s.long, s.here, e, mul-le-mul_left step more, mul-add step (c / 2) k)

  pub turn : {out new : List ℕ} {at c after next : ℕ} (k : ℕ) → after ≡ at + step * k → next ≡ c + 2 * k → length before ≡ step * (size / 2) → c + 2 * k ≤ size → length new ≡ step * k → new ≡ pairs_from K k (v + c) wanted
      → Putting K step size v wanted before out at c → Putting K step size v wanted before (take at out ++ (new ++ drop (step * k) (drop at out))) after next
  turn {out} {new} {at} {c} k there on e l len is s =
      let fits : at + step * k ≤ length out = room k e l s in
      let head : length (take at out) ≡ at = length-take-le at out (omega (arith, fits)) in
      let rest = drop (step * k) (drop at out) in
      let front : length (take at out ++ new) ≡ at + step * k = omega (arith, head, len, length-append (take at out) new) in
      let joined = sym (append_assoc (take at out) new rest) in
      let pairs : (c + 2 * k) / 2 ≡ c / 2 + k = omega (arith, s.even) in
      let column : v + c ≡ v + 2 * (c / 2) = omega (arith, s.even) in
      rw (there, on)
      (record {
        long = ap length joined ∙ omega (arith, length-append (take at out ++ new) rest, length-drop (step * k) (drop at out), length-drop at out, s.long, fits, front);
        even = omega (arith, s.even);
        here = rw pairs (omega (arith, s.here, mul-add step (c / 2) k));
        so_far =
            ap (take (at + step * k)) joined ∙ take_at (take at out ++ new) rest (at + step * k) front
            ∙ ap (λ (l : List ℕ). l ++ new) s.so_far ∙ ap (λ (l : List ℕ). pairs_from K (c / 2) v wanted ++ l) (is ∙ ap (λ (i : ℕ). pairs_from K k i wanted) column)
            ∙ pairs_join K (c / 2) k v wanted ∙ sym (ap (λ (n : ℕ). pairs_from K n v wanted) pairs);
        most = l;
      })

  -- the same by the size of their bytes
  pub turn_by : {out new : List ℕ} {at c after next n : ℕ} (k : ℕ) → n ≡ step * k → after ≡ at + n → next ≡ c + 2 * k → length before ≡ step * (size / 2) → c + 2 * k ≤ size → length new ≡ n → new ≡ pairs_from K k (v + c) wanted
      → Putting K step size v wanted before out at c → Putting K step size v wanted before (take at out ++ (new ++ drop n (drop at out))) after next
  turn_by {at = at} k is there on e l len pairs s = rw is (turn k (there ∙ ap (λ (m : ℕ). at + m) is) on e l (len ∙ is) pairs s)

  -- all columns
  pub done : {out : List ℕ} {at c : ℕ} → length before ≡ step * (size / 2) → size ≤ c → Putting K step size v wanted before out at c → out ≡ pairs_from K (size / 2) v wanted
  done {out} {at} {c} e l s =
      let all : c ≡ size = omega (arith, s.most) in
      let here : at ≡ length out = s.here ∙ ap (λ (k : ℕ). step * (k / 2)) all ∙ sym e ∙ sym s.long in
      sym (take_all at out (omega (arith, here))) ∙ s.so_far ∙ ap (λ (k : ℕ). pairs_from K (k / 2) v wanted) all
