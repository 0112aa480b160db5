-- A run from an odd column on is the run of a stream that begins with the column before, and one column more.
-- Assumes nothing.
use mathlib.Core.Path.{◌≡◌, refl, sym, ap, ap₂, ◌∙◌}
use mathlib.Core.Bool.{Bool, cond}
use mathlib.Core.Logic.{◌≢◌}
use mathlib.Core.List.{List, [], ◌∷◌}
use Prim.Native.Nat.{ℕ, zero, suc, ◌+◌, ◌-◌, ◌*◌, ◌/◌, ◌%◌, ◌^◌, ◌≤◌, ◌<◌}
use native.Mathlib.Nat.{add-zero, zero-add, add_comm, add_assoc, mul-zero, mul-suc, mul_assoc, mul-add, div-one, le_refl, le_of_suc-le-suc, add-mul-div_right, add-mul-mod_self_right}
use native.Mathlib.Numerals.{add-one}
use native.Mathlib.Omega.{arith}
use lib.Arith.{digits_div, digits_mod}
use lib.Dec.{eqb, eqb→eq}
use lib.ListN.{length, get_or}
use lib.Pow.{pow_pos, pow-add, shr-shr, mod-mod-pow}
use lib.Pow as pow
use borrow.Author.Tests.{ne_eqb}
use Rattle.lemmas.proofs.Tests.{all-at}
use Rattle.sheet.specs.Data.{bit_of, changed, put_bits, width_of}
use Rattle.sheet.specs.Runs.{put_run}
use Rattle.packed_sheet.specs.Packed.{unpacked}
use Rattle.words.specs.Fields.{with_rows, field}
use Rattle.words.proofs.Fields.{column}
use Rattle.ram.proofs.Runs.{Running, begun, turn, done, small}
use Rattle.packed_ram.specs.Stream.{earlier, stream, ending}

-- ---- the bits of a byte of the stream

bit-within : (s p x k : ℕ) → k < 8 → bit_of (earlier s p x) k ≡ (p * 256 + x) / 2 ^ (s + (7 - k)) % 2
unfolding earlier
bit-within s p x k l =
    let n = (p * 256 + x) / 2 ^ s in
    let e : suc k + (7 - k) ≡ 8 = omega arith in
    ap (λ (i : ℕ). n % 2 ^ i / 2 ^ (7 - k) % 2) (sym e)
    ∙ ap (λ (i : ℕ). i % 2) (pow.field n (suc k) (7 - k))
    ∙ ap (λ (i : ℕ). n / 2 ^ (7 - k) % 2 ^ i % 2) (sym (add-one k))
    ∙ mod-mod-pow (n / 2 ^ (7 - k)) k 1
    ∙ ap (λ (i : ℕ). i % 2) (shr-shr (p * 256 + x) s (7 - k))

-- first the last bits of the byte before
bit-before : (s p x k : ℕ) → s ≤ 8 → k < s → x < 256 → bit_of (earlier s p x) k ≡ bit_of p (8 - s + k)
bit-before s p x k few l small =
    let e : s + (7 - k) ≡ 8 + (7 - (8 - s + k)) = omega arith in
    bit-within s p x k (omega arith)
    ∙ ap (λ (i : ℕ). (p * 256 + x) / 2 ^ i % 2) e
    ∙ ap (λ (i : ℕ). i % 2) (sym (shr-shr (p * 256 + x) 8 (7 - (8 - s + k))))
    ∙ ap (λ (i : ℕ). i / 2 ^ (7 - (8 - s + k)) % 2) (digits_div p small)

-- then those of the byte itself
bit-after : (s p x k : ℕ) → s + k < 8 → bit_of (earlier s p x) (s + k) ≡ bit_of x k
bit-after s p x k l =
    let e : s + (7 - (s + k)) ≡ 7 - k = omega arith in
    let whole : k + 1 + (7 - k) ≡ 8 = omega arith in
    let parts : p * 256 + x ≡ x + p * 2 ^ k * 2 * 2 ^ (7 - k) =
    add_comm (p * 256) x ∙ ap (λ (i : ℕ). x + p * 2 ^ i) (sym whole)
    ∙ ap (λ (i : ℕ). x + p * i) (pow-add 2 (k + 1) (7 - k) ∙ ap (λ (i : ℕ). i * 2 ^ (7 - k)) (pow-add 2 k 1))
    ∙ ap (λ (i : ℕ). x + i) (sym (mul_assoc p (2 ^ k * 2) (2 ^ (7 - k))) ∙ ap (λ (i : ℕ). i * 2 ^ (7 - k)) (sym (mul_assoc p (2 ^ k) 2))) in
    bit-within s p x (s + k) l
    ∙ ap (λ (i : ℕ). (p * 256 + x) / 2 ^ i % 2) e
    ∙ ap (λ (i : ℕ). i / 2 ^ (7 - k) % 2) parts
    ∙ ap (λ (i : ℕ). i % 2) (add-mul-div_right x (p * 2 ^ k * 2) (pow_pos (7 - k)))
    ∙ add-mul-mod_self_right (x / 2 ^ (7 - k)) (p * 2 ^ k) 2

same_bits : (y x i k h : ℕ) → ((n : ℕ) → n < h → bit_of y (i + n) ≡ bit_of x (k + n)) → field y i h ≡ field x k h
unfolding field
same_bits y x i k zero e = refl
same_bits y x i k (suc h) e = ap₂ (λ (a b : ℕ). a + b * 2 ^ h) (same_bits y x i k h (λ n l. e n (omega arith))) (e h (omega arith))

-- ---- where a byte covers its columns exactly

-- in static, 1:2 and 1:4
pub exact : (m : ℕ) → 0 < m → m < 5 → m ≢ 3 → m * width_of m ≡ 8
exact m some four ne =
    let told = eqb→eq (m * width_of m) (cond (eqb m 0) 0 (cond (eqb m 3) 9 8)) (all-at 5 (λ n. eqb (n * width_of n) (cond (eqb n 0) 0 (cond (eqb n 3) 9 8))) tt m four) in
    told ∙ ap₂ (λ (a b : Bool). cond a 0 (cond b 9 8)) (ne_eqb m 0 (omega arith)) (ne_eqb m 3 ne)

-- such a byte covers two columns of each packed byte
pub halves : (m : ℕ) → 0 < m → m < 5 → m ≢ 3 → 2 * (width_of m / 2) ≡ width_of m
halves m some four ne =
    let told = eqb→eq (2 * (width_of m / 2)) (cond (eqb m 0) 0 (cond (eqb m 3) 2 (width_of m))) (all-at 5 (λ n. eqb (2 * (width_of n / 2)) (cond (eqb n 0) 0 (cond (eqb n 3) 2 (width_of n)))) tt m four) in
    told ∙ ap₂ (λ (a b : Bool). cond a 0 (cond b 2 (width_of m))) (ne_eqb m 0 (omega arith)) (ne_eqb m 3 ne)

-- the byte of a run that comes last; p where there is none
abbrev pub last_of : ℕ → List ℕ → ℕ
last_of p xs = get_or (p ∷ xs) (length xs) 0

module _ (m b : ℕ) (some : 0 < m) (whole : m * width_of m ≡ 8) where
  few : m ≤ 8
  few = omega (arith, mul-suc m (7 / m), whole)

  -- the byte before gives the first column, and each column of a byte is one later
  columns-later : (n p x u : ℕ) (ram : List ℕ) → x < 256 → m * suc n ≤ 8
      → put_bits (m * suc n) m b u (earlier m p x) ram ≡ put_bits (m * n) m b (u + 1) x (changed (ending m b p) u ram)
  unfolding put_bits
  columns-later zero p x u ram small l =
      let z = earlier m p x in
      let e : m * 1 ≡ m * 0 + m = omega arith in
      let nothing : m * 0 ≡ 0 = mul-zero m in
      ap (λ (k : ℕ). put_bits k m b u z ram) e
      ∙ column m b z u 0 ram m (le_refl m)
      ∙ ap₂ (λ (k c : ℕ). changed (with_rows b m (field z k m)) c (put_bits k m b u z ram)) nothing (add-zero u)
      ∙ ap (λ (f : ℕ). changed (with_rows b m f) u ram) (same_bits z p 0 (8 - m) m (λ k h. ap (bit_of z) (zero-add k) ∙ bit-before m p x k few h small))
      ∙ ap (λ (k : ℕ). put_bits k m b (u + 1) x (changed (ending m b p) u ram)) (sym nothing)
  columns-later (suc n) p x u ram small l =
      let z = earlier m p x in
      let before = changed (ending m b p) u ram in
      let e : m * suc (suc n) ≡ m * suc n + m = mul-suc m (suc n) in
      let there : u + suc n ≡ u + 1 + n = omega arith in
      let one : m * suc n ≡ m + m * n = mul-suc m n ∙ add_comm (m * n) m in
      let alike : field z (m * suc n) m ≡ field x (m * n) m =
      ap (λ (k : ℕ). field z k m) one
      ∙ same_bits z x (m + m * n) (m * n) m (λ k h. ap (bit_of z) (add_assoc m (m * n) k) ∙ bit-after m p x (m * n + k) (omega (arith, l, e, one))) in
      ap (λ (k : ℕ). put_bits k m b u z ram) e
      ∙ column m b z u (suc n) ram m (le_refl m)
      ∙ ap₂ (λ (f c : ℕ). changed (with_rows b m f) c (put_bits (m * suc n) m b u z ram)) alike there
      ∙ ap (changed (with_rows b m (field x (m * n) m)) (u + 1 + n)) (columns-later n p x u ram small (omega (arith, l, e)))
      ∙ sym (column m b x (u + 1) n before m (le_refl m))
      ∙ ap (λ (k : ℕ). put_bits k m b (u + 1) x before) (sym (mul-suc m n))

  -- a byte of the stream and the last column of its own byte
  byte-later : (p x u : ℕ) (ram : List ℕ) → x < 256
      → changed (ending m b x) (u + width_of m) (put_bits 8 m b u (earlier m p x) ram) ≡ put_bits 8 m b (u + 1) x (changed (ending m b p) u ram)
  byte-later p x u ram small =
      let before = changed (ending m b p) u ram in
      let n = 7 / m in
      let all : m * suc n ≡ 8 = ap (λ (k : ℕ). m * k) (sym (add-one n)) ∙ whole in
      let rest : m * n ≡ 8 - m = omega (arith, all, mul-suc m n) in
      let there : u + width_of m ≡ u + 1 + n = omega arith in
      ap (λ (k : ℕ). changed (ending m b x) (u + width_of m) (put_bits k m b u (earlier m p x) ram)) (sym all)
      ∙ ap (changed (ending m b x) (u + width_of m)) (columns-later n p x u ram small (omega (arith, all)))
      ∙ ap₂ (λ (k c : ℕ). changed (with_rows b m (field x k m)) c (put_bits (m * n) m b (u + 1) x before)) (sym rest) there
      ∙ sym (column m b x (u + 1) n before m (le_refl m))
      ∙ ap (λ (k : ℕ). put_bits k m b (u + 1) x before) (sym (mul-suc m n) ∙ all)

  pub run-later : (p u : ℕ) (xs ram : List ℕ) → ((i : ℕ) → get_or xs i 0 < 256)
      → changed (ending m b (last_of p xs)) (u + width_of m * length xs) (put_run m b u (stream m p xs) ram) ≡ put_run m b (u + 1) xs (changed (ending m b p) u ram)
  unfolding put_run stream
  run-later p u [] ram small = ap (λ (c : ℕ). changed (ending m b p) c ram) (ap (λ (i : ℕ). u + i) (mul-zero (width_of m)) ∙ add-zero u)
  run-later p u (x ∷ xs) ram small =
      let w = width_of m in
      let far : u + w * suc (length xs) ≡ u + w + w * length xs = omega (arith, mul-suc w (length xs)) in
      let near : u + w + 1 ≡ u + 1 + w = omega arith in
      let after = put_bits 8 m b u (earlier m p x) ram in
      ap (λ (c : ℕ). changed (ending m b (last_of x xs)) c (put_run m b (u + w) (stream m x xs) after)) far
      ∙ run-later x (u + w) xs after (λ i. small (suc i))
      ∙ ap₂ (λ (c : ℕ) (r : List ℕ). put_run m b c xs r) near (byte-later p x u ram (small 0))

-- ---- the bytes of a stream

pub length-stream : (s p : ℕ) (xs : List ℕ) → length (stream s p xs) ≡ length xs
unfolding stream
length-stream s p [] = refl
length-stream s p (x ∷ xs) = ap suc (length-stream s x xs)

stream_at : (s p : ℕ) (xs : List ℕ) (i : ℕ) → i < length xs → get_or (stream s p xs) i 0 ≡ earlier s (get_or (p ∷ xs) i 0) (get_or xs i 0)
unfolding stream
stream_at s p [] i l = absurd (omega arith)
stream_at s p (x ∷ xs) zero l = refl
stream_at s p (x ∷ xs) (suc i) l = stream_at s x xs i (le_of_suc-le-suc l)

-- none earlier
pub stream-none : (p : ℕ) (xs : List ℕ) → ((i : ℕ) → get_or xs i 0 < 256) → stream 0 p xs ≡ xs
unfolding stream earlier
stream-none p [] small = refl
stream-none p (x ∷ xs) small = ap₂ ◌∷◌ (ap (λ (i : ℕ). i % 256) (div-one (p * 256 + x)) ∙ digits_mod p (small 0)) (stream-none x xs (λ i. small (suc i)))

-- ---- the loop over the bytes of a stream, for any mode

-- the first i bytes are written, and `last` is the byte before the next
pub record Streaming (m b v s p : ℕ) (bytes ram₀ ram : List ℕ) (last i : ℕ) : Type 0 where
  pub run : Running m b v (stream s p bytes) ram₀ ram i
  pub before : last ≡ get_or (p ∷ bytes) i 0

module _ {m b v s p : ℕ} {bytes ram₀ : List ℕ} where
  pub stream-begun : Streaming m b v s p bytes ram₀ ram₀ p 0
  stream-begun = record { run = begun; before = refl }

  pub stream-turn : {ram after : List ℕ} {last z i : ℕ} → i < length bytes → z ≡ earlier s last (get_or bytes i 0) → after ≡ put_bits 8 m b (v + width_of m * i) z ram
      → Streaming m b v s p bytes ram₀ ram last i → Streaming m b v s p bytes ram₀ after (get_or bytes i 0) (i + 1)
  stream-turn {ram} {after} {last} {z} {i} l ez ea r =
      let e : z ≡ get_or (stream s p bytes) i 0 = ez ∙ ap (λ (q : ℕ). earlier s q (get_or bytes i 0)) r.before ∙ sym (stream_at s p bytes i l) in
      record {
        run = turn (rw (length-stream s p bytes) l) (ea ∙ ap (λ (x : ℕ). put_bits 8 m b (v + width_of m * i) x ram) e) r.run;
        before = rw (add-one i) refl;
      }

  pub stream-done : {ram : List ℕ} {last i : ℕ} → length bytes ≤ i → Streaming m b v s p bytes ram₀ ram last i → ram ≡ put_run m b v (stream s p bytes) ram₀
  stream-done l r = done (rw (length-stream s p bytes) l) r.run

-- a turn of a mode whose byte is n packed bytes
pub packed-turn : (n at : ℕ) (ram after : List ℕ) {m b s p last z i : ℕ} {bytes ram₀ : List ℕ} → 2 * n ≡ width_of m → i < length bytes → z ≡ earlier s last (get_or bytes i 0)
    → unpacked after ≡ put_bits 8 m b (2 * (at + n * i)) z (unpacked ram)
    → Streaming m b (2 * at) s p bytes ram₀ (unpacked ram) last i → Streaming m b (2 * at) s p bytes ram₀ (unpacked after) (get_or bytes i 0) (i + 1)
packed-turn n at ram after {m} {b} {z = z} {i = i} e l ez ea r =
    let there : 2 * (at + n * i) ≡ 2 * at + width_of m * i = mul-add 2 at (n * i) ∙ ap (λ (k : ℕ). 2 * at + k) (sym (mul_assoc 2 n i) ∙ ap (λ (k : ℕ). k * i) e) in
    stream-turn l ez (ea ∙ ap (λ (c : ℕ). put_bits 8 m b c z (unpacked ram)) there) r
