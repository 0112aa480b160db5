-- Bytes that C lends come back as they were: reading registers and chips from bytes and writing them loses nothing.
-- Assumes nothing.
use mathlib.Core.Path.{◌≡◌, refl, sym, ap, ap₂, ◌∙◌}
use mathlib.Core.List.{List, [], ◌∷◌, ◌++◌, append_assoc, append-nil}
use Prim.Native.Nat.{ℕ, zero, suc, ◌+◌, ◌*◌, ◌<◌}
use native.Mathlib.Nat.{mod-eq_of_lt, not-suc-le-zero, le_of_suc-le-suc}
use native.Mathlib.Omega.{arith}
use lib.ListN.{length, get_or, take, drop, length-drop, take-append-drop, drop_of_length-le}
use lib.Seq.{length-take-le, take_all, take-suc, get_or-drop}
use Rattle.sheet.specs.declared.Registers.{Registers}
use Rattle.sheet.specs.declared.Both.{Both}
use Rattle.sheet.specs.Registers.{registers_of}
use Rattle.sheet.specs.Long.{replaced}
use Rattle.wire.proofs.Parts.{firsts-all}
use Rattle.wire.specs.Bytes.{registers_in, bytes_of, both_of, both_bytes, chip_in, chip_bytes, list_in, list_bytes}

-- every element is a byte
abbrev pub Bytes : List ℕ → Type 0
Bytes l = (i : ℕ) → get_or l i 0 < 256

take-bytes : (n : ℕ) (l : List ℕ) → Bytes l → Bytes (take n l)
take-bytes zero l w i = omega arith
take-bytes (suc n) [] w i = omega arith
take-bytes (suc n) (q ∷ qs) w zero = w 0
take-bytes (suc n) (q ∷ qs) w (suc i) = take-bytes n qs (λ j. w (suc j)) i

drop-bytes : (n : ℕ) (l : List ℕ) → Bytes l → Bytes (drop n l)
drop-bytes n l w i = rw (get_or-drop n l i 0) (w (n + i))

-- ---- registers

pub registers-back : (l : List ℕ) → length l ≡ 12 → Bytes l → bytes_of (registers_in l) ≡ l
registers-back l e w =
    rw (mod-eq_of_lt (w 3), mod-eq_of_lt (w 4)) (firsts-all 12 l e)

-- both groups' registers, read from 24 bytes and written, are those bytes
pub both-back : (l : List ℕ) → length l ≡ 24 → Bytes l → both_bytes (both_of l) ≡ l
both-back l e w =
    ap₂ (λ (x y : List ℕ). x ++ y)
    (registers-back (take 12 l) (length-take-le 12 l (omega arith)) (take-bytes 12 l w))
    (registers-back (drop 12 l) (omega (arith, length-drop 12 l)) (drop-bytes 12 l w))
    ∙ take-append-drop 12 l

-- group g's are 12 of them
pub own-bytes : (g : ℕ) → g < 2 → (l : List ℕ) → length l ≡ 24 → registers_in (take 12 (drop (12 * g) l)) ≡ registers_of g (both_of l)
own-bytes zero h l e = refl
own-bytes (suc zero) h l e = ap registers_in (take_all 12 (drop 12 l) (omega (arith, length-drop 12 l)))
own-bytes (suc (suc g)) h l e = absurd (not-suc-le-zero (le_of_suc-le-suc (le_of_suc-le-suc h)))

-- and the group's replaced are others in their place
pub replaced-bytes : (g : ℕ) → g < 2 → (l : List ℕ) (s : Registers) → length l ≡ 24 → Bytes l
    → take (12 * g) l ++ (bytes_of s ++ drop 12 (drop (12 * g) l)) ≡ both_bytes (replaced g s (both_of l))
replaced-bytes zero h l s e w = ap (λ (r : List ℕ). bytes_of s ++ r) (sym (registers-back (drop 12 l) (omega (arith, length-drop 12 l)) (drop-bytes 12 l w)))
replaced-bytes (suc zero) h l s e w =
    ap₂ (λ (x y : List ℕ). x ++ (bytes_of s ++ y)) (sym (registers-back (take 12 l) (length-take-le 12 l (omega arith)) (take-bytes 12 l w)))
    (drop_of_length-le (drop 12 l) {i = 12} (omega (arith, length-drop 12 l)))
    ∙ ap (λ (r : List ℕ). bytes_of (registers_in (take 12 l)) ++ r) (append-nil (bytes_of s))
replaced-bytes (suc (suc g)) h l s e w = absurd (not-suc-le-zero (le_of_suc-le-suc (le_of_suc-le-suc h)))

-- registers whose P and A fit a byte come back from bytes as they were
pub registers_forth : (r : Registers) → r.p < 256 → r.a < 256 → registers_in (bytes_of r) ≡ r
registers_forth r p a = λ j. record {
  e = r.e;
  b = r.b;
  m = r.m;
  p = mod-eq_of_lt p j;
  a = mod-eq_of_lt a j;
  i = r.i;
  o = r.o;
  ab = r.ab;
  bf = r.bf;
  unknown = r.unknown;
}

pub both_forth : (r : Both) → (r.zero.p < 256) × (r.zero.a < 256) → (r.one.p < 256) × (r.one.a < 256) → both_of (both_bytes r) ≡ r
both_forth r first second = λ j. record { zero = registers_forth r.zero first.0 first.1 j; one = registers_forth r.one second.0 second.1 j }

-- ---- chips

-- columns, SA0 and subaddress are the first 162 bytes
pub unwritten : (l r : List ℕ) → length l ≡ 174 → take 160 l ++ (get_or l 160 0 ∷ get_or l 161 0 ∷ r) ≡ take 162 l ++ r
unwritten l r e = simp (take-suc l 161 0 (omega arith), take-suc l 160 0 (omega arith), append_assoc)

-- a chip read from 174 bytes and written is those bytes
pub chip-back : (l : List ℕ) → length l ≡ 174 → Bytes l → chip_bytes (chip_in l) ≡ l
chip-back l e w =
    unwritten l (bytes_of (registers_in (drop 162 l))) e
    ∙ ap (λ (r : List ℕ). take 162 l ++ r) (registers-back (drop 162 l) (omega (arith, length-drop 162 l)) (drop-bytes 162 l w))
    ∙ take-append-drop 162 l

-- so are n chips
pub list_back : (n : ℕ) (l : List ℕ) → length l ≡ 174 * n → Bytes l → list_bytes (list_in n l) ≡ l
unfolding list_in list_bytes
list_back zero l e w = take_all 0 l (omega arith)
list_back (suc n) l e w =
    ap₂ (λ (x y : List ℕ). x ++ y)
    (chip-back (take 174 l) (length-take-le 174 l (omega arith)) (take-bytes 174 l w))
    (list_back n (drop 174 l) (omega (arith, length-drop 174 l)) (drop-bytes 174 l w))
    ∙ take-append-drop 174 l
