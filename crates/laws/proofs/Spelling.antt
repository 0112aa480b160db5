-- A price's text and its data bytes, symbol by symbol (paper 02, request 1).
-- Assumes nothing.
use mathlib.Core.Path.{◌≡◌, refl, sym, ap, ap₂, subst, ◌∙◌}
use mathlib.Core.Bool.{Bool, true, false}
use mathlib.Core.List.{List, [], ◌∷◌, map}
use Prim.Native.Nat.{ℕ, zero, suc, ◌+◌, ◌-◌, ◌*◌, ◌≤◌, ◌<◌}
use native.Mathlib.Nat.{add-zero}
use native.Mathlib.Numerals.{add-one}
use native.Mathlib.Omega.{arith}
use lib.Dec.{T, ltb, leb}
use lib.ListN.{length, get_or, drop, length-append, length-map}
use lib.Seq.{drop-drop, get_or-drop}
use borrow.Author.Tests.{ltb-true, leb-true}
use Rattle.lemmas.proofs.Lists.{next}
use Rattle.price_sheet.specs.declared.Symbol.{Symbol}
use Rattle.price_sheet.specs.declared.Symbol.TheVariants.{Digit, Pointed, Space, Minus, LongMinus}
use Rattle.std.specs.Prelude.{None, Ok, Option, Some}
use Rattle.sheet.specs.Results.{Check}
use Rattle.sheet.specs.declared.Refusal.TheVariants.{LongTransfer, Register, OutputLength}
use Rattle.sheet.specs.Checks.{unless, or_else, passed}
use Rattle.price_sheet.specs.Price.{text_of, texts_of, byte_of, begun, begun_at, Spelled, and_then, more_of, spelled_from, spelled, shown, read_from, check_price, Sizes}
use Rattle.laws.proofs.Symbols.{shown-is, plain-short}

-- ---- a text

-- the bytes that belong to the symbol before are left out
skipped : (at left : ℕ) (text : List ℕ) → spelled_from at left text ≡ spelled_from (at + left) 0 (drop left text)
unfolding spelled_from
skipped at zero text = ap (λ (k : ℕ). spelled_from k 0 text) (sym (add-zero at))
skipped at (suc left) [] = refl
skipped at (suc left) (x ∷ rest) = let on : suc at + left ≡ at + suc left = omega arith in skipped (suc at) left rest ∙ ap (λ (k : ℕ). spelled_from k 0 (drop left rest)) on

-- no symbol's text is empty
pub some-text : (s : Symbol) → 0 < length (text_of s)
some-text (Digit n) = omega arith
some-text (Pointed n) = omega arith
some-text Space = omega arith
some-text Minus = omega arith
some-text LongMinus = omega arith

at_place : (text : List ℕ) (i : ℕ) → i < length text → spelled_from i 0 (drop i text) ≡ and_then i (begun_at i text) (spelled_from (suc i) (more_of (begun_at i text)) (drop (i + 1) text))
unfolding spelled_from
at_place text i h =
    ap (spelled_from i 0) (next text i h)
    ∙ ap₂ (λ (y z : ℕ). let found = begun (get_or text i 0) y z in and_then i found (spelled_from (suc i) (more_of found) (drop (i + 1) text)))
    (get_or-drop (i + 1) text 0 0 ∙ ap (λ (k : ℕ). get_or text k 0) (add-zero (i + 1)))
    (get_or-drop (i + 1) text 1 0 ∙ ap (λ (k : ℕ). get_or text k 0) {x = i + 1 + 1} {y = i + 2} (omega arith))

-- a symbol, and what is after its text
pub one_symbol : (text : List ℕ) (i : ℕ) (s : Symbol) → i < length text → begun_at i text ≡ Some s
    → spelled_from i 0 (drop i text) ≡ and_then i (Some s) (spelled_from (i + length (text_of s)) 0 (drop (i + length (text_of s)) text))
one_symbol text i s h e =
    let on : suc i + (length (text_of s) - 1) ≡ i + length (text_of s) = omega (arith, some-text s) in
    let on-drop : i + 1 + (length (text_of s) - 1) ≡ i + length (text_of s) = omega (arith, some-text s) in
    at_place text i h
    ∙ ap (λ (f : Option Symbol). and_then i f (spelled_from (suc i) (more_of f) (drop (i + 1) text))) e
    ∙ ap (and_then i (Some s))
    (skipped (suc i) (length (text_of s) - 1) (drop (i + 1) text)
    ∙ ap₂ (λ (k : ℕ) (l : List ℕ). spelled_from k 0 l) on (drop-drop (length (text_of s) - 1) (i + 1) text ∙ ap (λ (k : ℕ). drop k text) on-drop))

-- or none
pub no_symbol : (text : List ℕ) (i : ℕ) (p : Spelled) → i < length text → begun_at i text ≡ None → spelled_from i 0 (drop i text) ≡ and_then i None p
no_symbol text i p h e = rw e at (at_place text i h)

-- no more symbols than bytes
few-after : (at : ℕ) (f : Option Symbol) (p : Spelled) (n : ℕ) → length p.symbols ≤ n → length (and_then at f p).symbols ≤ suc n
few-after at (Some s) p n h = omega arith
few-after at None p n h = omega arith

pub few : (at left : ℕ) (text : List ℕ) → length (spelled_from at left text).symbols ≤ length text
unfolding spelled_from
few at left [] = omega arith
few at (suc left) (x ∷ rest) = let h = few (suc at) left rest in omega arith
few at zero (x ∷ rest) = let found = begun x (get_or rest 0 0) (get_or rest 1 0) in few-after at found (spelled_from (suc at) (more_of found) rest) (length rest) (few (suc at) (more_of found) rest)

-- ---- data bytes

-- what byte i shows, and what is after it
pub one_byte : (mode : ℕ) (bytes : List ℕ) (i : ℕ) → i < length bytes → read_from mode i (drop i bytes) ≡ and_then i (shown mode (get_or bytes i 0)) (read_from mode (i + 1) (drop (i + 1) bytes))
unfolding read_from
one_byte mode bytes i h = ap (read_from mode i) (next bytes i h) ∙ ap (λ (k : ℕ). and_then i (shown mode (get_or bytes i 0)) (read_from mode k (drop (i + 1) bytes))) (sym (add-one i))

-- at most two bytes of text a byte
short-after : (mode at x : ℕ) (f : Option Symbol) (p : Spelled) (n : ℕ) → shown mode x ≡ f → length (texts_of p.symbols) ≤ 2 * n → length (texts_of (and_then at f p).symbols) ≤ 2 * suc n
short-after mode at x (Some s) p n e h =
    let l : length (text_of s) ≤ 2 = rw (shown-is mode x s e).is.same at (plain-short s) in omega (arith, length-append (text_of s) (texts_of p.symbols))
short-after mode at x None p n e h = omega arith

pub short : (mode at : ℕ) (bytes : List ℕ) → length (texts_of (read_from mode at bytes).symbols) ≤ 2 * length bytes
unfolding read_from
short mode at [] = omega arith
short mode at (x ∷ rest) = short-after mode at x (shown mode x) (read_from mode (suc at) rest) (length rest) refl (short mode (suc at) rest)

-- ---- the sizes

by-sizes : (size mode room out : ℕ) (a b c : Bool) → leb size 80 ≡ a → ltb mode 4 ≡ b → leb room out ≡ c
    → or_else (unless a LongTransfer) (or_else (unless b Register) (unless c OutputLength)) ≡ Ok tt → Sizes size mode room out
by-sizes size mode room out true true true a b c e = record { bytes = leb-true size 80 a; four = ltb-true mode 4 b; enough = leb-true room out c }
by-sizes size mode room out true true false a b c e = absurd (subst (λ (k : Check). T (passed k)) (sym e) tt)
by-sizes size mode room out true false z a b c e = absurd (subst (λ (k : Check). T (passed k)) (sym e) tt)
by-sizes size mode room out false y z a b c e = absurd (subst (λ (k : Check). T (passed k)) (sym e) tt)

-- what has passed fits
pub sizes : (size mode room out : ℕ) → check_price size mode room out ≡ Ok tt → Sizes size mode room out
unfolding check_price
sizes size mode room out e = by-sizes size mode room out (leb size 80) (ltb mode 4) (leb room out) refl refl refl e

-- and there is room for all bytes, and for all text
pub bytes_fit : (mode : ℕ) (text : List ℕ) (out : ℕ) → Sizes (length text) mode 80 out → length (map (byte_of mode) (spelled text).symbols) ≤ out
bytes_fit mode text out s = omega (arith, length-map (spelled text).symbols (byte_of mode), few 0 0 text)

pub texts-fit : (mode : ℕ) (bytes : List ℕ) (out : ℕ) → Sizes (length bytes) mode 160 out → length (texts_of (read_from mode 0 bytes).symbols) ≤ out
texts-fit mode bytes out s = omega (arith, short mode 0 bytes)
