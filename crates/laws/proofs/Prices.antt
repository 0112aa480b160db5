-- Request 1's laws: the grammar, the bytes of symbols, and both round trips (`price_sheet/specs/Prices.antt`).
-- Assumes nothing.
use mathlib.Core.Path.{◌≡◌, refl, sym, ap, ap₂, subst, ◌∙◌}
use mathlib.Core.Logic.{◌≢◌}
use mathlib.Core.Bool.{Bool, true, false, cond, ◌&&◌, ◌||◌}
use mathlib.Core.List.{List, [], ◌∷◌, ◌++◌, map}
use Prim.Native.Nat.{ℕ, zero, suc, ◌+◌, ◌-◌, ◌≤◌, ◌<◌}
use native.Mathlib.Omega.{arith}
use lib.Dec.{T, eqb, ltb, leb}
use lib.ListN.{length, get_or, take, drop}
use lib.Seq.{take_at}
use borrow.Author.Tests.{lt-ltb, le-ltb, ltb-true, ne_eqb, eqb-true, eqb-false, leb-true, le-leb}
use Rattle.lemmas.proofs.Tests.{both_true, all, all-at}
use Rattle.price_sheet.specs.declared.Symbol.{Symbol}
use Rattle.price_sheet.specs.declared.Symbol.TheVariants.{Digit, Pointed, Space, Minus, LongMinus}
use Rattle.std.specs.Prelude.{Err, None, Ok, Option, Some}
use Rattle.sheet.specs.Results.{Written, Check}
use Rattle.sheet.specs.Parts.{within}
use Rattle.sheet.specs.Checks.{or_else, passed}
use Rattle.sheet.specs.Written.{written_by}
use Rattle.price_sheet.specs.Price.{is_symbol, text_of, texts_of, plain, segments_of, byte_of, begun, begun_at, Spelled, and_then, more_of, spelled_from, spelled, shown_as, shown_below, shown, read_from, check_price, Sizes, price_by, price_write, price_read}
use Rattle.price_sheet.specs.Prices.{are_symbols, whole, Grammar, Bytes, written, ReadsBack, WritesBack}
use Rattle.laws.proofs.Symbols.{shown-is, nothing, inside, begun-symbol}
use Rattle.laws.proofs.Spelling.{sizes, bytes_fit}

-- ---- a symbol's byte is read as it

-- no two symbols have the same byte: computed for every mode and pair
abbrev apart : ℕ → ℕ → ℕ → Bool
apart mode k j = eqb k j || cond (eqb (byte_of mode (shown_as k)) (byte_of mode (shown_as j))) false true

all_apart : (mode k j : ℕ) → mode < 4 → k < 22 → j < 22 → T (apart mode k j)
unfolding byte_of segments_of
all_apart mode k j hm hk hj = all-at 22 (apart mode k) (all-at 22 (λ k. all 22 (apart mode k)) (all-at 4 (λ m. all 22 (λ k. all 22 (apart m k))) tt mode hm) k hk) j hj

same_byte : (mode k j : ℕ) (s t : Bool) → eqb k j ≡ s → eqb (byte_of mode (shown_as k)) (byte_of mode (shown_as j)) ≡ t → byte_of mode (shown_as k) ≡ byte_of mode (shown_as j) → T (s || cond t false true) → k ≡ j
same_byte mode k j true t e f same test = eqb-true k j e
same_byte mode k j false true e f same test = absurd test
same_byte mode k j false false e f same test = absurd (eqb-false (byte_of mode (shown_as k)) (byte_of mode (shown_as j)) f same)

-- the symbol of number k is found below any n over it
found-by : (mode k n : ℕ) (t : Bool) → mode < 4 → k < 22 → n < 22 → eqb (byte_of mode (shown_as k)) (byte_of mode (shown_as n)) ≡ t
    → (k ≢ n → shown_below n mode (byte_of mode (shown_as k)) ≡ Some (shown_as k))
    → cond t (Some (shown_as n)) (shown_below n mode (byte_of mode (shown_as k))) ≡ Some (shown_as k)
found-by mode k n true hm hk hn e others =
    ap (λ (j : ℕ). Some (shown_as j))
    (sym (same_byte mode k n (eqb k n) (eqb (byte_of mode (shown_as k)) (byte_of mode (shown_as n))) refl refl (eqb-true (byte_of mode (shown_as k)) (byte_of mode (shown_as n)) e) (all_apart mode k n hm hk hn)))
found-by mode k n false hm hk hn e others = others (λ same. eqb-false (byte_of mode (shown_as k)) (byte_of mode (shown_as n)) e (ap (λ (j : ℕ). byte_of mode (shown_as j)) same))

found : (mode k n : ℕ) → mode < 4 → k < n → n ≤ 22 → shown_below n mode (byte_of mode (shown_as k)) ≡ Some (shown_as k)
unfolding shown_below
found mode k zero hm hk hn = absurd (omega arith)
found mode k (suc n) hm hk hn =
    found-by mode k n (eqb (byte_of mode (shown_as k)) (byte_of mode (shown_as n))) hm (omega arith) (omega arith) refl
    (λ (ne : k ≢ n). found mode k n hm (omega arith) (omega arith))

-- the number of a symbol
abbrev rank : Symbol → ℕ
rank (Digit n) = n
rank (Pointed n) = 10 + n
rank Space = 20
rank Minus = 21
rank LongMinus = 21

record Ranked (s : Symbol) : Type 0 where
  low : rank s < 22
  is : shown_as (rank s) ≡ plain s

ranked : (s : Symbol) → is_symbol s ≡ true → Ranked s
ranked (Digit n) e = let h = ltb-true n 10 e in record { low = omega arith; is = rw (lt-ltb n 10 h) refl }
ranked (Pointed n) e =
    let h = ltb-true n 10 e in
    let back : 10 + n - 10 ≡ n = omega arith in
    record { low = omega arith; is = rw (le-ltb (10 + n) 10 (omega arith), lt-ltb (10 + n) 20 (omega arith), back) refl }
ranked Space e = record { low = omega arith; is = refl }
ranked Minus e = record { low = omega arith; is = refl }
ranked LongMinus e = record { low = omega arith; is = refl }

-- a minus of either kind has the same byte
plain_byte : (mode : ℕ) (s : Symbol) → byte_of mode s ≡ byte_of mode (plain s)
unfolding byte_of segments_of
plain_byte mode (Digit n) = refl
plain_byte mode (Pointed n) = refl
plain_byte mode Space = refl
plain_byte mode Minus = refl
plain_byte mode LongMinus = refl

shown-back : (mode : ℕ) (s : Symbol) → mode < 4 → is_symbol s ≡ true → shown mode (byte_of mode s) ≡ Some (plain s)
shown-back mode s h e =
    let r = ranked s e in
    ap (shown mode) (plain_byte mode s ∙ ap (byte_of mode) (sym r.is)) ∙ found mode (rank s) 22 h r.low (omega arith) ∙ ap (λ (t : Symbol). Some t) r.is

pub bytes : (mode : ℕ) → mode < 4 → Bytes mode
bytes mode h = record { read = λ x s e. ((shown-is mode x s e).is.symbol, (shown-is mode x s e).byte); written = λ s e. shown-back mode s h e }

-- the bytes of symbols, read
read-symbols : (mode at : ℕ) (symbols : List Symbol) → mode < 4 → are_symbols symbols ≡ true → read_from mode at (map (byte_of mode) symbols) ≡ whole (map plain symbols)
unfolding read_from
read-symbols mode at [] h e = refl
read-symbols mode at (s ∷ ss) h e =
    let both = both_true (is_symbol s) (are_symbols ss) e in
    ap₂ (λ (f : Option Symbol) (p : Spelled). and_then at f p) (shown-back mode s h both.0) (read-symbols mode (suc at) ss h both.1)

-- what bytes show has those bytes, and is symbols
record Shows (mode : ℕ) (segments : List ℕ) (p : Spelled) : Type 0 where
  are : are_symbols p.symbols ≡ true
  back : p.fault ≡ Ok tt → map (byte_of mode) p.symbols ≡ segments

refused-passed : {A : Type 0} {k : Check} → k ≡ Ok tt → T (cond (passed k) false true) → A
refused-passed e t = absurd (subst (λ (k : Check). T (cond (passed k) false true)) e t)

shows-after : (mode at x : ℕ) (rest : List ℕ) (f : Option Symbol) (p : Spelled) → shown mode x ≡ f → Shows mode rest p → Shows mode (x ∷ rest) (and_then at f p)
shows-after mode at x rest (Some s) p e h =
    let is = shown-is mode x s e in
    record { are = rw is.is.symbol h.are; back = λ ok. ap₂ (λ (b : ℕ) (l : List ℕ). b ∷ l) is.byte (h.back ok) }
shows-after mode at x rest None p e h = record { are = refl; back = λ ok. refused-passed ok tt }

shows : (mode at : ℕ) (segments : List ℕ) → Shows mode segments (read_from mode at segments)
unfolding read_from
shows mode at [] = record { are = refl; back = λ ok. refl }
shows mode at (x ∷ rest) = shows-after mode at x rest (shown mode x) (read_from mode (suc at) rest) refl (shows mode (suc at) rest)

-- ---- the grammar

-- no symbol's text begins with the point
no_point : (ss : List Symbol) → eqb (get_or (texts_of ss) 0 0) 0x2E ≡ false
no_point [] = refl
no_point (Digit n ∷ ss) = ne_eqb (48 + n) 0x2E (omega arith)
no_point (Pointed n ∷ ss) = ne_eqb (48 + n) 0x2E (omega arith)
no_point (Space ∷ ss) = refl
no_point (Minus ∷ ss) = refl
no_point (LongMinus ∷ ss) = refl

digit-begins : (n : ℕ) → n < 10 → within 48 57 (48 + n) ≡ true
unfolding within
digit-begins n h = rw (le-leb 48 (48 + n) (omega arith), le-leb (48 + n) 57 (omega arith)) refl

begun-digit : (n y z : ℕ) → n < 10 → eqb y 0x2E ≡ false → begun (48 + n) y z ≡ Some (Digit n)
unfolding begun
begun-digit n y z h e = let back : 48 + n - 48 ≡ n = omega arith in rw (digit-begins n h, e, back) refl

begun_pointed : (n z : ℕ) → n < 10 → begun (48 + n) 0x2E z ≡ Some (Pointed n)
unfolding begun
begun_pointed n z h = let back : 48 + n - 48 ≡ n = omega arith in rw (digit-begins n h, back) refl

spell : (at : ℕ) (ss : List Symbol) → are_symbols ss ≡ true → spelled_from at 0 (texts_of ss) ≡ whole ss
unfolding spelled_from begun within
spell at [] e = refl
spell at (Digit n ∷ ss) e =
    let both = both_true (ltb n 10) (are_symbols ss) e in
    ap (λ (f : Option Symbol). and_then at f (spelled_from (suc at) (more_of f) (texts_of ss))) (begun-digit n (get_or (texts_of ss) 0 0) (get_or (texts_of ss) 1 0) (ltb-true n 10 both.0) (no_point ss))
    ∙ ap (and_then at (Some (Digit n))) (spell (suc at) ss both.1)
spell at (Pointed n ∷ ss) e =
    let both = both_true (ltb n 10) (are_symbols ss) e in
    ap (λ (f : Option Symbol). and_then at f (spelled_from (suc at) (more_of f) (0x2E ∷ texts_of ss))) (begun_pointed n (get_or (texts_of ss) 0 0) (ltb-true n 10 both.0))
    ∙ ap (and_then at (Some (Pointed n))) (spell (suc (suc at)) ss both.1)
spell at (Space ∷ ss) e = ap (and_then at (Some Space)) (spell (suc at) ss e)
spell at (Minus ∷ ss) e = ap (and_then at (Some Minus)) (spell (suc at) ss e)
spell at (LongMinus ∷ ss) e = ap (and_then at (Some LongMinus)) (spell (suc (suc (suc at))) ss e)

-- bytes that are not 0 are there
one-there : (rest : List ℕ) (j : ℕ) → 0 < j → get_or rest 0 0 ≡ j → rest ≡ j ∷ drop 1 rest
one-there [] j h e = absurd (omega arith)
one-there (y ∷ rest) j h e = ap (λ (k : ℕ). k ∷ rest) e

two-there : (rest : List ℕ) (j k : ℕ) → 0 < j → 0 < k → get_or rest 0 0 ≡ j → get_or rest 1 0 ≡ k → rest ≡ j ∷ k ∷ drop 2 rest
two-there [] j k hj hk e f = absurd (omega arith)
two-there (y ∷ []) j k hj hk e f = absurd (omega arith)
two-there (y ∷ z ∷ rest) j k hj hk e f = ap₂ (λ (a b : ℕ). a ∷ b ∷ rest) e f

-- a text that begins a symbol begins with its text
abbrev Front : ℕ → List ℕ → Symbol → Type 0
Front x rest s = x ∷ rest ≡ text_of s ++ drop (length (text_of s) - 1) rest

front_by : (x : ℕ) (rest : List ℕ) (s : Symbol) (t₁ t₂ t₃ t₄ t₅ : Bool) → within 48 57 x ≡ t₁ → eqb (get_or rest 0 0) 0x2E ≡ t₂ → eqb x 0x20 ≡ t₃ → eqb x 0x2D ≡ t₄
    → (eqb x 0xE2 && (eqb (get_or rest 0 0) 0x88 && eqb (get_or rest 1 0) 0x92)) ≡ t₅
    → cond t₁ (cond t₂ (Some (Pointed (x - 48))) (Some (Digit (x - 48)))) (cond t₃ (Some Space) (cond t₄ (Some Minus) (cond t₅ (Some LongMinus) None))) ≡ Some s
    → Front x rest s
unfolding within
front_by x rest s true true t₃ t₄ t₅ a b c d e is =
    let l = leb-true 48 x (both_true (leb 48 x) (leb x 57) a).0 in
    subst (Front x rest) (inside (Pointed (x - 48)) s is) (ap₂ (λ (k : ℕ) (r : List ℕ). k ∷ r) {x = x} {y = 48 + (x - 48)} (omega arith) (one-there rest 0x2E (omega arith) (eqb-true (get_or rest 0 0) 0x2E b)))
front_by x rest s true false t₃ t₄ t₅ a b c d e is =
    let l = leb-true 48 x (both_true (leb 48 x) (leb x 57) a).0 in
    subst (Front x rest) (inside (Digit (x - 48)) s is) (ap (λ (k : ℕ). k ∷ rest) {x = x} {y = 48 + (x - 48)} (omega arith))
front_by x rest s false t₂ true t₄ t₅ a b c d e is = subst (Front x rest) (inside Space s is) (ap (λ (k : ℕ). k ∷ rest) (eqb-true x 0x20 c))
front_by x rest s false t₂ false true t₅ a b c d e is = subst (Front x rest) (inside Minus s is) (ap (λ (k : ℕ). k ∷ rest) (eqb-true x 0x2D d))
front_by x rest s false t₂ false false true a b c d e is =
    let both = both_true (eqb x 0xE2) (eqb (get_or rest 0 0) 0x88 && eqb (get_or rest 1 0) 0x92) e in
    let others = both_true (eqb (get_or rest 0 0) 0x88) (eqb (get_or rest 1 0) 0x92) both.1 in
    subst (Front x rest) (inside LongMinus s is)
    (ap₂ (λ (k : ℕ) (r : List ℕ). k ∷ r) (eqb-true x 0xE2 both.0) (two-there rest 0x88 0x92 (omega arith) (omega arith) (eqb-true (get_or rest 0 0) 0x88 others.0) (eqb-true (get_or rest 1 0) 0x92 others.1)))
front_by x rest s false t₂ false false false a b c d e is = nothing s is

front : (x : ℕ) (rest : List ℕ) (s : Symbol) → begun_at 0 (x ∷ rest) ≡ Some s → Front x rest s
unfolding begun
front x rest s e =
    front_by x rest s (within 48 57 x) (eqb (get_or rest 0 0) 0x2E) (eqb x 0x20) (eqb x 0x2D) (eqb x 0xE2 && (eqb (get_or rest 0 0) 0x88 && eqb (get_or rest 1 0) 0x92)) refl refl refl refl refl e

-- a text from a place on is its symbols' texts
record Texts (rest : List ℕ) (p : Spelled) : Type 0 where
  are : are_symbols p.symbols ≡ true
  texts : p.fault ≡ Ok tt → rest ≡ texts_of p.symbols

texts-after : (at x : ℕ) (rest : List ℕ) (f : Option Symbol) → begun_at 0 (x ∷ rest) ≡ f → ((k : ℕ) → Texts (drop k rest) (spelled_from (suc at) k rest)) → Texts (x ∷ rest) (and_then at f (spelled_from (suc at) (more_of f) rest))
texts-after at x rest (Some s) e h =
    let t = h (length (text_of s) - 1) in
    record { are = rw (begun-symbol x (get_or rest 0 0) (get_or rest 1 0) s e) t.are; texts = λ ok. front x rest s e ∙ ap (λ (l : List ℕ). text_of s ++ l) (t.texts ok) }
texts-after at x rest None e h = record { are = refl; texts = λ ok. refused-passed ok tt }

texts-from : (at left : ℕ) (text : List ℕ) → Texts (drop left text) (spelled_from at left text)
unfolding spelled_from
texts-from at zero [] = record { are = refl; texts = λ ok. refl }
texts-from at (suc left) [] = record { are = refl; texts = λ ok. refl }
texts-from at (suc left) (x ∷ rest) = texts-from (suc at) left rest
texts-from at zero (x ∷ rest) = texts-after at x rest (begun_at 0 (x ∷ rest)) refl (λ k. texts-from (suc at) k rest)

pub grammar : Grammar
grammar = record { spelled_back = λ ss e. spell 0 ss e; its-texts = λ text ok. (texts-from 0 0 text).texts ok; are-symbols = λ text. (texts-from 0 0 text).are }

-- ---- the calls

abbrev bytes-in : Written → ℕ
bytes-in (Ok n) = n
bytes-in (Err x) = 0

abbrev is-bytes : Written → Bool
is-bytes (Ok n) = true
is-bytes (Err x) = false

-- a call that wrote passed its checks, and its bytes are at the output's start
record Wrote (k : Check) (bytes out : List ℕ) (size : ℕ) : Type 0 where
  passes : k ≡ Ok tt
  long : size ≡ length bytes
  start : take size (written_by k bytes out).out ≡ bytes

wrote : (k : Check) (bytes out : List ℕ) (size : ℕ) → (written_by k bytes out).result ≡ Ok size → Wrote k bytes out size
wrote (Ok tt) bytes out size e =
    let long : size ≡ length bytes = sym (ap bytes-in e) in record { passes = refl; long = long; start = take_at bytes (drop (length bytes) out) size (sym long) }
wrote (Err x) bytes out size e = absurd (subst (λ (w : Written). T (is-bytes w)) (sym e) tt)

both-passed : (a b : Check) → or_else a b ≡ Ok tt → (a ≡ Ok tt) × (b ≡ Ok tt)
both-passed (Ok _) b e = (refl, e)
both-passed (Err x) b e = refused-passed e tt

-- what fits passes
passes : (size mode room out : ℕ) → Sizes size mode room out → check_price size mode room out ≡ Ok tt
unfolding check_price
passes size mode room out s = rw (le-leb size 80 s.bytes, lt-ltb mode 4 s.four, le-leb room out s.enough) refl

pub reads_back : (mode : ℕ) (text out back : List ℕ) → ReadsBack mode text out back
unfolding price_write price_read
reads_back mode text out back size e room =
    let ss = (spelled text).symbols in
    let bytes = map (byte_of mode) ss in
    let w = wrote (or_else (check_price (length text) mode 80 (length out)) (spelled text).fault) bytes out size e in
    let s = sizes (length text) mode 80 (length out) (both-passed (check_price (length text) mode 80 (length out)) (spelled text).fault w.passes).0 in
    let fits : Sizes (length bytes) mode 160 (length back) = record { bytes = bytes_fit mode text 80 (record { bytes = s.bytes; four = s.four; enough = omega arith }); four = s.four; enough = room } in
    ap (λ (l : List ℕ). price_read mode l back) w.start
    ∙ ap₂ (λ (k : Check) (p : Spelled). price_by k p (texts_of p.symbols) back) (passes (length bytes) mode 160 (length back) fits) (read-symbols mode 0 ss s.four (texts-from 0 0 text).are)

pub writes-back : (mode : ℕ) (segments out back : List ℕ) → WritesBack mode segments out back
unfolding price_write price_read
writes-back mode segments out back size e few room =
    let p = read_from mode 0 segments in
    let text = texts_of p.symbols in
    let w = wrote (or_else (check_price (length segments) mode 160 (length out)) p.fault) text out size e in
    let ok = both-passed (check_price (length segments) mode 160 (length out)) p.fault w.passes in
    let s = sizes (length segments) mode 160 (length out) ok.0 in
    let fits : Sizes (length text) mode 80 (length back) = record { bytes = omega (arith, w.long); four = s.four; enough = room } in
    let h = shows mode 0 segments in
    ap (λ (l : List ℕ). price_write mode l back) w.start
    ∙ ap₂ (λ (k : Check) (q : Spelled). price_by k q (map (byte_of mode) q.symbols) back) (passes (length text) mode 80 (length back) fits) (spell 0 p.symbols h.are)
    ∙ ap (λ (l : List ℕ). written l back) (h.back ok.1)
