-- What is written at the front of a buffer, symbol by symbol: before the place what is done, and what is left makes it whole.
-- Assumes nothing.
use mathlib.Core.Path.{◌≡◌, refl, sym, ap, ap₂, subst, ◌∙◌}
use mathlib.Core.Bool.{true}
use mathlib.Core.List.{List, [], ◌∷◌, ◌++◌, append_assoc, append-nil, map}
use Prim.Native.Nat.{ℕ, zero, suc, ◌+◌, ◌-◌, ◌*◌, ◌/◌, ◌%◌, ◌≤◌, ◌<◌}
use native.Mathlib.Numerals.{add-one}
use native.Mathlib.Omega.{arith}
use lib.ListN.{length, take, drop, get_or, set, length-set, take-append-drop, drop_of_length-le}
use lib.Seq.{take-suc-set, take-set-le, drop-set-lt, drop-drop, get_or-set_same, get_or-take, length-take-le}
use borrow.Author.Tests.{ltb-true}
use Rattle.lemmas.proofs.Lists.{next}
use Rattle.std.specs.Prelude.{Err, None, Ok, Option, Some}
use Rattle.sheet.specs.Results.{Check}
use Rattle.sheet.specs.declared.Refusal.TheVariants.{NoSymbol}
use Rattle.sheet.specs.Written.{written_by}
use Rattle.price_sheet.specs.declared.Symbol.{Symbol}
use Rattle.price_sheet.specs.declared.Symbol.TheVariants.{Digit, Pointed, Space, Minus, LongMinus}
use Rattle.price_sheet.specs.Price.{is_symbol, text_of, texts_of, plain, byte_of, begun_at, Spelled, and_then, spelled_from, spelled, shown, read_from}
use Rattle.laws.proofs.Symbols.{shown-is}
use Rattle.laws.proofs.Spelling.{some-text, one_symbol, no_symbol, one_byte}
use Rattle.glyphs.specs.Tables.{code_of}
use Rattle.price.specs.Fronts.{Put}

pub record Fronting (whole : List ℕ) (place : ℕ) (rest after : List ℕ) : Type 0 where
  pub same : take place after ++ rest ≡ whole
  pub inside : place ≤ length after

module _ {whole : List ℕ} {place : ℕ} {after : List ℕ} where
  rest-is : {rest other : List ℕ} → Fronting whole place rest after → rest ≡ other → Fronting whole place other after
  rest-is w e = subst (λ (l : List ℕ). Fronting whole place l after) e w

  -- one byte more
  pub one_more : {rest : List ℕ} (x : ℕ) → place < length after → Fronting whole place (x ∷ rest) after → Fronting whole (place + 1) rest (set after place x)
  one_more {rest} x h w = record {
    same = rw (add-one place, take-suc-set after place x h, append_assoc) w.same;
    inside = omega (arith, length-set after place x);
  }

  -- nothing is left
  all_of : Fronting whole place [] after → take place after ≡ whole
  all_of w = sym (append-nil (take place after)) ∙ w.same

  long : Fronting whole place [] after → place ≡ length whole
  long w = sym (length-take-le place after w.inside) ∙ ap length (all_of w)

-- what stays from n on stays from a later place on
further : (before after : List ℕ) (n m : ℕ) → n ≤ m → drop n after ≡ drop n before → drop m after ≡ drop m before
further before after n m h e =
    let on : n + (m - n) ≡ m = omega arith in
    ap (λ (k : ℕ). drop k after) (sym on) ∙ sym (drop-drop (m - n) n after) ∙ ap (λ (l : List ℕ). drop (m - n) l) e ∙ drop-drop (m - n) n before ∙ ap (λ (k : ℕ). drop k before) on

module _ {p : Spelled} {whole before after : List ℕ} {room : ℕ} where
  pub passed : {place : ℕ} → p.fault ≡ Ok tt → Fronting whole place [] after → drop place after ≡ drop place before → place ≤ room → Put p whole room before after (Ok place)
  passed {place} e w stays h = record {
    result = ap Ok (long w) ∙ ap (λ (k : Check). (written_by k whole []).result) (sym e);
    whole = λ _. sym (take-append-drop place after) ∙ ap (λ (l : List ℕ). l ++ drop place after) (all_of w) ∙ ap (λ (l : List ℕ). whole ++ l) (stays ∙ ap (λ (k : ℕ). drop k before) (long w));
    far = further before after place room h stays;
  }

  pub refused : {i : ℕ} → p.fault ≡ Err (NoSymbol i) → drop room after ≡ drop room before → Put p whole room before after (Err (NoSymbol i))
  refused e far = record {
    result = ap (λ (k : Check). (written_by k whole []).result) (sym e);
    whole = λ passed. let z : ◌≡◌ {A = ℕ} 0 1 = cc in absurd (omega (arith, z));
    far = far;
  }

-- ---- data bytes to a text

-- the text of the bytes from i on
abbrev pub text_left : ℕ → List ℕ → ℕ → List ℕ
text_left mode bytes i = texts_of (read_from mode i (drop i bytes)).symbols

pub record Reading (mode : ℕ) (bytes before : List ℕ) (place i : ℕ) (after : List ℕ) : Type 0 where
  pub front : Fronting (text_left mode bytes 0) place (text_left mode bytes i) after
  pub fault : (read_from mode i (drop i bytes)).fault ≡ (read_from mode 0 bytes).fault
  pub few : place ≤ 2 * i
  pub kept : length after ≡ length before
  pub stays : drop (place + 1) after ≡ drop (place + 1) before
  pub far : drop 160 after ≡ drop 160 before

-- a symbol's code says its text
pub record Coded (s : Symbol) (code : ℕ) : Type 0 where
  pub text : text_of s ≡ take (code / 256) (code % 256 ∷ 0x2E ∷ [])
  pub least : 1 ≤ code / 256
  pub most : code / 256 ≤ 2

by_code : (s : Symbol) → is_symbol s ≡ true → plain s ≡ s → Coded s (code_of (Some s))
by_code (Digit n) e p = let l = ltb-true n 10 e in
    let high : (0x130 + n) / 256 ≡ 1 = omega arith in
    let low : (0x130 + n) % 256 ≡ 48 + n = omega arith in
    record { text = rw (high, low) refl; least = omega arith; most = omega arith }
by_code (Pointed n) e p = let l = ltb-true n 10 e in
    let high : (0x230 + n) / 256 ≡ 2 = omega arith in
    let low : (0x230 + n) % 256 ≡ 48 + n = omega arith in
    record { text = rw (high, low) refl; least = omega arith; most = omega arith }
by_code Space e p = record { text = refl; least = omega arith; most = omega arith }
by_code Minus e p = record { text = refl; least = omega arith; most = omega arith }
by_code LongMinus e p = let z : ◌≡◌ {A = ℕ} 0 1 = cc in absurd (omega (arith, z))

-- no symbol has code 0
no_code : (f : Option Symbol) → code_of f ≡ 0 → f ≡ None
no_code (Some (Digit n)) e = absurd (omega (arith, e))
no_code (Some (Pointed n)) e = absurd (omega (arith, e))
no_code (Some Space) e = absurd (omega (arith, e))
no_code (Some Minus) e = absurd (omega (arith, e))
no_code (Some LongMinus) e = absurd (omega (arith, e))
no_code None e = refl

-- a byte and the point, of which the point may be written over
two : {whole rest after : List ℕ} (place c n : ℕ) → 1 ≤ n → n ≤ 2 → place + 1 < length after → Fronting whole place (take n (c ∷ 0x2E ∷ []) ++ rest) after
    → Fronting whole (place + n) rest (set (set after place c) (place + 1) 0x2E)
two {whole} {rest} {after} place c (suc zero) l m h w = let f = one_more {rest = rest} c (omega arith) w in
    record {
      same = ap (λ (l : List ℕ). l ++ rest) (take-set-le (place + 1) (set after place c) (place + 1) 0x2E (omega arith)) ∙ f.same;
      inside = omega (arith, f.inside, length-set (set after place c) (place + 1) 0x2E);
    }
two {whole} {rest} {after} place c (suc (suc zero)) l m h w =
    let on : place + 1 + 1 ≡ place + 2 = omega arith in
    subst (λ (k : ℕ). Fronting whole k rest (set (set after place c) (place + 1) 0x2E)) on
    (one_more 0x2E (omega (arith, length-set after place c)) (one_more {rest = 0x2E ∷ rest} c (omega arith) w))
two place c zero l m h w = absurd (omega arith)
two place c (suc (suc (suc n))) l m h w = absurd (omega arith)

-- of which nothing from n on knows
two-before : (after : List ℕ) (place c n : ℕ) → place + 1 < n → drop n (set (set after place c) (place + 1) 0x2E) ≡ drop n after
two-before after place c n h = drop-set-lt n (set after place c) (place + 1) 0x2E h ∙ drop-set-lt n after place c (omega arith)

-- by what byte i shows
left_by : (mode : ℕ) (bytes : List ℕ) (i : ℕ) (f : Option Symbol) → i < length bytes → shown mode (get_or bytes i 0) ≡ f → read_from mode i (drop i bytes) ≡ and_then i f (read_from mode (i + 1) (drop (i + 1) bytes))
left_by mode bytes i f h e = one_byte mode bytes i h ∙ ap (λ (g : Option Symbol). and_then i g (read_from mode (i + 1) (drop (i + 1) bytes))) e

module _ {mode : ℕ} {bytes before : List ℕ} {place i : ℕ} {after : List ℕ} where
  turn_by : (f : Option Symbol) → shown mode (get_or bytes i 0) ≡ f → (code_of f ≡ 0 → ⊥) → i < length bytes → place + 1 < 160 → 160 ≤ length before → Reading mode bytes before place i after
      → Reading mode bytes before (place + code_of f / 256) (i + 1) (set (set after place (code_of f % 256)) (place + 1) 0x2E)
  turn_by None e ne h l r w = absurd (ne refl)
  turn_by (Some s) e ne h l r w =
      let is = (shown-is mode (get_or bytes i 0) s e).is in
      let n = code_of (Some s) in
      let code = by_code s is.symbol is.same in
      let next = left_by mode bytes i (Some s) h e in
      record {
        front = two place (n % 256) (n / 256) code.least code.most (omega (arith, w.kept))
            (rest-is w.front (ap (λ (p : Spelled). texts_of p.symbols) next ∙ ap (λ (t : List ℕ). t ++ text_left mode bytes (i + 1)) code.text));
        fault = sym (ap (λ (p : Spelled). p.fault) next) ∙ w.fault;
        few = omega (arith, w.few, code.most);
        kept = length-set (set after place (n % 256)) (place + 1) 0x2E ∙ length-set after place (n % 256) ∙ w.kept;
        stays = two-before after place (n % 256) (place + n / 256 + 1) (omega (arith, code.least)) ∙ further before after (place + 1) (place + n / 256 + 1) (omega arith) w.stays;
        far = two-before after place (n % 256) 160 l ∙ w.far;
      }

  pub read-turn : (code : ℕ) → i < length bytes → place + 1 < 160 → 160 ≤ length before → code ≡ code_of (shown mode (get_or bytes i 0)) → (code ≡ 0 → ⊥) → Reading mode bytes before place i after
      → Reading mode bytes before (place + code / 256) (i + 1) (set (set after place (code % 256)) (place + 1) 0x2E)
  read-turn code h l r e ne w =
      subst (λ (n : ℕ). Reading mode bytes before (place + n / 256) (i + 1) (set (set after place (n % 256)) (place + 1) 0x2E)) (sym e)
      (turn_by (shown mode (get_or bytes i 0)) refl (λ z. ne (e ∙ z)) h l r w)

  pub read-refused : i < length bytes → code_of (shown mode (get_or bytes i 0)) ≡ 0 → Reading mode bytes before place i after → Put (read_from mode 0 bytes) (text_left mode bytes 0) 160 before after (Err (NoSymbol i))
  read-refused h e w = let next = left_by mode bytes i None h (no_code (shown mode (get_or bytes i 0)) e) in refused (sym w.fault ∙ ap (λ (p : Spelled). p.fault) next) w.far

  -- no byte is left
  done : length bytes ≤ i → Reading mode bytes before place i after → ((read_from mode 0 bytes).fault ≡ Ok tt) × Fronting (text_left mode bytes 0) place [] after
  unfolding read_from
  done h w =
      let none : drop i bytes ≡ [] = drop_of_length-le bytes {i = i} h in
      (sym w.fault ∙ ap (λ (l : List ℕ). (read_from mode i l).fault) none, rest-is w.front (ap (λ (l : List ℕ). texts_of (read_from mode i l).symbols) none))

  -- the byte after the text is put back
  pub read_done : {front : List ℕ} → length bytes ≤ i → front ≡ take 160 before → place < 160 → 160 ≤ length before → Reading mode bytes before place i after
      → Put (read_from mode 0 bytes) (text_left mode bytes 0) 160 before (set after place (get_or front place 0)) (Ok place)
  read_done {front} h e l r w =
      let d = done h w in
      let x = get_or front place 0 in
      let there : place < length (set after place x) = omega (arith, length-set after place x, w.kept) in
      let was : x ≡ get_or before place 0 = ap (λ (l : List ℕ). get_or l place 0) e ∙ get_or-take 160 before place 0 l in
      passed d.0 (record { same = ap (λ (l : List ℕ). l ++ []) (take-set-le place after place x (omega arith)) ∙ d.1.same; inside = omega (arith, there) })
      (next (set after place x) place there
      ∙ ap₂ (λ (k : ℕ) (l : List ℕ). k ∷ l) (get_or-set_same after place x 0 (omega (arith, w.kept)) ∙ was) (drop-set-lt (place + 1) after place x (omega arith) ∙ w.stays)
      ∙ sym (next before place (omega arith)))
      (omega arith)

  -- or there is none
  pub read-filled : length bytes ≤ i → length (text_left mode bytes 0) ≤ 160 → 160 ≤ place → Reading mode bytes before place i after → Put (read_from mode 0 bytes) (text_left mode bytes 0) 160 before after (Ok place)
  read-filled h m l w =
      let d = done h w in
      let full : place ≡ 160 = omega (arith, long d.1) in
      passed d.0 d.1 (subst (λ (k : ℕ). drop k after ≡ drop k before) (sym full) w.far) (omega arith)

-- ---- a text to data bytes

-- the data bytes of the text from i on
abbrev pub bytes_left : ℕ → List ℕ → ℕ → List ℕ
bytes_left mode text i = map (byte_of mode) (spelled_from i 0 (drop i text)).symbols

pub record Spelling (mode : ℕ) (text before : List ℕ) (place i : ℕ) (after : List ℕ) : Type 0 where
  pub front : Fronting (bytes_left mode text 0) place (bytes_left mode text i) after
  pub fault : (spelled_from i 0 (drop i text)).fault ≡ (spelled text).fault
  pub few : (place ≤ i) × (place ≤ 80)
  pub kept : length after ≡ length before
  pub stays : drop place after ≡ drop place before

module _ {mode : ℕ} {text before : List ℕ} {place i : ℕ} {after : List ℕ} where
  pub spell-turn : (s : Symbol) (x n : ℕ) → i < length text → place < 80 → 80 ≤ length before → begun_at i text ≡ Some s → x ≡ byte_of mode s → n ≡ length (text_of s) → Spelling mode text before place i after
      → Spelling mode text before (place + 1) (i + n) (set after place x)
  spell-turn s x n h l r e b m w =
      let next = one_symbol text i s h e ∙ ap (λ (k : ℕ). and_then i (Some s) (spelled_from (i + k) 0 (drop (i + k) text))) (sym m) in
      record {
        front = one_more x (omega (arith, w.kept))
            (rest-is w.front (ap (λ (p : Spelled). map (byte_of mode) p.symbols) next ∙ ap (λ (k : ℕ). k ∷ bytes_left mode text (i + n)) (sym b)));
        fault = sym (ap (λ (p : Spelled). p.fault) next) ∙ w.fault;
        few = (omega (arith, w.few.0, some-text s, m), omega arith);
        kept = length-set after place x ∙ w.kept;
        stays = drop-set-lt (place + 1) after place x (omega arith) ∙ further before after place (place + 1) (omega arith) w.stays;
      }

  pub spell-refused : i < length text → begun_at i text ≡ None → Spelling mode text before place i after → Put (spelled text) (bytes_left mode text 0) 80 before after (Err (NoSymbol i))
  spell-refused h e w =
      let next = no_symbol text i (spelled text) h e in
      refused (sym w.fault ∙ ap (λ (p : Spelled). p.fault) next) (further before after place 80 w.few.1 w.stays)

  pub spell-done : length text ≤ i → Spelling mode text before place i after → Put (spelled text) (bytes_left mode text 0) 80 before after (Ok place)
  unfolding spelled_from
  spell-done h w =
      let none : drop i text ≡ [] = drop_of_length-le text {i = i} h in
      passed (sym w.fault ∙ ap (λ (l : List ℕ). (spelled_from i 0 l).fault) none) (rest-is w.front (ap (λ (l : List ℕ). map (byte_of mode) (spelled_from i 0 l).symbols) none)) w.stays w.few.1
