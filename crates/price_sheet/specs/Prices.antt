-- Request 1's laws, stated: a text is its symbols' texts; what is written is read back with plain minuses, and what is read is written back. Proved in `laws`, of every mode.
-- Assumes nothing.
use Rattle.std.specs.Prelude.{◌≡◌, ℕ, ◌≤◌, Bool, true, ◌&&◌, List, [], ◌∷◌, ◌++◌, map, length, take, drop, Ok, Option, Some}
use Rattle.price_sheet.specs.declared.Symbol.{Symbol}
use Rattle.sheet.specs.Results.{Written}
use Rattle.sheet.specs.Written.{WrittenAfter}
use Rattle.price_sheet.specs.Price.{is_symbol, texts_of, plain, byte_of, Spelled, spelled, shown, price_write, price_read}

abbrev pub are_symbols : List Symbol → Bool
are_symbols [] = true
are_symbols (s ∷ ss) = is_symbol s && are_symbols ss

-- all of it, with no fault
abbrev pub whole : List Symbol → Spelled
whole symbols = record { symbols = symbols; fault = (Ok tt) }

-- ---- the grammar: the texts that are taken are the texts of symbols, of each in one way

pub record Grammar : Type 0 where
  pub spelled_back : (symbols : List Symbol) → are_symbols symbols ≡ true → spelled (texts_of symbols) ≡ whole symbols
  pub its-texts : (text : List ℕ) → (spelled text).fault ≡ Ok tt → text ≡ texts_of (spelled text).symbols
  pub are-symbols : (text : List ℕ) → are_symbols (spelled text).symbols ≡ true

-- ---- the bytes that can be read are just those that can be written

pub record Bytes (mode : ℕ) : Type 0 where
  pub read : (x : ℕ) (s : Symbol) → shown mode x ≡ Some s → (is_symbol s ≡ true) × (byte_of mode s ≡ x)
  pub written : (s : Symbol) → is_symbol s ≡ true → shown mode (byte_of mode s) ≡ Some (plain s)

-- ---- the round trips, call by call

-- the text with the plain minus
abbrev pub plain_text : List ℕ → List ℕ
plain_text text = texts_of (map plain (spelled text).symbols)

-- what is at the start of an output, whose rest stays
abbrev pub written : List ℕ → List ℕ → WrittenAfter
written bytes out = record { result = Ok (length bytes); out = bytes ++ drop (length bytes) out }

-- reading what was written gives the text with the plain minus
abbrev pub ReadsBack : ℕ → List ℕ → List ℕ → List ℕ → Type 0
ReadsBack mode text out back =
    (size : ℕ) → (price_write mode text out).result ≡ Ok size → 160 ≤ length back → price_read mode (take size (price_write mode text out).out) back ≡ written (plain_text text) back

-- writing what was read gives the bytes, unless the text has more than 80 of its own
abbrev pub WritesBack : ℕ → List ℕ → List ℕ → List ℕ → Type 0
WritesBack mode segments out back =
    (size : ℕ) → (price_read mode segments out).result ≡ Ok size → size ≤ 80 → 80 ≤ length back → price_write mode (take size (price_read mode segments out).out) back ≡ written segments back
