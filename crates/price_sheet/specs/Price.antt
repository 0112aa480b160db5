-- Write a price on the glass (paper 02, request 1): a text as symbols, each symbol's text, segments and data byte; the two calls, text to bytes and bytes to text.
use Rattle.std.specs.Prelude.{ℕ, zero, suc, ◌+◌, ◌-◌, ◌*◌, ◌≤◌, ◌<◌, Bool, true, cond, ◌&&◌, ◌||◌, List, [], ◌∷◌, ◌++◌, map, eqb, ltb, leb, length, get_or, Err, None, Ok, Option, Some}
use Rattle.price_sheet.specs.declared.Symbol.{Symbol}
use Rattle.price_sheet.specs.declared.Symbol.TheVariants.{Digit, Pointed, Space, Minus, LongMinus}
use Rattle.sheet.specs.Results.{Check}
use Rattle.sheet.specs.declared.Refusal.TheVariants.{LongTransfer, Register, OutputLength, NoSymbol}
use Rattle.sheet.specs.Parts.{within}
use Rattle.sheet.specs.Checks.{unless, or_else}
use Rattle.sheet.specs.Written.{WrittenAfter, written_by}

-- ---- a symbol's text

-- a digit is 0 to 9; the point, 2E, is joined to the digit before it; the typographic minus is E2 88 92
abbrev pub text_of : Symbol → List ℕ
text_of (Digit n) = (48 + n) ∷ []
text_of (Pointed n) = (48 + n) ∷ 0x2E ∷ []
text_of Space = 0x20 ∷ []
text_of Minus = 0x2D ∷ []
text_of LongMinus = 0xE2 ∷ 0x88 ∷ 0x92 ∷ []

-- a symbol that has one: its digit is at most 9
abbrev pub is_symbol : Symbol → Bool
is_symbol (Digit n) = ltb n 10
is_symbol (Pointed n) = ltb n 10
is_symbol Space = true
is_symbol Minus = true
is_symbol LongMinus = true

-- a text is its symbols' texts
abbrev pub texts_of : List Symbol → List ℕ
texts_of [] = []
texts_of (s ∷ ss) = text_of s ++ texts_of ss

-- with the plain minus
abbrev pub plain : Symbol → Symbol
plain (Digit n) = Digit n
plain (Pointed n) = Pointed n
plain Space = Space
plain Minus = Minus
plain LongMinus = Minus

-- ---- a symbol's data byte

-- the segments by their letters
abbrev pub a : ℕ
a = 0

abbrev pub b : ℕ
b = 1

abbrev pub c : ℕ
c = 2

abbrev pub d : ℕ
d = 3

abbrev pub e : ℕ
e = 4

abbrev pub f : ℕ
f = 5

abbrev pub g : ℕ
g = 6

abbrev pub DP : ℕ
DP = 7

-- digits 0 to 9 light abcdef, bc, abdeg, abcdg, bcfg, acdfg, acdefg, abc, abcdefg, abcdfg
abbrev pub shapes : List (List ℕ)
shapes =
    (a ∷ b ∷ c ∷ d ∷ e ∷ f ∷ []) ∷ (b ∷ c ∷ []) ∷ (a ∷ b ∷ d ∷ e ∷ g ∷ []) ∷ (a ∷ b ∷ c ∷ d ∷ g ∷ []) ∷ (b ∷ c ∷ f ∷ g ∷ [])
    ∷ (a ∷ c ∷ d ∷ f ∷ g ∷ []) ∷ (a ∷ c ∷ d ∷ e ∷ f ∷ g ∷ []) ∷ (a ∷ b ∷ c ∷ []) ∷ (a ∷ b ∷ c ∷ d ∷ e ∷ f ∷ g ∷ []) ∷ (a ∷ b ∷ c ∷ d ∷ f ∷ g ∷ []) ∷ []

-- what a symbol lights: a minus segment g alone
unfoldable pub segments_of : Symbol → List ℕ
segments_of (Digit n) = get_or shapes n []
segments_of (Pointed n) = DP ∷ get_or shapes n []
segments_of Space = []
segments_of Minus = g ∷ []
segments_of LongMinus = g ∷ []

-- the segments of a byte, most significant bit first, by M (sheet 003, figure 13): 00 is 1:4, 01 static, 10 1:2, 11 1:3
abbrev pub orders : List (List ℕ)
orders =
    (a ∷ c ∷ b ∷ DP ∷ f ∷ e ∷ g ∷ d ∷ [])
    ∷ (c ∷ b ∷ a ∷ f ∷ g ∷ e ∷ d ∷ DP ∷ [])
    ∷ (a ∷ b ∷ f ∷ g ∷ e ∷ c ∷ d ∷ DP ∷ [])
    ∷ (b ∷ DP ∷ c ∷ a ∷ d ∷ g ∷ f ∷ e ∷ [])
    ∷ []

abbrev pub is_in : ℕ → List ℕ → Bool
is_in s [] = Bool.false
is_in s (t ∷ ts) = eqb s t || is_in s ts

-- the bits so far, and one for each segment of the order
abbrev pub bits_of : ℕ → List ℕ → List ℕ → ℕ
bits_of so_far [] lit = so_far
bits_of so_far (s ∷ order) lit = bits_of (2 * so_far + cond (is_in s lit) 1 0) order lit

unfoldable pub byte_of : ℕ → Symbol → ℕ
byte_of mode s = bits_of 0 (get_or orders mode []) (segments_of s)

-- ---- the symbols of a text

-- what its first three bytes begin, 0 past its end: a digit with the point directly after it, a digit, a space, or a minus
unfoldable pub begun : ℕ → ℕ → ℕ → Option Symbol
begun x y z =
    cond (within 48 57 x) (cond (eqb y 0x2E) (Some (Pointed (x - 48))) (Some (Digit (x - 48))))
    (cond (eqb x 0x20) (Some Space)
    (cond (eqb x 0x2D) (Some Minus)
    (cond (eqb x 0xE2 && (eqb y 0x88 && eqb z 0x92)) (Some LongMinus)
    None)))

-- at a place of a text
abbrev pub begun_at : ℕ → List ℕ → Option Symbol
begun_at i text = begun (get_or text i 0) (get_or text (i + 1) 0) (get_or text (i + 2) 0)

-- the symbols up to the first byte that begins none; 15 at its place
pub record Spelled : Type 0 where
  pub symbols : List Symbol
  pub fault : Check

-- what is found at a place, and what is spelled after it
abbrev pub and_then : ℕ → Option Symbol → Spelled → Spelled
and_then at (Some s) p = record { symbols = s ∷ p.symbols; fault = p.fault }
and_then at None p = record { symbols = []; fault = Err (NoSymbol at) }

-- the bytes of a symbol's text after its first
abbrev pub more_of : Option Symbol → ℕ
more_of (Some s) = length (text_of s) - 1
more_of None = 0

-- the text from a place on, whose first bytes belong to the symbol before, as many as `left` says
unfoldable pub spelled_from : ℕ → ℕ → List ℕ → Spelled
spelled_from at left [] = record { symbols = []; fault = (Ok tt) }
spelled_from at (suc left) (x ∷ rest) = spelled_from (suc at) left rest
spelled_from at zero (x ∷ rest) = let found = begun_at 0 (x ∷ rest) in and_then at found (spelled_from (suc at) (more_of found) rest)

abbrev pub spelled : List ℕ → Spelled
spelled text = spelled_from 0 0 text

-- ---- the symbols of data bytes

-- the 22 symbols that a byte may show: the digits, the digits with the point, space and minus
abbrev pub shown_as : ℕ → Symbol
shown_as k = cond (ltb k 10) (Digit k) (cond (ltb k 20) (Pointed (k - 10)) (cond (eqb k 20) Space Minus))

-- the one of the first n whose byte it is; no two have the same byte
unfoldable pub shown_below : ℕ → ℕ → ℕ → Option Symbol
shown_below zero mode x = None
shown_below (suc k) mode x = cond (eqb x (byte_of mode (shown_as k))) (Some (shown_as k)) (shown_below k mode x)

abbrev pub shown : ℕ → ℕ → Option Symbol
shown mode x = shown_below 22 mode x

unfoldable pub read_from : ℕ → ℕ → List ℕ → Spelled
read_from mode at [] = record { symbols = []; fault = (Ok tt) }
read_from mode at (x ∷ rest) = and_then at (shown mode x) (read_from mode (suc at) rest)

-- ---- the calls

-- 2 for more than 80 bytes, 6 for an M over 3, 9 for an output under its fixed length, however short the text is
unfoldable pub check_price : ℕ → ℕ → ℕ → ℕ → Check
check_price size mode room out = or_else (unless (leb size 80) LongTransfer) (or_else (unless (ltb mode 4) Register) (unless (leb room out) OutputLength))

-- what has passed them
pub record Sizes (size mode room out : ℕ) : Type 0 where
  pub bytes : size ≤ 80
  pub four : mode < 4
  pub enough : room ≤ out

-- then 15; output past the bytes stays
abbrev pub price_by : Check → Spelled → List ℕ → List ℕ → WrittenAfter
price_by sizes p bytes out = written_by (or_else sizes p.fault) bytes out

unfoldable pub price_write : ℕ → List ℕ → List ℕ → WrittenAfter
price_write mode text out = let p = spelled text in price_by (check_price (length text) mode 80 (length out)) p (map (byte_of mode) p.symbols) out

unfoldable pub price_read : ℕ → List ℕ → List ℕ → WrittenAfter
price_read mode segments out = let p = read_from mode 0 segments in price_by (check_price (length segments) mode 160 (length out)) p (texts_of p.symbols) out
