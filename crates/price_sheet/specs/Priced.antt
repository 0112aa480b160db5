-- Write a price on the glass (paper 02, request 1), computed: every digit with and without its point, space and minus in every mode, written and read back; and every refusal in its order.
use Rattle.std.specs.Prelude.{ℕ, ◌+◌, ◌-◌, Bool, true, cond, ◌&&◌, List, [], ◌∷◌, ◌++◌, T, length, replicate}
use Rattle.sheet.specs.Refusals.{written_numbers}
use Rattle.sheet.specs.Parts.{within}
use Rattle.sheet.specs.Written.{WrittenAfter}
use Rattle.price_sheet.specs.Price.{segments_of, byte_of, begun, spelled_from, shown_below, read_from, check_price, price_write, price_read}
use Rattle.sheet.specs.Starred.{same}
use Rattle.sheet.specs.Orders.{Fault, refusal, in_order, is}

-- M, what is given, the answer's number and place, and what is written; the bytes past it stay
pub record Price : Type 0 where
  pub mode : ℕ
  pub given : List ℕ
  pub number : ℕ
  pub place : ℕ
  pub written : List ℕ

abbrev price : ℕ → List ℕ → ℕ → ℕ → List ℕ → Price
price mode given number place written = record { mode = mode; given = given; number = number; place = place; written = written }

abbrev pub answers : ℕ → (ℕ → List ℕ → List ℕ → WrittenAfter) → Price → Bool
answers room call p =
    let s = call p.mode p.given (replicate room 99) in
    same (written_numbers s.result) (p.number ∷ p.place ∷ length p.written ∷ 0 ∷ 0 ∷ 0 ∷ []) && same s.out (p.written ++ replicate (room - length p.written) 99)

abbrev pub every : (Price → Bool) → List Price → Bool
every f [] = true
every f (p ∷ ps) = f p && every f ps

-- what is written and read back
abbrev pub both_ways : Price → Bool
both_ways p =
    answers 80 price_write p && answers 160 price_read (record { mode = p.mode; given = p.written; number = p.number; place = p.place; written = p.given })

abbrev pub symbols : List Price
symbols =
    -- static: every digit
    price 1 (0x30 ∷ 0x31 ∷ 0x32 ∷ 0x33 ∷ 0x34 ∷ 0x35 ∷ 0x36 ∷ 0x37 ∷ 0x38 ∷ 0x39 ∷ []) 0 0 (0xF6 ∷ 0xC0 ∷ 0x6E ∷ 0xEA ∷ 0xD8 ∷ 0xBA ∷ 0xBE ∷ 0xE0 ∷ 0xFE ∷ 0xFA ∷ [])
    -- static: every digit with its point
    ∷ price 1 (0x30 ∷ 0x2E ∷ 0x31 ∷ 0x2E ∷ 0x32 ∷ 0x2E ∷ 0x33 ∷ 0x2E ∷ 0x34 ∷ 0x2E ∷ 0x35 ∷ 0x2E ∷ 0x36 ∷ 0x2E ∷ 0x37 ∷ 0x2E ∷ 0x38 ∷ 0x2E ∷ 0x39 ∷ 0x2E ∷ []) 0 0 (0xF7 ∷ 0xC1 ∷ 0x6F ∷ 0xEB ∷ 0xD9 ∷ 0xBB ∷ 0xBF ∷ 0xE1 ∷ 0xFF ∷ 0xFB ∷ [])
    -- static: space and minus
    ∷ price 1 (0x20 ∷ 0x2D ∷ []) 0 0 (0x00 ∷ 0x08 ∷ [])
    -- 1:2: every digit
    ∷ price 2 (0x30 ∷ 0x31 ∷ 0x32 ∷ 0x33 ∷ 0x34 ∷ 0x35 ∷ 0x36 ∷ 0x37 ∷ 0x38 ∷ 0x39 ∷ []) 0 0 (0xEE ∷ 0x44 ∷ 0xDA ∷ 0xD6 ∷ 0x74 ∷ 0xB6 ∷ 0xBE ∷ 0xC4 ∷ 0xFE ∷ 0xF6 ∷ [])
    -- 1:2: every digit with its point
    ∷ price 2 (0x30 ∷ 0x2E ∷ 0x31 ∷ 0x2E ∷ 0x32 ∷ 0x2E ∷ 0x33 ∷ 0x2E ∷ 0x34 ∷ 0x2E ∷ 0x35 ∷ 0x2E ∷ 0x36 ∷ 0x2E ∷ 0x37 ∷ 0x2E ∷ 0x38 ∷ 0x2E ∷ 0x39 ∷ 0x2E ∷ []) 0 0 (0xEF ∷ 0x45 ∷ 0xDB ∷ 0xD7 ∷ 0x75 ∷ 0xB7 ∷ 0xBF ∷ 0xC5 ∷ 0xFF ∷ 0xF7 ∷ [])
    -- 1:2: space and minus
    ∷ price 2 (0x20 ∷ 0x2D ∷ []) 0 0 (0x00 ∷ 0x10 ∷ [])
    -- 1:3: every digit
    ∷ price 3 (0x30 ∷ 0x31 ∷ 0x32 ∷ 0x33 ∷ 0x34 ∷ 0x35 ∷ 0x36 ∷ 0x37 ∷ 0x38 ∷ 0x39 ∷ []) 0 0 (0xBB ∷ 0xA0 ∷ 0x9D ∷ 0xBC ∷ 0xA6 ∷ 0x3E ∷ 0x3F ∷ 0xB0 ∷ 0xBF ∷ 0xBE ∷ [])
    -- 1:3: every digit with its point
    ∷ price 3 (0x30 ∷ 0x2E ∷ 0x31 ∷ 0x2E ∷ 0x32 ∷ 0x2E ∷ 0x33 ∷ 0x2E ∷ 0x34 ∷ 0x2E ∷ 0x35 ∷ 0x2E ∷ 0x36 ∷ 0x2E ∷ 0x37 ∷ 0x2E ∷ 0x38 ∷ 0x2E ∷ 0x39 ∷ 0x2E ∷ []) 0 0 (0xFB ∷ 0xE0 ∷ 0xDD ∷ 0xFC ∷ 0xE6 ∷ 0x7E ∷ 0x7F ∷ 0xF0 ∷ 0xFF ∷ 0xFE ∷ [])
    -- 1:3: space and minus
    ∷ price 3 (0x20 ∷ 0x2D ∷ []) 0 0 (0x00 ∷ 0x04 ∷ [])
    -- 1:4: every digit
    ∷ price 0 (0x30 ∷ 0x31 ∷ 0x32 ∷ 0x33 ∷ 0x34 ∷ 0x35 ∷ 0x36 ∷ 0x37 ∷ 0x38 ∷ 0x39 ∷ []) 0 0 (0xED ∷ 0x60 ∷ 0xA7 ∷ 0xE3 ∷ 0x6A ∷ 0xCB ∷ 0xCF ∷ 0xE0 ∷ 0xEF ∷ 0xEB ∷ [])
    -- 1:4: every digit with its point
    ∷ price 0 (0x30 ∷ 0x2E ∷ 0x31 ∷ 0x2E ∷ 0x32 ∷ 0x2E ∷ 0x33 ∷ 0x2E ∷ 0x34 ∷ 0x2E ∷ 0x35 ∷ 0x2E ∷ 0x36 ∷ 0x2E ∷ 0x37 ∷ 0x2E ∷ 0x38 ∷ 0x2E ∷ 0x39 ∷ 0x2E ∷ []) 0 0 (0xFD ∷ 0x70 ∷ 0xB7 ∷ 0xF3 ∷ 0x7A ∷ 0xDB ∷ 0xDF ∷ 0xF0 ∷ 0xFF ∷ 0xFB ∷ [])
    -- 1:4: space and minus
    ∷ price 0 (0x20 ∷ 0x2D ∷ []) 0 0 (0x00 ∷ 0x02 ∷ [])
    ∷ []

abbrev pub texts : List Price
texts =
    -- -4 in 1:3, the incident's price
    price 3 (0x2D ∷ 0x34 ∷ []) 0 0 (0x04 ∷ 0xA6 ∷ [])
    -- the typographic minus is three bytes of the text and one of the glass
    ∷ price 3 (0xE2 ∷ 0x88 ∷ 0x92 ∷ 0x34 ∷ []) 0 0 (0x04 ∷ 0xA6 ∷ [])
    -- -12.5 in 1:4, after a space
    ∷ price 0 (0x20 ∷ 0xE2 ∷ 0x88 ∷ 0x92 ∷ 0x31 ∷ 0x32 ∷ 0x2E ∷ 0x35 ∷ []) 0 0 (0x00 ∷ 0x02 ∷ 0x60 ∷ 0xB7 ∷ 0xCB ∷ [])
    -- an empty text
    ∷ price 3 [] 0 0 []
    -- 15: the second point of 1..
    ∷ price 3 (0x31 ∷ 0x2E ∷ 0x2E ∷ []) 15 2 []
    -- 15: a point at the start, after a space, after a minus of either kind
    ∷ price 3 (0x2E ∷ 0x35 ∷ []) 15 0 []
    ∷ price 3 (0x31 ∷ 0x20 ∷ 0x2E ∷ 0x35 ∷ []) 15 2 []
    ∷ price 3 (0x2D ∷ 0x2E ∷ 0x35 ∷ []) 15 1 []
    ∷ price 3 (0xE2 ∷ 0x88 ∷ 0x92 ∷ 0x2E ∷ []) 15 3 []
    -- 15: a broken E2 88 92 at the E2, wherever it breaks
    ∷ price 3 (0x34 ∷ 0xE2 ∷ []) 15 1 []
    ∷ price 3 (0x34 ∷ 0xE2 ∷ 0x88 ∷ []) 15 1 []
    ∷ price 3 (0x34 ∷ 0xE2 ∷ 0x88 ∷ 0x93 ∷ []) 15 1 []
    ∷ price 3 (0x34 ∷ 0xE2 ∷ 0x87 ∷ 0x92 ∷ []) 15 1 []
    ∷ price 3 (0x34 ∷ 0xE2 ∷ 0x34 ∷ 0x88 ∷ 0x92 ∷ []) 15 1 []
    -- 15: a stray 88 or 92 at itself
    ∷ price 3 (0x88 ∷ 0x92 ∷ []) 15 0 []
    ∷ price 3 (0x34 ∷ 0x92 ∷ []) 15 1 []
    ∷ price 3 (0xE2 ∷ 0x88 ∷ 0x92 ∷ 0x88 ∷ []) 15 3 []
    -- 15: beside the digits, a letter, a comma, a plus, 0
    ∷ price 3 (0x30 ∷ 0x2F ∷ []) 15 1 []
    ∷ price 3 (0x39 ∷ 0x3A ∷ []) 15 1 []
    ∷ price 3 (0x34 ∷ 0x65 ∷ []) 15 1 []
    ∷ price 3 (0x34 ∷ 0x2C ∷ 0x35 ∷ []) 15 1 []
    ∷ price 3 (0x2B ∷ 0x34 ∷ []) 15 0 []
    ∷ price 3 (0x34 ∷ 0x00 ∷ []) 15 1 []
    ∷ []

-- in a mode, what lights no symbol beside what does: DP alone after 1, g with DP, and segment a alone between two 4s and a space are 15;
-- everything lit is 8 with its point; and E is 15, after 6 with its point
abbrev odd : ℕ → ℕ → ℕ → ℕ → ℕ → ℕ → ℕ → ℕ → List Price
odd mode one dp g-dp four a six e =
    price mode (one ∷ dp ∷ []) 15 1 []
    ∷ price mode (g-dp ∷ []) 15 0 []
    ∷ price mode (four ∷ 0x00 ∷ a ∷ four ∷ []) 15 2 []
    ∷ price mode (0xFF ∷ []) 0 0 (0x38 ∷ 0x2E ∷ [])
    ∷ price mode (six ∷ e ∷ []) 15 1 []
    ∷ []

abbrev pub glasses : List Price
glasses =
    -- what the incident's glass shows
    price 3 (0x04 ∷ 0xA6 ∷ []) 0 0 (0x2D ∷ 0x34 ∷ [])
    -- no byte
    ∷ price 1 [] 0 0 []
    -- static, 1:2, 1:3 and 1:4
    ∷ (odd 1 0xC1 0x01 0x09 0xD8 0x20 0xBF 0x3E ++ (odd 2 0x45 0x01 0x11 0x74 0x80 0xBF 0xBA ++ (odd 3 0xE0 0x40 0x44 0xA6 0x10 0x7F 0x1F ++ odd 0 0x70 0x10 0x12 0x6A 0x80 0xDF 0x8F)))

-- ---- the order of the refusals, each at its edge: 80 bytes or 81, an M of 3 or 4, an output as long as the call's or a byte shorter, and at place 5 a byte that is none

abbrev asked : ℕ → ℕ → ℕ → (ℕ → List ℕ → List ℕ → WrittenAfter) → List Bool → List ℕ
asked room good bad call there =
    written_numbers
    (call (cond (is there 1) 4 3) (replicate 5 good ++ (cond (is there 3) bad good ∷ replicate (cond (is there 0) 75 74) good)) (replicate (cond (is there 2) (room - 1) room) 99)).result

abbrev faults : List Fault
faults = refusal 2 0 ∷ refusal 6 0 ∷ refusal 9 0 ∷ refusal 15 5 ∷ []

-- 9 goes by the fixed length, though the text is empty
abbrev pub fixed : Bool
fixed = same (written_numbers (price_write 3 [] (replicate 79 99)).result) (9 ∷ 0 ∷ 0 ∷ 0 ∷ 0 ∷ 0 ∷ []) && same (written_numbers (price_read 3 [] (replicate 159 99)).result) (9 ∷ 0 ∷ 0 ∷ 0 ∷ 0 ∷ 0 ∷ [])

abbrev pub ordered : Bool
ordered = in_order faults (asked 80 0x20 0x2E price_write) && (in_order faults (asked 160 0xA6 0x40 price_read) && fixed)

pub priced : T (every both_ways symbols && (every (answers 80 price_write) texts && (every (answers 160 price_read) glasses && ordered)))
unfolding segments_of byte_of begun spelled_from shown_below read_from check_price price_write price_read within
priced = tt
