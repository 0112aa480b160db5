-- The long account as C sees it: registers as bytes, answers as numbers, through the definitions of `sheet`. Assumes nothing.
use Rattle.std.specs.Prelude.{ℕ, ◌<◌, ◌≡◌, Bool, cond, ◌&&◌, List, eqb, length, get_or, Ok, Some}
use Rattle.sheet.specs.declared.Chips.{Chips}
use Rattle.sheet.specs.Results.{Answer}
use Rattle.sheet.specs.declared.PowerOn.{PowerOn}
use Rattle.sheet.specs.Refusals.{numbers, picture_numbers, check_numbers}
use Rattle.sheet.specs.Parts.{Part, part_of}
use Rattle.sheet.specs.Protocol.{heard_by, Sent, whole_of, address_byte}
use Rattle.sheet.specs.Checks.{or_else, check_sent, check_bytes, check_state}
use Rattle.sheet.specs.Pictures.{Seen}
use Rattle.sheet.specs.Long.{After, answered, taken, power_on_part, transfer_part, picture_part}
use Rattle.wire.specs.Bytes.{both_of, both_bytes}

-- ---- a transfer over lent registers

pub record LentAfter : Type 0 where
  pub answer : Answer
  pub registers : List ℕ
  pub ram : List ℕ

-- what a transfer leaves, its registers as bytes
abbrev pub lent_after : After → LentAfter
lent_after a = record { answer = a.result.answer; registers = both_bytes a.result.registers; ram = a.ram }

-- a bus that has passed 16, 3, 6, 4 and 5
pub record Sendable (K : Part) (n : Chips) (registers ram : List ℕ) : Type 0 where
  pub size : length registers ≡ 24
  pub state : check_state K n (both_of registers) ram ≡ Ok tt

-- what is left to check then is 1, 2, 19, and 7, 17 and 18
abbrev pub sent_c : Part → Chips → List ℕ → List ℕ → Sent → LentAfter
sent_c K n registers ram t =
    let r = both_of registers in
    let to = heard_by n (address_byte t) in
    lent_after (answered (or_else (check_sent t) (check_bytes K r to t)) r ram (taken K n r ram t to))

-- and 7, 17 and 18 where group g hears it
abbrev pub sent_to : Part → Chips → ℕ → List ℕ → List ℕ → Sent → LentAfter
sent_to K n g registers ram t =
    let r = both_of registers in lent_after (answered (check_bytes K r (Some g) t) r ram (taken K n r ram t (Some g)))

-- what a group is asked that hears a transfer: byte 0 came, and an answer has six numbers
pub record Hearable (K : Part) (n : Chips) (g : ℕ) (registers ram : List ℕ) (t : Sent) (answer : List ℕ) : Type 0 where
  pub bus : Sendable K n registers ram
  pub small : g < 2
  pub short : length t.bytes < 4097
  pub some : 0 < length (whole_of t)
  pub six : length answer ≡ 6

-- ---- calls that lend registers and the RAM. Each gives the number returned and what each lent buffer holds after it

pub record Called : Type 0 where
  pub number : ℕ
  pub registers : List ℕ
  pub buffer : List ℕ
  pub answer : List ℕ

-- what is left, with what is said of it in numbers
abbrev pub numbered : Part → LentAfter → Called
numbered K a = let k = numbers K a.answer in record { number = get_or k 0 0; registers = a.registers; buffer = a.ram; answer = k }

-- 255, and nothing is written, unless registers are 24 bytes and an answer has six numbers
abbrev pub sized : List ℕ → List ℕ → List ℕ → Called → Called
sized registers buffer answer c =
    cond (eqb (length registers) 24 && eqb (length answer) 6) c (record { number = 255; registers = registers; buffer = buffer; answer = answer })

-- what a power-on says, and the registers that it gives
abbrev pub powered_c : List ℕ → List ℕ → List ℕ → PowerOn → Called
powered_c registers ram answer p =
    let k = check_numbers p.check in
    sized registers ram answer (record { number = get_or k 0 0; registers = both_bytes p.registers; buffer = ram; answer = k })

unfoldable pub power_on_c : ℕ → Chips → List ℕ → List ℕ → List ℕ → Called
power_on_c part n ram registers answer = powered_c registers ram answer (power_on_part part n ram)

-- what a transfer says, and what it leaves
abbrev pub after_c : ℕ → List ℕ → List ℕ → List ℕ → After → Called
after_c part registers ram answer t = sized registers ram answer (numbered (part_of part) (lent_after t))

unfoldable pub transfer_c : ℕ → Chips → List ℕ → List ℕ → Sent → List ℕ → Called
transfer_c part n registers ram transfer answer = after_c part registers ram answer (transfer_part part n (both_of registers) ram transfer)

-- ---- calls that lend one buffer to write: a picture, chips, a transfer or a log

pub record Filled : Type 0 where
  pub number : ℕ
  pub buffer : List ℕ
  pub answer : List ℕ

-- 255, and nothing is written, unless what is read or the chips are whole and an answer has six numbers
abbrev pub filled : Bool → List ℕ → List ℕ → Filled → Filled
filled whole buffer answer c = cond (whole && eqb (length answer) 6) c (record { number = 255; buffer = buffer; answer = answer })

-- its numbers, and the buffer after it
abbrev pub said_c : Bool → List ℕ → List ℕ → List ℕ → List ℕ → Filled
said_c whole numbers after buffer answer = filled whole buffer answer (record { number = get_or numbers 0 0; buffer = after; answer = numbers })

-- a picture of a group
abbrev pub seen_c : List ℕ → List ℕ → List ℕ → Seen → Filled
seen_c registers out answer s = said_c (eqb (length registers) 24) (picture_numbers s.result) s.out out answer

unfoldable pub picture_c : ℕ → Chips → List ℕ → List ℕ → ℕ → ℕ → List ℕ → List ℕ → Filled
picture_c part n registers ram group phase out answer = seen_c registers out answer (picture_part part n (both_of registers) ram group phase out)
