-- Demand 3, stated: "Chips 0 upwards of one slave address, powered on together, followed one by one, hold, acknowledge and show after any
-- sequence of accepted transfers what one long RAM does." Proved in `agreement` for any part K
-- with a column whose commands keep P and A (`Keeps`), which the commands of both parts are shown to do.
use Rattle.std.specs.Prelude.{ℕ, zero, suc, ◌+◌, ◌*◌, ◌<◌, ◌≡◌, true, cond, eqb, List, [], ◌∷◌, ◌++◌, map, length, take, drop, replicate, Err, Ok}
use Rattle.sheet.specs.declared.Registers.{Registers}
use Rattle.sheet.specs.declared.Both.{Both}
use Rattle.sheet.specs.declared.Chips.{Chips}
use Rattle.sheet.specs.declared.Chip.{Chip}
use Rattle.sheet.specs.Results.{Answer, PlainAnswer, Pictured}
use Rattle.sheet.specs.Parts.{Part}
use Rattle.sheet.specs.Registers.{in_range, registers_of}
use Rattle.sheet.specs.Commands.{obeyed}
use Rattle.sheet.specs.Protocol.{chips_in, Sent}
use Rattle.sheet.specs.Checks.{check_state}
use Rattle.sheet.specs.Pictures.{Seen}
use Rattle.sheet.specs.Long.{State, state_of, start_of, power_on_call, transfer_call, picture_call, state_after, state_after_all}
use Rattle.sheet.specs.Plain.{own_columns, chip_power_on, chip_picture_call, plain_call}

-- ---- the chips of a long state

-- the next n chips of group g, from subaddress i on: each has the next columns of a chip, and all have the group's registers
unfoldable pub group_chips : Part → ℕ → ℕ → ℕ → Registers → List ℕ → List Chip
group_chips K zero g i r columns = []
group_chips K (suc n) g i r columns =
    record { columns = take K.columns columns; sa0 = g; subaddress = i; registers = r } ∷ group_chips K n g (suc i) r (drop K.columns columns)

-- the chips of group g
abbrev pub group_of : Part → ℕ → Chips → State → List Chip
group_of K g n s = group_chips K (chips_in g n) g 0 (registers_of g s.registers) (drop (start_of K n g) s.ram)

-- both groups' chips in order
abbrev pub chips_of : Part → Chips → State → List Chip
chips_of K n s = group_of K 0 n s ++ group_of K 1 n s

-- ---- what the two accounts make of one transfer

-- the plain account reports acknowledged only, and by whom the last data byte
abbrev pub plainly : Answer → PlainAnswer
plainly (Ok t) = Ok (record { bytes = t.counts.acknowledged; last = t.last })
plainly (Err r) = Err r

abbrev pub answer_to : Part → Chips → State → Sent → PlainAnswer
answer_to K n s t = plainly (transfer_call K n s.registers s.ram t).result.answer

-- ---- and of a sequence

unfoldable pub long_answers : Part → Chips → State → List Sent → List PlainAnswer
long_answers K n s [] = []
long_answers K n s (t ∷ ts) = answer_to K n s t ∷ long_answers K n (state_after K n s t) ts

unfoldable pub plain_all : Part → List Chip → List Sent → List Chip
plain_all K cs [] = cs
plain_all K cs (t ∷ ts) = plain_all K (plain_call K cs t).chips ts

unfoldable pub plain_answers : Part → List Chip → List Sent → List PlainAnswer
plain_answers K cs [] = []
plain_answers K cs (t ∷ ts) = (plain_call K cs t).answer ∷ plain_answers K (plain_call K cs t).chips ts

-- ---- the claims

-- a state that no call refuses
abbrev pub Valid : Part → Chips → State → Type 0
Valid K n s = check_state K n s.registers s.ram ≡ Ok tt

-- chips whose registers are in range
abbrev pub AllIn : Part → List Chip → Type 0
AllIn K [] = Unit {0}
AllIn K (c ∷ cs) = (in_range K c.registers ≡ true) × AllIn K cs

-- what is asked of the commands: P stays below the columns and A at most at the limit
abbrev pub Keeps : Part → Type 0
Keeps K = (r : Registers) (x : ℕ) → in_range K r ≡ true → in_range K (obeyed r (K.command x)) ≡ true

-- hold and acknowledge: one transfer
pub record Agrees (K : Part) (n : Chips) (s : State) (t : Sent) : Type 0 where
  pub hold : (plain_call K (chips_of K n s) t).chips ≡ chips_of K n (state_after K n s t)
  pub acknowledge : (plain_call K (chips_of K n s) t).answer ≡ answer_to K n s t
  pub valid : Valid K n (state_after K n s t)

-- each chip shown alone, into a buffer of a byte a column
abbrev pub chip_seen : Part → ℕ → Chip → Seen
chip_seen K phase c = chip_picture_call K c phase (replicate K.columns 0)

abbrev pub chip_pictures : Part → ℕ → List Chip → List ℕ
chip_pictures K phase [] = []
chip_pictures K phase (c ∷ cs) = (chip_seen K phase c).out ++ chip_pictures K phase cs

-- a picture that is refused has no lit elements
abbrev pub lit_of : Pictured → ℕ
lit_of (Ok k) = k
lit_of (Err r) = 0

abbrev pub chips_lit : Part → ℕ → List Chip → ℕ
chips_lit K phase [] = 0
chips_lit K phase (c ∷ cs) = lit_of (chip_seen K phase c).result + chips_lit K phase cs

-- the chips of a list that have slave address bit g
abbrev pub with_address : ℕ → List Chip → List Chip
with_address g [] = []
with_address g (c ∷ cs) = cond (eqb c.sa0 g) (c ∷ with_address g cs) (with_address g cs)

-- show: the picture of group g is its chips' one after the other, and their lit elements add up
pub record Shows (K : Part) (n : Chips) (s : State) (cs : List Chip) (g phase : ℕ) (out : List ℕ) : Type 0 where
  pub picture : (picture_call K n s.registers s.ram g phase out).out ≡ chip_pictures K phase (with_address g cs)
  pub lit : (picture_call K n s.registers s.ram g phase out).result ≡ Ok (chips_lit K phase (with_address g cs))

-- hold, acknowledge and show: chips cs and state s, after any sequence of transfers
pub record AgreesAll (K : Part) (n : Chips) (s : State) (cs : List Chip) (ts : List Sent) : Type 0 where
  pub hold : plain_all K cs ts ≡ chips_of K n (state_after_all K n s ts)
  pub acknowledge : plain_answers K cs ts ≡ long_answers K n s ts
  pub show : (g phase : ℕ) (out : List ℕ) → g < 2 → phase < 2 → length out ≡ K.columns * chips_in g n → Shows K n (state_after_all K n s ts) (plain_all K cs ts) g phase out
  pub valid : Valid K n (state_after_all K n s ts)

-- chips with any registers, each powered on by itself
abbrev pub powered_on : Part → List Chip → List Chip
powered_on K cs = map (λ c. (chip_power_on K c).chip) cs

-- the demand: from any valid state, and from power-on
pub record Demand3 (K : Part) : Type 1 where
  pub transfer : (n : Chips) (s : State) (t : Sent) → Valid K n s → Agrees K n s t
  pub sequence : (n : Chips) (s : State) (ts : List Sent) → Valid K n s → AgreesAll K n s (chips_of K n s) ts
  pub powered-on : (n : Chips) (r : Both) (ram : List ℕ) (ts : List Sent) → (power_on_call K n ram).check ≡ Ok tt
      → AgreesAll K n (state_of (power_on_call K n ram).registers ram) (powered_on K (chips_of K n (state_of r ram))) ts

-- of any part with a column, wherever its commands keep the ranges. A state with more chips than the limit is not valid
abbrev pub Claim : Type 1
Claim = (K : Part) → 0 < K.columns → Keeps K → Demand3 K

-- ---- what stands behind a part's columns in a chip's array (paper 02, request 5) is neither checked nor read nor changed

-- the chip without it
abbrev pub trimmed : Part → Chip → Chip
trimmed K c = record { columns = own_columns K c; sa0 = c.sa0; subaddress = c.subaddress; registers = c.registers }

abbrev pub past_columns : Part → Chip → List ℕ
past_columns K c = drop K.columns c.columns

-- of a transfer to any list of chips: the answer and the columns are those of the chips without it, and it stays
pub record PastStays (K : Part) (cs : List Chip) (t : Sent) : Type 0 where
  pub answer : (plain_call K cs t).answer ≡ (plain_call K (map (trimmed K) cs) t).answer
  pub own : map (trimmed K) (plain_call K cs t).chips ≡ (plain_call K (map (trimmed K) cs) t).chips
  pub past : map (past_columns K) (plain_call K cs t).chips ≡ map (past_columns K) cs

-- of one chip's power-on and picture
pub record PastUnread (K : Part) (c : Chip) : Type 0 where
  pub power-on : (chip_power_on K c).check ≡ (chip_power_on K (trimmed K c)).check
  pub stays : (chip_power_on K c).chip.columns ≡ c.columns
  pub picture : (phase : ℕ) (out : List ℕ) → chip_picture_call K c phase out ≡ chip_picture_call K (trimmed K c) phase out
