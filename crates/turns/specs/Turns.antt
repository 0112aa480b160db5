-- A transfer followed byte by byte: a turn is the next byte, its place, and what is acknowledged so far.
use Rattle.std.specs.Prelude.{ℕ, ◌+◌, ◌-◌, ◌<◌, ◌≤◌, ◌≡◌, Bool, cond, ◌&&◌, List, [], ◌∷◌, map, leb, ltb, length, get_or, take, drop, None, Some}
use Rattle.sheet.specs.declared.Chip.{Chip}
use Rattle.sheet.specs.Results.{Acknowledger}
use Rattle.sheet.specs.declared.Kind.{Kind}
use Rattle.sheet.specs.declared.Expect.{Expect}
use Rattle.sheet.specs.declared.Expect.TheVariants.{Control, One, All}
use Rattle.sheet.specs.Parts.{Part, part_of}
use Rattle.sheet.specs.Protocol.{next, is_data}
use Rattle.sheet.specs.Plain.{once, last_after, chip_ended, Plain, plain_heard}
use Rattle.sheet.specs.Agree.{AllIn}
use Rattle.turns.specs.declared.BusByte.{BusByte}
use Rattle.turns.specs.declared.Tally.{Tally}
use Rattle.turns.specs.declared.Turn.{Turn}
use Rattle.turns.specs.declared.Said.{Said}
use Rattle.turns.specs.Asking.{one_or, taken, ran_by}

-- who acknowledged the last data byte, which a byte that is cut is not
abbrev pub last_heard : BusByte → Acknowledger → Acknowledger → Acknowledger
last_heard h who last = cond h.cut last (last_after h.expect who last)

-- the turn n bytes after t, of which k are acknowledged, by `who`
abbrev pub turn_on : List ℕ → Turn → ℕ → ℕ → Acknowledger → Turn
turn_on bytes t n k who = record {
  at = t.at + n;
  cut = t.cut;
  tally = record { acknowledged = t.tally.acknowledged + k; last = last_heard t.heard who t.tally.last };
  heard = record { part = t.heard.part; address = t.heard.address; expect = next t.heard.expect t.heard.byte; byte = get_or bytes (t.at + n) 0; cut = t.cut && leb (length bytes) (t.at + n + 1) };
}

-- after its own byte
abbrev pub turn_after : List ℕ → Turn → Acknowledger → Turn
turn_after bytes t who = turn_on bytes t 1 (once who) who

-- each of n bytes that `who` acknowledges counts once
abbrev pub once_each : ℕ → Acknowledger → ℕ
once_each n (Some a) = n
once_each n None = 0

-- after as many bytes as are answered alike
abbrev pub turn_past : List ℕ → Turn → Said → Turn
turn_past bytes t said = turn_on bytes t said.count (once_each said.count said.who) said.who

-- how many bytes may be taken at once, of so many whole ones that are left: data to the end
abbrev pub most_of : Kind → ℕ → ℕ
most_of Kind.Command left = 1
most_of Kind.Data left = one_or left

abbrev pub most_after : Expect → ℕ → ℕ
most_after Control left = 1
most_after (One k) left = 1
most_after (All k) left = most_of k left

abbrev pub most_in : List ℕ → Turn → ℕ
most_in bytes t = most_after t.heard.expect (cond t.cut (length bytes - t.at - 1) (length bytes - t.at))

-- the chip after the turn's byte, or after n data bytes from it on
abbrev pub taken_by : List ℕ → Turn → ℕ → Chip → Chip
taken_by bytes t n c = cond (ltb n 2) (taken t.heard c) (ran_by t.heard (take n (drop t.at bytes)) c)

-- how many of the chips such a turn changes: a control byte changes none
abbrev pub reach_of : Expect → ℕ → ℕ → ℕ
reach_of Control n chips = cond (ltb n 2) 0 chips
reach_of (One k) n chips = chips
reach_of (All k) n chips = chips

abbrev pub plain_at : Tally → List Chip → Plain
plain_at t cs = record { acknowledged = t.acknowledged; last = t.last; chips = cs }

abbrev pub tally_of : Plain → Tally
tally_of p = record { acknowledged = p.acknowledged; last = p.last }

-- the chips that hear lose pointer and counter to a cut byte, if that is data
abbrev pub lost_to : ℕ → Expect → Plain → Plain
lost_to address e s = record { acknowledged = s.acknowledged; last = s.last; chips = map (chip_ended address (is_data e)) s.chips }

-- what the chips make of the bytes that are left, the last of which is cut or not
unfoldable pub plain_left : Part → ℕ → Bool → Expect → List ℕ → Plain → Plain
plain_left K address cut e [] s = s
plain_left K address cut e (x ∷ xs) s = cond (cut && leb (length xs) 0) (lost_to address e s) (plain_left K address cut (next e x) xs (plain_heard K address e (x ∷ []) s))

-- what the chips hold and acknowledge after the bytes from t on
abbrev pub followed : List Chip → List ℕ → Turn → Plain
followed cs bytes t = plain_left (part_of t.heard.part) t.heard.address t.cut t.heard.expect (drop t.at bytes) (plain_at t.tally cs)

-- a turn of this transfer; where a byte is left, the chips are in range
pub record Ready (cs : List Chip) (bytes : List ℕ) (t : Turn) : Type 0 where
  pub within : t.at ≤ length bytes
  pub counted : t.tally.acknowledged ≤ t.at
  pub byte : t.heard.byte ≡ get_or bytes t.at 0
  pub cut : t.heard.cut ≡ (t.cut && leb (length bytes) (t.at + 1))
  pub right : t.at < length bytes → AllIn (part_of t.heard.part) cs
