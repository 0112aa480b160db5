-- The code's state, which has no RAM: with a RAM it stands for a group of `sheet`. What a byte that is no data, and what a run of data, make of it.
use Rattle.std.specs.Prelude.{ℕ, ◌+◌, ◌<◌, ◌^◌, ◌≡◌, Bool, true, false, cond, ◌&&◌, List}
use Rattle.sheet.specs.declared.Registers.{Registers}
use Rattle.sheet.specs.declared.Counts.{Counts}
use Rattle.sheet.specs.declared.Kind.{Kind}
use Rattle.sheet.specs.declared.Expect.{Expect}
use Rattle.sheet.specs.declared.Expect.TheVariants.{Control, One, All}
use Rattle.sheet.specs.Parts.{Part}
use Rattle.sheet.specs.Registers.{lost_by, in_range}
use Rattle.sheet.specs.Commands.{obeyed}
use Rattle.sheet.specs.Protocol.{next, is_data}
use Rattle.sheet.specs.Long.{Group, one_acknowledged}
use Rattle.sheet.specs.Runs.{counted_by, last_by, moved_by}
use Rattle.listener.specs.declared.Listener.{Listener}

abbrev pub group_of : Listener → List ℕ → Group
group_of l ram = record { registers = l.registers; ram = ram; counts = l.counts; last = l.last }

abbrev pub listener_of : Expect → Group → Listener
listener_of e g = record { expect = e; registers = g.registers; counts = g.counts; last = g.last }

-- ---- a byte that is no data

abbrev pub is_control : Expect → Bool
is_control Control = true
is_control (One k) = false
is_control (All k) = false

-- a control byte changes no register; what follows one is a command
abbrev pub obeyed_by : Part → Expect → ℕ → Registers → Registers
obeyed_by K e x r = cond (is_control e) r (obeyed r (K.command x))

abbrev pub stepped : Part → Listener → ℕ → Listener
stepped K l x = record { expect = next l.expect x; registers = obeyed_by K l.expect x l.registers; counts = one_acknowledged l.counts; last = l.last }

-- ---- data

-- where the data that begins with byte i of n bytes ends; at i, if that byte is no data
abbrev pub data_end : Expect → ℕ → ℕ → ℕ
data_end Control i n = i
data_end (One Kind.Command) i n = i
data_end (One Kind.Data) i n = i + 1
data_end (All Kind.Command) i n = i
data_end (All Kind.Data) i n = n

-- a run of n data bytes, where size columns are there; what follows data does not depend on it
abbrev pub ran : Part → Listener → ℕ → ℕ → Listener
ran K l n size = record {
  expect = next l.expect 0;
  registers = moved_by K n l.registers;
  counts = counted_by K l.registers n size l.counts;
  last = last_by K l.registers n size l.last;
}

-- after the last whole byte: what a byte that is cut makes of it
abbrev pub ended_by : Bool → Listener → Listener
ended_by cut l = record { expect = l.expect; registers = lost_by (cut && is_data l.expect) l.registers; counts = l.counts; last = l.last }

-- counts that have room for n data bytes more
pub record Countable (t : Counts) (m n : ℕ) : Type 0 where
  pub some : 0 < m
  pub four : m < 5
  pub short : n < 65536
  pub acknowledged : t.acknowledged < 2 ^ 32
  pub stored : t.stored < 2 ^ 32
  pub discarded : t.discarded < 2 ^ 32

-- a run of n data bytes from a position on
pub record Placed (v m n : ℕ) : Type 0 where
  pub some : 0 < m
  pub position : v < 65536
  pub short : n < 65536

pub record Runs (K : Part) (l : Listener) (n : ℕ) : Type 0 where
  pub range : in_range K l.registers ≡ true
  pub short : n < 65536
  pub acknowledged : l.counts.acknowledged < 2 ^ 32
  pub stored : l.counts.stored < 2 ^ 32
  pub discarded : l.counts.discarded < 2 ^ 32
