-- The column arithmetic (paper 01, "Where a data byte goes"; sheet 002, 7.10.1, 7.10.2 and 7.10.4).
use Rattle.std.specs.Prelude.{ℕ, zero, suc, ◌+◌, ◌*◌, ◌/◌, ◌%◌, min, cond, eqb}
use Rattle.sheet.specs.declared.Registers.{Registers}
use Rattle.sheet.specs.Parts.{Part}
use Rattle.sheet.specs.Registers.{at_place}

-- after a column P rises by 1; at the part's columns it becomes 0 and A rises by 1, stopping at the limit (house)
unfoldable pub advanced : Part → Registers → Registers
advanced K r = cond (eqb (r.p + 1) K.columns) (at_place r 0 (min K.limit (r.a + 1))) (at_place r (r.p + 1) r.a)

-- after t columns
unfoldable pub advanced_by : Part → ℕ → Registers → Registers
advanced_by K zero r = r
advanced_by K (suc t) r = advanced K (advanced_by K t r)

-- as one position
unfoldable pub position : Part → Registers → ℕ
position K r = K.columns * r.a + r.p

-- the registers at a position: P is its remainder by the columns, A its quotient by them or the limit if that is less
unfoldable pub at_position : Part → Registers → ℕ → Registers
at_position K r v = at_place r (v % K.columns) (min K.limit (v / K.columns))
