-- `buslog::put_end` meets its contract: the columns of group 0, those of group 1, and a line a group.
-- Assumes nothing.
use mathlib.Core.Path.{◌≡◌, refl}
use mathlib.Core.List.{List, ◌++◌}
use Prim.Native.Nat.{ℕ, ◌+◌, ◌≤◌}
use native.Mathlib.Omega.{arith}
use Rattle.sheet.specs.Pictures.{lit_in}
use Rattle.sheet.specs.declared.Chips.{Chips}
use Rattle.text.specs.Texts.{Puts}
use lib.ListN.{length}
use Rattle.sheet.specs.Long.{State, state_of}
use Rattle.log_sheet.specs.Logs.{group_line, column_lines, shown_at, end_lines}
use Rattle.text.proofs.Writing.{Writing, begin, rest-is, turn, last, room_for}
use Rattle.buslog.proofs.put_end.Goals as goal

-- after the columns of group 0
zero-listed : (n : Chips) (s : State) (at : ℕ) (out out₁ : List ℕ) (end : ℕ) → at + length (end_lines n s) ≤ length out → Puts at (column_lines 0 0 (shown_at n s 0)) out out₁ end
    → Writing at (end_lines n s) out end (column_lines 1 0 (shown_at n s 1) ++ (group_line 0 (lit_in (shown_at n s 0)) ++ group_line 1 (lit_in (shown_at n s 1)))) out₁
zero-listed n s at out out₁ end room p = turn (begin at (end_lines n s) out room) p

-- after both groups' columns: what each has lit is left
both-listed : (n : Chips) (s : State) (at : ℕ) (out out₁ out₂ : List ℕ) (end₁ end₂ lit₀ lit₁ : ℕ) → at + length (end_lines n s) ≤ length out → Puts at (column_lines 0 0 (shown_at n s 0)) out out₁ end₁
    → Puts end₁ (column_lines 1 0 (shown_at n s 1)) out₁ out₂ end₂ → lit₀ ≡ lit_in (shown_at n s 0) → lit₁ ≡ lit_in (shown_at n s 1)
    → Writing at (end_lines n s) out end₂ (group_line 0 lit₀ ++ group_line 1 lit₁) out₂
both-listed n s at out out₁ out₂ end₁ end₂ lit₀ lit₁ room p q e₀ e₁ = rest-is (turn (zero-listed n s at out out₁ end₁ room p) q) (rw (e₀, e₁))

pub put_group-zero-requires : goal.put_group-zero-requires
put_group-zero-requires c = let a = c.args in
    let s = state_of a.registers a.ram.now in
    record { group = omega arith; size = refl; valid = c.requires.valid; room = room_for (column_lines 0 0 (shown_at a.chips s 0)) _ (begin a.at (end_lines a.chips s) a.out.now c.requires.ram_in_bounds) }

pub put_group-one-requires : goal.put_group-one-requires
put_group-one-requires c = let a = c.args in
    let s = state_of a.registers a.ram.now in
    record { group = omega arith; size = refl; valid = c.requires.valid; room = room_for (column_lines 1 0 (shown_at a.chips s 1)) _ (zero-listed a.chips s a.at a.out.now _ _ c.requires.ram_in_bounds c.put_group-zero.ensures.puts) }

pub put_line-next-requires : goal.put_line-next-requires
put_line-next-requires c = let a = c.args in
    room_for (group_line 0 c.put_group-zero.result.lit) _ (both-listed a.chips (state_of a.registers a.ram.now) a.at a.out.now _ _ _ _ _ _ c.requires.ram_in_bounds c.put_group-zero.ensures.puts c.put_group-one.ensures.puts c.put_group-zero.ensures.lit_value c.put_group-one.ensures.lit_value)

pub put_line-requires : goal.put_line-requires
put_line-requires c = let a = c.args in
    (turn (both-listed a.chips (state_of a.registers a.ram.now) a.at a.out.now _ _ _ _ _ _ c.requires.ram_in_bounds c.put_group-zero.ensures.puts c.put_group-one.ensures.puts c.put_group-zero.ensures.lit_value c.put_group-one.ensures.lit_value) c.put_line-next.ensures).room

pub returns : goal.returns
returns c = let a = c.args in
    last (turn (both-listed a.chips (state_of a.registers a.ram.now) a.at a.out.now _ _ _ _ _ _ c.requires.ram_in_bounds c.put_group-zero.ensures.puts c.put_group-one.ensures.puts c.put_group-zero.ensures.lit_value c.put_group-one.ensures.lit_value) c.put_line-next.ensures) c.put_line.ensures
