-- `writer::put_settings` meets its contract: seven bytes set whole.
-- Assumes nothing.
use mathlib.Core.Path.{ap₂, ◌∙◌}
use mathlib.Core.List.{[], ◌∷◌}
use Prim.Native.Nat.{ℕ, ◌+◌, ◌*◌}
use native.Mathlib.Omega.{arith}
use lib.ListN.{length-set}
use Rattle.lemmas.proofs.Lists.{filled}
use Rattle.writer.proofs.put_settings.Goals as goal

pub returns : goal.returns
returns c = let a = c.args in
    filled ((112 + 2 * a.group) ∷ 0x80 ∷ c.mode_set.result ∷ 0x80 ∷ c.bank_select.result ∷ 0x80 ∷ 0xE0 ∷ []) a.out.now c.requires.1
    ∙ ap₂ (λ (x y : ℕ). (112 + 2 * a.group) ∷ 0x80 ∷ x ∷ 0x80 ∷ y ∷ 0x80 ∷ 0xE0 ∷ []) c.mode_set.ensures c.bank_select.ensures

pub overflow_mul-out : goal.overflow_mul-out
overflow_mul-out c = omega (arith, c.requires.0.group-in)

pub overflow_add-out : goal.overflow_add-out
overflow_add-out c = omega (arith, c.requires.0.group-in)

pub bounds-out-0 : goal.bounds-out-0
bounds-out-0 c = omega (arith, c.requires.1)

pub bounds-out-1 : goal.bounds-out-1
bounds-out-1 c = simp length-set (omega (arith, c.requires.1))

pub mode_set-requires : goal.mode_set-requires
mode_set-requires c = (c.requires.0.e-in, c.requires.0.b-in, c.requires.0.mode-in)

pub bounds-out-2 : goal.bounds-out-2
bounds-out-2 c = simp length-set (omega (arith, c.requires.1))

pub bounds-out-3 : goal.bounds-out-3
bounds-out-3 c = simp length-set (omega (arith, c.requires.1))

pub bank_select-requires : goal.bank_select-requires
bank_select-requires c = (c.requires.0.bank-in, c.requires.0.o-in)

pub bounds-out-4 : goal.bounds-out-4
bounds-out-4 c = simp length-set (omega (arith, c.requires.1))

pub bounds-out-5 : goal.bounds-out-5
bounds-out-5 c = simp length-set (omega (arith, c.requires.1))

pub bounds-out-6 : goal.bounds-out-6
bounds-out-6 c = simp length-set (omega (arith, c.requires.1))
