-- Commands each after its own control byte 80, and data after 40: what a group that hears them has then, and that none of them is at fault.
-- Assumes nothing.
use mathlib.Core.Path.{◌≡◌, refl, sym, ap, ◌∙◌}
use mathlib.Core.Bool.{true, false}
use mathlib.Core.List.{List, [], ◌∷◌, ◌++◌}
use Prim.Native.Nat.{ℕ, suc, ◌+◌, ◌*◌}
use native.Mathlib.Nat.{add-zero}
use native.Mathlib.Omega.{arith}
use lib.ListN.{length}
use Rattle.lemmas.proofs.Tests.{both_true}
use Rattle.sheet.specs.declared.Marks.{Marks}
use Rattle.sheet.specs.declared.Registers.{Registers}
use Rattle.sheet.specs.declared.Kind.{Kind}
use Rattle.sheet.specs.declared.Expect.TheVariants.{Control, All}
use Rattle.std.specs.Prelude.{Ok}
use Rattle.sheet.specs.Parts.{Part}
use Rattle.sheet.specs.Registers.{known}
use Rattle.sheet.specs.Commands.{defined, obeyed, obeyed_all, all_defined}
use Rattle.sheet.specs.Protocol.{control_of}
use Rattle.sheet.specs.Checks.{fault_in}
use Rattle.sheet.specs.Long.{Group, control, command, heard}
use Rattle.writer_sheet.specs.Writer.{each_after80}

-- ---- heard

-- a group with other registers that has acknowledged n bytes; or n more
abbrev having : ℕ → Registers → Group → Group
having n r g = record { registers = r; ram = g.ram; counts = record { acknowledged = n; stored = g.counts.stored; discarded = g.counts.discarded }; last = g.last }

abbrev pub on : ℕ → Registers → Group → Group
on n r g = having (g.counts.acknowledged + n) r g

pub heard-commands : (K : Part) (xs ys : List ℕ) (g : Group) → heard K Control (each_after80 xs ++ ys) g ≡ heard K Control ys (on (2 * length xs) (obeyed_all K xs g.registers) g)
unfolding heard control_of
heard-commands K [] ys g = ap (λ (n : ℕ). heard K Control ys (having n g.registers g)) (sym (add-zero g.counts.acknowledged))
heard-commands K (x ∷ xs) ys g =
    heard-commands K xs ys (command K x (control g)) ∙ ap (λ (n : ℕ). heard K Control ys (having n (obeyed_all K (x ∷ xs) g.registers) g)) (omega arith)

-- ---- checked

pub fault-commands : (K : Part) (xs ys : List ℕ) (r : Registers) (i : ℕ) → all_defined K xs ≡ true
    → fault_in K false r.unknown Control i (each_after80 xs ++ ys) ≡ fault_in K false (obeyed_all K xs r).unknown Control (i + 2 * length xs) ys
unfolding fault_in control_of
fault-commands K [] ys r i e = rw (add-zero i)
fault-commands K (x ∷ xs) ys r i e =
    let d = both_true (defined (K.command x)) (all_defined K xs) e in
    rw d.0
    (fault-commands K xs ys (obeyed r (K.command x)) (suc (suc i)) d.1
    ∙ ap (λ (n : ℕ). fault_in K false (obeyed_all K xs (obeyed r (K.command x))).unknown Control n ys) (omega arith))

-- data while nothing is unknown
pub fault_data : (K : Part) (u : Marks) (xs : List ℕ) (i : ℕ) → known u ≡ true → fault_in K false u (All Kind.Data) i xs ≡ Ok tt
unfolding fault_in
fault_data K u [] i e = refl
fault_data K u (x ∷ xs) i e = rw e (fault_data K u xs (suc i) e)
