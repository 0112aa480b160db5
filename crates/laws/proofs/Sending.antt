-- A transfer to a group with a chip: bytes without a fault are taken, and the group hears them; after commands each after 80 it hears data with the registers that they made.
-- Assumes nothing.
use mathlib.Core.Path.{◌≡◌, refl, ap, ◌∙◌}
use mathlib.Core.Bool.{true, false}
use mathlib.Core.List.{List, ◌∷◌, ◌++◌}
use Prim.Native.Nat.{ℕ, zero, suc, ◌*◌, ◌≤◌, ◌<◌}
use native.Mathlib.Omega.{arith}
use lib.ListN.{length}
use borrow.Author.Tests.{lt-ltb, le-leb}
use Rattle.sheet.specs.declared.Registers.{Registers}
use Rattle.sheet.specs.declared.Both.{Both}
use Rattle.sheet.specs.declared.Chips.{Chips}
use Rattle.std.specs.Prelude.{Ok, Some}
use Rattle.sheet.specs.declared.Kind.{Kind}
use Rattle.sheet.specs.declared.Expect.TheVariants.{Control, All}
use Rattle.sheet.specs.Parts.{Part, within}
use Rattle.sheet.specs.Registers.{known, registers_of}
use Rattle.sheet.specs.Commands.{obeyed_all, all_defined}
use Rattle.sheet.specs.Protocol.{address_of, heard_by, chips_in, control_of, whole, whole_of, cut_data}
use Rattle.sheet.specs.Checks.{check_length, check_bits, check_sent, fault_in, check_state, check_transfer}
use Rattle.sheet.specs.Long.{Group, begun, control, heard, columns_of, heard_in, transfer_call}
use Rattle.writer_sheet.specs.Writer.{each_after80}
use Rattle.laws.proofs.Commanded.{on, heard-commands, fault-commands, fault_data}

pub hears : (n : Chips) (g : ℕ) → g < 2 → 0 < chips_in g n → heard_by n (address_of g) ≡ Some g
unfolding heard_by
hears n zero l h = rw (lt-ltb 0 n.zero h)
hears n (suc zero) l h = rw (lt-ltb 0 n.one h)
hears n (suc (suc g)) l h = absurd (omega arith)

-- the group once its address is acknowledged, and once commands are obeyed and a control byte has come
abbrev pub called : Part → Chips → Both → List ℕ → ℕ → Group
called K n r ram g = begun (registers_of g r) (columns_of K n g ram)

abbrev pub ready : Part → Chips → Both → List ℕ → ℕ → List ℕ → Registers → Group
ready K n r ram g xs s = control (on (2 * length xs) s (called K n r ram g))

module _ (K : Part) (n : Chips) (r : Both) (ram : List ℕ) (es : check_state K n r ram ≡ Ok tt) (g : ℕ) (pg : g < 2) (some : 0 < chips_in g n) where
  -- a transfer of bytes without a fault is taken, and the group has heard them
  module _ (xs : List ℕ) (clean : fault_in K false (registers_of g r).unknown Control 1 xs ≡ Ok tt) (few : length (address_of g ∷ xs) ≤ 4096) where
    passes : check_transfer K n r ram (whole (address_of g ∷ xs)) ≡ Ok tt
    unfolding check_transfer check_sent check_length check_bits within whole_of
    passes = rw (es, lt-ltb 0 (length (address_of g ∷ xs)) (omega arith), le-leb (length (address_of g ∷ xs)) 4096 few, hears n g pg some) clean

    pub taken-by : transfer_call K n r ram (whole (address_of g ∷ xs)) ≡ heard_in K n g r ram (heard K Control xs (called K n r ram g))
    unfolding transfer_call whole_of cut_data
    taken-by = rw (passes, hears n g pg some) refl

  -- commands each after 80, then 40 and data
  module _ (xs ys : List ℕ) (s : Registers) (all : all_defined K xs ≡ true) (made : obeyed_all K xs (registers_of g r) ≡ s) (there : known s.unknown ≡ true)
      (few : length (address_of g ∷ each_after80 xs ++ (0x40 ∷ ys)) ≤ 4096) where
    no-fault : fault_in K false (registers_of g r).unknown Control 1 (each_after80 xs ++ (0x40 ∷ ys)) ≡ Ok tt
    unfolding fault_in control_of
    no-fault = fault-commands K xs (0x40 ∷ ys) (registers_of g r) 1 all ∙ rw made (fault_data K s.unknown ys _ there)

    follows : heard K Control (each_after80 xs ++ (0x40 ∷ ys)) (called K n r ram g) ≡ heard K (All Kind.Data) ys (ready K n r ram g xs s)
    unfolding heard control_of
    follows = heard-commands K xs (0x40 ∷ ys) (called K n r ram g) ∙ ap (λ (q : Registers). heard K (All Kind.Data) ys (control (on (2 * length xs) q (called K n r ram g)))) made

    -- it is taken, and the group has heard the data
    pub sent-to : transfer_call K n r ram (whole (address_of g ∷ each_after80 xs ++ (0x40 ∷ ys))) ≡ heard_in K n g r ram (heard K (All Kind.Data) ys (ready K n r ram g xs s))
    sent-to = taken-by (each_after80 xs ++ (0x40 ∷ ys)) no-fault few ∙ ap (heard_in K n g r ram) follows
