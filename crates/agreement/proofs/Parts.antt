-- A state of the long account is two groups, group 0's columns before group 1's; so are its chips.
-- Assumes nothing.
use mathlib.Core.Path.{◌≡◌, sym, ap, ap₂, ◌∙◌}
use mathlib.Core.List.{List, ◌++◌}
use Prim.Native.Nat.{ℕ, ◌+◌, ◌*◌, ◌≤◌}
use native.Mathlib.Nat.{mul-add, le_refl}
use native.Mathlib.Omega.{arith}
use lib.ListN.{length, take, drop, length-append, length-drop, take-append-drop}
use lib.Seq.{length-take-le, take_all, drop_at}
use Rattle.sheet.specs.declared.Chips.{Chips}
use Rattle.sheet.specs.declared.Chip.{Chip}
use Rattle.sheet.specs.Parts.{Part}
use Rattle.sheet.specs.Registers.{registers_of}
use Rattle.sheet.specs.Long.{Group, begun, columns_of, State}
use Rattle.sheet.specs.Agree.{group_chips, chips_of, Valid}
use Rattle.laws.proofs.Nibbles.{take-nibbles, drop-nibbles, join_nibbles}
use Rattle.laws.proofs.Kept.{Kept}
use Rattle.laws.proofs.Fits.{Fits, check-fits}
use Rattle.agreement.proofs.Chips.{own-columns}
use Rattle.agreement.proofs.Group.{chips_of_group}

-- two groups as one state
abbrev pub together : Group → Group → State
together a b = record { registers = record { zero = a.registers; one = b.registers }; ram = a.ram ++ b.ram }

-- group g of a state, whose address has been acknowledged
abbrev pub begun_in : Part → Chips → ℕ → State → Group
begun_in K n g s = begun (registers_of g s.registers) (columns_of K n g s.ram)

module _ (K : Part) (n : Chips) where
  pub chips-together : (a b : Group) → Kept K (K.columns * n.zero) a → chips_of K n (together a b) ≡ chips_of_group K n.zero 0 a ++ chips_of_group K n.one 1 b
  chips-together a b k =
      ap₂ (λ (x y : List Chip). x ++ y)
      (own-columns K n.zero 0 0 a.registers a.ram b.ram k.columns)
      (ap (λ (c : List ℕ). group_chips K n.one 1 0 b.registers c) (drop_at a.ram b.ram (K.columns * n.zero) k.columns))

  pub valid-together : (a b : Group) → n.zero ≤ K.limit → n.one ≤ K.limit → Kept K (K.columns * n.zero) a → Kept K (K.columns * n.one) b → Valid K n (together a b)
  valid-together a b lz lo ka kb =
      check-fits K n (together a b).registers (a.ram ++ b.ram)
      (record {
        zero-few = lz;
        one-few = lo;
        zero_in = ka.range;
        one_in = kb.range;
        columns = length-append a.ram b.ram ∙ ap₂ (λ (x y : ℕ). x + y) ka.columns kb.columns ∙ sym (mul-add K.columns n.zero n.one);
        nibbles = join_nibbles a.ram b.ram ka.nibbles kb.nibbles;
      })

  module _ (s : State) (f : Fits K n s.registers s.ram) where
    -- group 1's part is all that is left
    rest : length (drop (K.columns * n.zero) s.ram) ≡ K.columns * n.one
    rest = length-drop (K.columns * n.zero) s.ram ∙ omega (arith, f.columns)

    pub rest-one : columns_of K n 1 s.ram ≡ drop (K.columns * n.zero) s.ram
    rest-one = take_all (K.columns * n.one) (drop (K.columns * n.zero) s.ram) (rw rest (le_refl (K.columns * n.one)))

    pub kept-zero : Kept K (K.columns * n.zero) (begun_in K n 0 s)
    kept-zero = record {
      range = f.zero_in;
      columns = length-take-le (K.columns * n.zero) s.ram (omega (arith, f.columns));
      nibbles = take-nibbles (K.columns * n.zero) s.ram f.nibbles;
    }

    pub kept-one : Kept K (K.columns * n.one) (begun_in K n 1 s)
    kept-one = record {
      range = f.one_in;
      columns = ap length rest-one ∙ rest;
      nibbles = take-nibbles (K.columns * n.one) (drop (K.columns * n.zero) s.ram) (drop-nibbles (K.columns * n.zero) s.ram f.nibbles);
    }

    pub apart : s ≡ together (begun_in K n 0 s) (begun_in K n 1 s)
    apart i = record {
      registers = s.registers;
      ram = (sym (take-append-drop (K.columns * n.zero) s.ram) ∙ ap (λ (c : List ℕ). take (K.columns * n.zero) s.ram ++ c) (sym rest-one)) i;
    }
