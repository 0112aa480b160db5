-- The transfer for every element of a three-backplane glass: it is taken from any valid registers, rows 0 to 2 of every column are the wanted ones, and everything else stays.
-- Assumes nothing.
use mathlib.Core.Path.{◌≡◌, refl, ap, ap₂, subst, ◌∙◌}
use mathlib.Core.Logic.{⊎_elim}
use mathlib.Core.Bool.{true, false, ◌&&◌}
use mathlib.Core.List.{List, [], ◌∷◌, ◌++◌, append_assoc}
use Prim.Native.Nat.{ℕ, zero, suc, ◌+◌, ◌-◌, ◌*◌, ◌/◌, ◌%◌, ◌≤◌, ◌<◌}
use native.Mathlib.Nat.{mod-lt, div-add-mod, div-lt_iff_lt-mul, mul_comm}
use native.Mathlib.Omega.{arith}
use lib.ListN.{length, get_or, length-append}
use borrow.Author.Tests.{lt-ltb, le-ltb}
use Rattle.lemmas.proofs.Order.{lt_or_le}
use Rattle.sheet.specs.declared.Registers.{Registers}
use Rattle.sheet.specs.declared.Counts.{Counts}
use Rattle.std.specs.Prelude.{None, Ok}
use Rattle.sheet.specs.Results.{Acknowledger}
use Rattle.sheet.specs.declared.Expect.TheVariants.{Control}
use Rattle.sheet.specs.Parts.{Part}
use Rattle.sheet.specs.Registers.{marked, at_place, with_marks, backplanes, bank_row}
use Rattle.sheet.specs.Commands.{defined, obeyed, obeyed_all, all_defined}
use Rattle.sheet.specs.Protocol.{control_of}
use Rattle.sheet.specs.Checks.{fault_in}
use Rattle.sheet.specs.Places.{position, at_position}
use Rattle.sheet.specs.Data.{row_of, width_of, put_bits, present, stored_bits, counted, acknowledger}
use Rattle.sheet.specs.Long.{Group, control, data_byte, heard}
use Rattle.writer_sheet.specs.Writer.{each_after80, set_to}
use Rattle.writer_sheet.specs.Puts.{Settable}
use Rattle.writer_sheet.specs.Three.{pair_of, byte_at, pairs_from}
use Rattle.laws.proofs.Counts.{stored_closed, counts-alike}
use Rattle.laws.proofs.Runs.{length-bits}
use Rattle.laws.proofs.Puts.{length-each}
use Rattle.laws.proofs.Commanded.{on, heard-commands, fault-commands}
use Rattle.laws.proofs.Pairs.{pair_lands, before-stays, row-three-stays}

-- ---- one byte at column c: its place is set, and it is stored there

module _ (K : Part) (u : Settable K) where
  -- the commands that come before it
  abbrev places : ℕ → List ℕ
  places c = (0xE0 + c / K.columns) ∷ K.pointer (c % K.columns)

  -- a column that a subaddress has
  abbrev There : ℕ → Type 0
  There c = c < K.columns * K.limit

  chip-in : (c : ℕ) → There c → c / K.columns < K.limit
  chip-in c l = (div-lt_iff_lt-mul u.columns).1 (rw (mul_comm K.limit K.columns) l)

  -- the registers at column c, nothing unknown
  abbrev pub placed : ℕ → Registers → Registers
  placed c r = with_marks (at_place r (c % K.columns) (c / K.columns)) (marked 0)

  place_set : (c : ℕ) (r : Registers) → There c → obeyed_all K (places c) r ≡ placed c r
  place_set c r l = (λ i. obeyed_all K (K.pointer (c % K.columns)) (obeyed r (u.device-select (c / K.columns) (chip-in c l) i))) ∙ u.pointer (c % K.columns) (mod-lt c u.columns) _

  place-defined : (c : ℕ) → There c → all_defined K (places c) ≡ true
  place-defined c l = (λ i. defined (u.device-select (c / K.columns) (chip-in c l) i) && all_defined K (K.pointer (c % K.columns))) ∙ u.defined (c % K.columns) (mod-lt c u.columns)

  place_is : (c : ℕ) (r : Registers) → position K (placed c r) ≡ c
  unfolding position
  place_is c r = div-add-mod c K.columns

  -- the group before the byte, and after it
  abbrev pub ready : ℕ → Group → Group
  ready c g = control (on (2 * length (places c)) (placed c g.registers) g)

  abbrev pub after : List ℕ → ℕ → Group → Group
  after wanted c g = data_byte K (pair_of wanted c) (ready c g)

  -- heard, and checked
  joined : (c x : ℕ) (ys : List ℕ) → byte_at K c x ++ ys ≡ each_after80 (places c) ++ (0xC0 ∷ x ∷ ys)
  joined c x ys = append_assoc (each_after80 (places c)) (0xC0 ∷ x ∷ []) ys

  pub heard-byte : (wanted ys : List ℕ) (c : ℕ) (g : Group) → There c → heard K Control (byte_at K c (pair_of wanted c) ++ ys) g ≡ heard K Control ys (after wanted c g)
  unfolding heard control_of
  heard-byte wanted ys c g l =
      ap (λ (l : List ℕ). heard K Control l g) (joined c (pair_of wanted c) ys)
      ∙ heard-commands K (places c) (0xC0 ∷ pair_of wanted c ∷ ys) g
      ∙ ap (λ (r : Registers). heard K Control ys (data_byte K (pair_of wanted c) (control (on (2 * length (places c)) r g)))) (place_set c g.registers l)

  fault-byte : (c x i : ℕ) (ys : List ℕ) (r : Registers) → There c → fault_in K false r.unknown Control i (byte_at K c x ++ ys) ≡ fault_in K false (marked 0) Control (i + 2 * length (places c) + 2) ys
  unfolding fault_in control_of
  fault-byte c x i ys r l =
      ap (λ (l : List ℕ). fault_in K false r.unknown Control i l) (joined c x ys)
      ∙ fault-commands K (places c) (0xC0 ∷ x ∷ ys) r i (place-defined c l)
      ∙ rw (place_set c r l) (ap (λ (n : ℕ). fault_in K false (marked 0) Control n ys) (omega arith))

  -- ---- all bytes from column c on

  unfoldable pub after_all : List ℕ → ℕ → ℕ → Group → Group
  after_all wanted zero c g = g
  after_all wanted (suc n) c g = after_all wanted n (c + 2) (after wanted c g)

  pub heard_all : (wanted ys : List ℕ) (n c : ℕ) (g : Group) → c + 2 * n ≤ K.columns * K.limit → heard K Control (pairs_from K n c wanted ++ ys) g ≡ heard K Control ys (after_all wanted n c g)
  unfolding pairs_from after_all
  heard_all wanted ys zero c g l = refl
  heard_all wanted ys (suc n) c g l =
      ap (λ (l : List ℕ). heard K Control l g) (append_assoc (byte_at K c (pair_of wanted c)) (pairs_from K n (c + 2) wanted) ys)
      ∙ heard-byte wanted (pairs_from K n (c + 2) wanted ++ ys) c g (omega arith) ∙ heard_all wanted ys n (c + 2) (after wanted c g) (omega arith)

  pub fault-all : (wanted : List ℕ) (n c i : ℕ) (r : Registers) → c + 2 * n ≤ K.columns * K.limit → fault_in K false r.unknown Control i (pairs_from K n c wanted) ≡ Ok tt
  unfolding pairs_from fault_in
  fault-all wanted zero c i r l = refl
  fault-all wanted (suc n) c i r l = fault-byte c (pair_of wanted c) i (pairs_from K n (c + 2) wanted) r (omega arith) ∙ fault-all wanted n (c + 2) _ (with_marks r (marked 0)) (omega arith)

  -- ---- what a byte does, in a group in 1:3

  -- the columns before c are the wanted ones, and row 3 of each stays; a bytes are acknowledged, and all bits of c columns' bytes are stored
  pub record Done (wanted ram : List ℕ) (base : Registers) (c a : ℕ) (g : Group) : Type 0 where
    pub size : length g.ram ≡ length wanted
    pub rows : (i q : ℕ) → i < c → q < 3 → row_of (get_or g.ram i 0) q ≡ row_of (get_or wanted i 0) q
    pub others : (i q : ℕ) → 3 ≤ q → row_of (get_or g.ram i 0) q ≡ row_of (get_or ram i 0) q
    pub registers : set_to g.registers.m g.registers.i g.registers ≡ base
    pub counts : g.counts ≡ record { acknowledged = a; stored = 4 * c; discarded = 0 }

  module _ (wanted ram : List ℕ) (base : Registers) (three : base.m ≡ 3) (c a : ℕ) (g : Group) (d : Done wanted ram base c a g) where
    -- three backplanes, from row 0 on
    planes : backplanes g.registers ≡ 3
    unfolding backplanes
    planes = let m : g.registers.m ≡ 3 = ap (λ (r : Registers). r.m) d.registers ∙ three in rw m refl

    put_is : (after wanted c g).ram ≡ put_bits 8 3 0 c (pair_of wanted c) g.ram
    unfolding data_byte backplanes bank_row
    put_is = ap₂ (λ (m v : ℕ). put_bits 8 m (bank_row m g.registers.i) v (pair_of wanted c) g.ram) planes (place_is c g.registers)

    counts-are : (after wanted c g).counts ≡ counted 3 c (length g.ram) (ready c g).counts
    unfolding data_byte backplanes
    counts-are = ap₂ (λ (m v : ℕ). counted m v (length g.ram) (ready c g).counts) planes (place_is c g.registers)

    pub rows-after : c + 2 ≤ length wanted → (i q : ℕ) → i < c + 2 → q < 3 → row_of (get_or (after wanted c g).ram i 0) q ≡ row_of (get_or wanted i 0) q
    rows-after l i q li lq =
        ap (λ (m : List ℕ). row_of (get_or m i 0) q) put_is
        ∙ ⊎_elim
        (λ (h : i < c). before-stays c wanted g.ram i q h ∙ d.rows i q h lq)
        (λ (h : c ≤ i). pair_lands c wanted g.ram i q h li lq (rw d.size (omega arith)))
        (lt_or_le i c)

    pub others-after : (i q : ℕ) → 3 ≤ q → row_of (get_or (after wanted c g).ram i 0) q ≡ row_of (get_or ram i 0) q
    others-after i q l = ap (λ (m : List ℕ). row_of (get_or m i 0) q) put_is ∙ row-three-stays c wanted g.ram i q l ∙ d.others i q l

    pub size-after : length (after wanted c g).ram ≡ length wanted
    size-after = ap length put_is ∙ length-bits 8 3 0 c (pair_of wanted c) g.ram ∙ d.size

    -- all but P, A and marks
    kept : set_to (after wanted c g).registers.m (after wanted c g).registers.i (after wanted c g).registers ≡ set_to g.registers.m g.registers.i g.registers
    unfolding data_byte at_position
    kept = refl

    -- where its last column is there, all of it is stored and acknowledged; at the end two bits are lost
    tallied : (t bits : ℕ) → present (length g.ram) (c + 2) ≡ t → stored_bits 8 3 c (length g.ram) ≡ bits
        → (after wanted c g).counts ≡ record { acknowledged = a + length (byte_at K c (pair_of wanted c)) - 1 + t; stored = 4 * c + bits; discarded = 8 - bits }
    unfolding counted
    tallied t bits et eb =
        counts-are
        ∙ counts-alike _ _
        (omega (arith, ap (λ (k : Counts). k.acknowledged) d.counts, et, length-append (each_after80 (places c)) (0xC0 ∷ pair_of wanted c ∷ []), length-each (places c)))
        (omega (arith, ap (λ (k : Counts). k.stored) d.counts, eb))
        (omega (arith, ap (λ (k : Counts). k.discarded) d.counts, eb))

    step : c + 2 < length wanted → Done wanted ram base (c + 2) (a + length (byte_at K c (pair_of wanted c))) (after wanted c g)
    step l = record {
      size = size-after;
      rows = rows-after (omega arith);
      others = others-after;
      registers = kept ∙ d.registers;
      counts =
          tallied 1 8 (rw (lt-ltb (c + 2) (length g.ram) (omega (arith, d.size)))) (stored_closed 8 3 c (length g.ram) (omega arith) ∙ omega (arith, d.size))
          ∙ counts-alike _ _ (omega (arith, length-append (each_after80 (places c)) (0xC0 ∷ pair_of wanted c ∷ []))) (omega arith) (omega arith);
    }

    -- the last byte
    pub last-counts : c + 2 ≡ length wanted → (after wanted c g).counts ≡ record { acknowledged = a + length (byte_at K c (pair_of wanted c)) - 1; stored = 4 * length wanted - 2; discarded = 2 }
    last-counts e =
        tallied 0 6 (rw (le-ltb (c + 2) (length g.ram) (omega (arith, d.size)))) (stored_closed 8 3 c (length g.ram) (omega arith) ∙ omega (arith, d.size))
        ∙ counts-alike _ _ (omega arith) (omega (arith, e)) (omega arith)

    pub last-by : c + 2 ≡ length wanted → (after wanted c g).last ≡ None
    unfolding data_byte backplanes acknowledger
    last-by e =
        ap₂ (λ (m v : ℕ). acknowledger K m v (length g.ram)) planes (place_is c g.registers) ∙ rw (le-ltb (c + 2) (length g.ram) (omega (arith, d.size, e)))

    pub last-registers : (after wanted c g).registers ≡ at_position K base (c + 3)
    unfolding data_byte backplanes at_position
    last-registers =
        ap₂ (λ (m v : ℕ). at_position K (placed c g.registers) (v + width_of m)) planes (place_is c g.registers) ∙ ap (λ (r : Registers). at_position K r (c + 3)) d.registers

  -- all bytes but the last
  pub steps : (wanted ram : List ℕ) (base : Registers) → base.m ≡ 3 → (n c a : ℕ) (g : Group) → Done wanted ram base c a g → c + 2 * n + 2 ≤ length wanted
      → Done wanted ram base (c + 2 * n) (a + length (pairs_from K n c wanted)) (after_all wanted n c g)
  unfolding pairs_from after_all
  steps wanted ram base three zero c a g d l =
      let e : c ≡ c + 2 * 0 = omega arith in
      let f : a ≡ a + 0 = omega arith in
      subst (λ (i : ℕ). Done wanted ram base i (a + 0) g) e (subst (λ (k : ℕ). Done wanted ram base c k g) f d)
  steps wanted ram base three (suc n) c a g d l =
      let x = byte_at K c (pair_of wanted c) in
      let more = steps wanted ram base three n (c + 2) (a + length x) (after wanted c g) (step wanted ram base three c a g d (omega arith)) (omega arith) in
      let e : c + 2 + 2 * n ≡ c + 2 * suc n = omega arith in
      let f : a + length x + length (pairs_from K n (c + 2) wanted) ≡ a + length (x ++ pairs_from K n (c + 2) wanted) = omega (arith, length-append x (pairs_from K n (c + 2) wanted)) in
      subst (λ (i : ℕ). Done wanted ram base i (a + length (x ++ pairs_from K n (c + 2) wanted)) (after_all wanted n (c + 2) (after wanted c g))) e
      (subst (λ (k : ℕ). Done wanted ram base (c + 2 + 2 * n) k (after_all wanted n (c + 2) (after wanted c g))) f more)
