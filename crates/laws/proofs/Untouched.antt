-- What no data bit lands on stays, and what is not called stays whole: of a transfer in the long account, and of each chip of any list.
-- Assumes nothing.
use mathlib.Core.Path.{◌≡◌, refl, sym, ap, subst, ◌∙◌}
use mathlib.Core.Logic.{◌≢◌, ⊎_elim}
use mathlib.Core.Bool.{Bool, true, false, cond, ◌&&◌, true≢false}
use mathlib.Core.List.{List, [], ◌∷◌, map, map-id, map-map}
use Prim.Native.Nat.{ℕ, zero, suc, ◌+◌, ◌*◌, ◌/◌, ◌%◌, ◌<◌}
use native.Mathlib.Nat.{not-suc-le-zero, le_of_suc-le-suc}
use lib.Dec.{eqb, ltb}
use lib.ListN.{length, get_or, drop}
use borrow.Author.Tests.{eq-eqb, ne_eqb}
use Rattle.lemmas.proofs.Order.{equal_or_not}
use Rattle.lemmas.proofs.Tests.{either_false}
use Rattle.sheet.specs.declared.Both.{Both}
use Rattle.sheet.specs.declared.Chips.{Chips}
use Rattle.sheet.specs.declared.Chip.{Chip}
use Rattle.std.specs.Prelude.{Err, None, Ok, Some}
use Rattle.sheet.specs.Results.{Check, Addressed}
use Rattle.sheet.specs.declared.Expect.{Expect}
use Rattle.sheet.specs.declared.Kind.{Kind}
use Rattle.sheet.specs.declared.Expect.TheVariants.{Control, One, All}
use Rattle.sheet.specs.Parts.{Part}
use Rattle.sheet.specs.Registers.{backplanes, bank_row, registers_of}
use Rattle.sheet.specs.Protocol.{address_of, heard_by, next, Sent, whole_of, address_byte, cut_data}
use Rattle.sheet.specs.Long.{Group, After, begun, byte_of, byte, data_byte, heard, columns_of, taken, transfer_call}
use Rattle.sheet.specs.Plain.{begun_by, put_rows, after_column, after_columns, chip_data, chip_byte_of, chip_byte, any, hears, takes, Plain, plain_heard, chip_lost, chip_ended, plain_whole, plain_taken, plain_said, plain_answered, check_plain, plain_call}
use Rattle.sheet.specs.Data.{bit_of, row_of, with_row, changed, put_bits, width_of}
use Rattle.sheet.specs.Lands.{bits_on, kind_on, byte_on, heard_on, Missed, LongStays, rows_on, column_on, columns_on, chip_kind_on, chip_byte_on, chip_heard_on, PlainStays, Untouched}
use Rattle.laws.proofs.Rows.{row_other, row_kept, row_stays, changed-other, bit_lt}
use Rattle.laws.proofs.Fits.{Fits}
use Rattle.laws.proofs.Lens.{own-columns, other-columns}
use Rattle.laws.proofs.Groups.{Calls, calls, of-call, group_after, length-after, stays}

-- row q of column c is the same in two lists of columns
abbrev SameRow : ℕ → ℕ → List ℕ → List ℕ → Type 0
SameRow c q after before = row_of (get_or after c 0) q ≡ row_of (get_or before c 0) q

-- two tests that are not both true
not-both : (a b c d : ℕ) → (eqb a b && eqb c d) ≡ false → a ≡ b → c ≡ d → ⊥
not-both a b c d e p q = true≢false (sym (rw (eq-eqb a b p, eq-eqb c d q) refl) ∙ e)

-- ---- the long account

bits_missed : (n m b v x c q : ℕ) (ram : List ℕ) → bits_on n m b v c q ≡ false → SameRow c q (put_bits n m b v x ram) ram
unfolding bits_on put_bits
bits_missed zero m b v x c q ram e = refl
bits_missed (suc n) m b v x c q ram e =
    let d = either_false (eqb c (v + n / m) && eqb q (b + n % m)) (bits_on n m b v c q) e in
    row_stays (b + n % m) (bit_of x n) (v + n / m) (put_bits n m b v x ram) c q (bit_lt x n) (not-both c (v + n / m) q (b + n % m) d.0)
    ∙ bits_missed n m b v x c q ram d.1

kind_missed : (K : Part) (k : Kind) (x : ℕ) (g : Group) (c q : ℕ) → kind_on K k g.registers c q ≡ false → SameRow c q (byte_of K k x g).ram g.ram
unfolding data_byte
kind_missed K Kind.Command x g c q h = refl
kind_missed K Kind.Data x g c q h = bits_missed 8 _ _ _ x c q g.ram h

byte_missed : (K : Part) (e : Expect) (x : ℕ) (g : Group) (c q : ℕ) → byte_on K e g.registers c q ≡ false → SameRow c q (byte K e x g).ram g.ram
byte_missed K Control x g c q h = refl
byte_missed K (One k) x g c q h = kind_missed K k x g c q h
byte_missed K (All k) x g c q h = kind_missed K k x g c q h

heard_missed : (K : Part) (e : Expect) (xs : List ℕ) (g : Group) (c q : ℕ) → heard_on K e xs g c q ≡ false → SameRow c q (heard K e xs g).ram g.ram
unfolding heard_on heard
heard_missed K e [] g c q h = refl
heard_missed K e (x ∷ xs) g c q h =
    let d = either_false (byte_on K e g.registers c q) (heard_on K (next e x) xs (byte K e x g) c q) h in
    heard_missed K (next e x) xs (byte K e x g) c q d.1 ∙ byte_missed K e x g c q d.0

module _ (K : Part) (n : Chips) (r : Both) (ram : List ℕ) (t : Sent) (h : ℕ) (ph : h < 2) (c q : ℕ) (missed : Missed K n r ram t h c q) where
  abbrev RowStays : After → Type 0
  RowStays a = SameRow c q (columns_of K n h a.ram) (columns_of K n h ram)

  -- the group that hears is this one, or it is not
  row_by : Fits K n r ram → (to : Addressed) → Calls (address_byte t) to → RowStays (taken K n r ram t to)
  row_by f (Some g) calls =
      ⊎_elim
      (λ (e : g ≡ h). subst (λ (k : ℕ). RowStays (taken K n r ram t (Some k))) (sym e)
      (ap (λ (l : List ℕ). row_of (get_or l c 0) q) (own-columns K n r ram f h (group_after K n r ram t h).ram (length-after K n r ram t f h))
      ∙ heard_missed K Control (drop 1 (whole_of t)) (begun (registers_of h r) (columns_of K n h ram)) c q (missed (calls.1 ∙ ap address_of e))))
      (λ (ne : g ≢ h). ap (λ (l : List ℕ). row_of (get_or l c 0) q) (other-columns K n r ram f g h calls.0 ph ne (group_after K n r ram t g).ram (length-after K n r ram t f g)))
      (equal_or_not g h)
  row_by f None calls = refl

  row_stays_so : RowStays (transfer_call K n r ram t)
  row_stays_so =
      of-call K n r ram t RowStays (λ x er em. ap (λ (l : List ℕ). row_of (get_or (columns_of K n h l) c 0) q) em)
      (λ f. row_by f (heard_by n (address_byte t)) (calls n (address_byte t)))

long-stays : (K : Part) (n : Chips) (r : Both) (ram : List ℕ) (t : Sent) (h : ℕ) → h < 2 → LongStays K n r ram t h
long-stays K n r ram t h ph = record {
  row = λ c q m. row_stays_so K n r ram t h ph c q m;
  columns = λ other. (stays K n r ram t h ph other).columns;
  registers = λ other. (stays K n r ram t h ph other).registers;
}

-- ---- one chip

rows_missed : (n b k x q column : ℕ) → rows_on n b k q ≡ false → row_of (put_rows n b k x column) q ≡ row_of column q
unfolding rows_on put_rows
rows_missed zero b k x q column e = refl
rows_missed (suc n) b k x q column e =
    let d = either_false (ltb (k + n) 8 && eqb q (b + n)) (rows_on n b k q) e in
    one (ltb (k + n) 8) d.0 ∙ rows_missed n b k x q column d.1
  where
    one : (t : Bool) → (t && eqb q (b + n)) ≡ false → row_of (cond t (with_row (b + n) (bit_of x (k + n)) (put_rows n b k x column)) (put_rows n b k x column)) q ≡ row_of (put_rows n b k x column) q
    one true h = row_other (b + n) q (bit_of x (k + n)) (put_rows n b k x column) (bit_lt x (k + n)) (λ (p : q ≡ b + n). true≢false (sym (eq-eqb q (b + n) p) ∙ h))
    one false h = refl

-- a column changed by a function that keeps row q where the column is p
change_missed : (f : ℕ → ℕ) (at p q : ℕ) (t : Bool) (ram : List ℕ) → (eqb p at && t) ≡ false → (t ≡ false → (column : ℕ) → row_of (f column) q ≡ row_of column q)
    → SameRow p q (changed f at ram) ram
change_missed f at p q t ram e keeps =
    ⊎_elim (λ (h : p ≡ at). row_kept f q (keeps (sym (rw (eq-eqb p at h)) ∙ e)) at p ram) (λ (h : p ≢ at). ap (λ (column : ℕ). row_of column q) (changed-other f at p ram h)) (equal_or_not p at)

column_missed : (K : Part) (x j : ℕ) (c : Chip) (p q : ℕ) → column_on j c p q ≡ false → SameRow p q (after_column K x j c).columns c.columns
unfolding after_column
column_missed K x j c p q e = stored (eqb c.registers.a c.subaddress) e
  where
    m : ℕ
    m = backplanes c.registers

    b : ℕ
    b = bank_row (backplanes c.registers) c.registers.i

    stored : (t : Bool) → (t && (eqb p c.registers.p && rows_on m b (m * j) q)) ≡ false
        → SameRow p q (cond t (changed (put_rows m b (m * j) x) c.registers.p c.columns) c.columns) c.columns
    stored true h = change_missed (put_rows m b (m * j) x) c.registers.p p q (rows_on m b (m * j) q) c.columns h (λ o column. rows_missed m b (m * j) x q column o)
    stored false h = refl

columns_missed : (K : Part) (x n : ℕ) (c : Chip) (p q : ℕ) → columns_on K x n c p q ≡ false → SameRow p q (after_columns K x n c).columns c.columns
unfolding columns_on after_columns
columns_missed K x zero c p q e = refl
columns_missed K x (suc n) c p q e =
    let d = either_false (column_on n (after_columns K x n c) p q) (columns_on K x n c p q) e in
    column_missed K x n (after_columns K x n c) p q d.0 ∙ columns_missed K x n c p q d.1

chip_kind_missed : (K : Part) (k : Kind) (x : ℕ) (c : Chip) (p q : ℕ) → chip_kind_on K k x c p q ≡ false → SameRow p q (chip_byte_of K k x c).columns c.columns
unfolding chip_data
chip_kind_missed K Kind.Command x c p q h = refl
chip_kind_missed K Kind.Data x c p q h = columns_missed K x (width_of (backplanes c.registers)) c p q h

chip_byte_missed : (K : Part) (e : Expect) (x : ℕ) (c : Chip) (p q : ℕ) → chip_byte_on K e x c p q ≡ false → SameRow p q (chip_byte K e x c).columns c.columns
chip_byte_missed K Control x c p q h = refl
chip_byte_missed K (One k) x c p q h = chip_kind_missed K k x c p q h
chip_byte_missed K (All k) x c p q h = chip_kind_missed K k x c p q h

-- ---- a list of chips

-- a chip of the list after the bytes that are left
unfoldable alone : Part → ℕ → Expect → List ℕ → Chip → Chip
alone K address e [] c = c
alone K address e (x ∷ xs) c = alone K address (next e x) xs (takes K address e x c)

each-alone : (K : Part) (address : ℕ) (e : Expect) (xs : List ℕ) (s : Plain) → (plain_heard K address e xs s).chips ≡ map (alone K address e xs) s.chips
unfolding plain_heard alone
each-alone K address e [] s = sym (map-id s.chips)
each-alone K address e (x ∷ xs) s = each-alone K address (next e x) xs _ ∙ map-map (alone K address (next e x) xs) (takes K address e x) s.chips

-- one that does not hear
deaf_alone : (K : Part) (address : ℕ) (e : Expect) (xs : List ℕ) (c : Chip) → hears address c ≡ false → alone K address e xs c ≡ c
unfolding alone
deaf_alone K address e [] c h = refl
deaf_alone K address e (x ∷ xs) c h = rw h (deaf_alone K address (next e x) xs c h)

alone_missed : (K : Part) (address : ℕ) (e : Expect) (xs : List ℕ) (c : Chip) (p q : ℕ) → chip_heard_on K e xs c p q ≡ false → SameRow p q (alone K address e xs c).columns c.columns
unfolding chip_heard_on alone
alone_missed K address e [] c p q h = refl
alone_missed K address e (x ∷ xs) c p q h =
    let d = either_false (chip_byte_on K e x c p q) (chip_heard_on K (next e x) xs (chip_byte K e x c) p q) h in
    by_hearing (hears address c) (deaf_alone K address (next e x) xs c)
    (alone_missed K address (next e x) xs (chip_byte K e x c) p q d.1 ∙ chip_byte_missed K e x c p q d.0)
  where
    by_hearing : (t : Bool) → (t ≡ false → alone K address (next e x) xs c ≡ c) → SameRow p q (alone K address (next e x) xs (chip_byte K e x c)).columns c.columns
        → SameRow p q (alone K address (next e x) xs (cond t (chip_byte K e x c) c)).columns c.columns
    by_hearing true deaf missed = missed
    by_hearing false deaf missed = ap (λ (k : Chip). row_of (get_or k.columns p 0) q) (deaf refl)

map_at : (f : Chip → Chip) (cs : List Chip) (i : ℕ) (d : Chip) → i < length cs → get_or (map f cs) i d ≡ f (get_or cs i d)
map_at f [] i d l = absurd (not-suc-le-zero l)
map_at f (c ∷ cs) zero d l = refl
map_at f (c ∷ cs) (suc i) d l = map_at f cs i d (le_of_suc-le-suc l)

-- one chip's part in all of a transfer: it follows the whole bytes, and a byte that is cut lands nowhere
abbrev ended : Part → Sent → Chip → Chip
ended K t c = chip_ended (address_byte t) (cut_data t) (alone K (address_byte t) Control (drop 1 (whole_of t)) c)

each-ended : (K : Part) (t : Sent) (s : Plain) → (plain_whole K (address_byte t) t s).chips ≡ map (ended K t) s.chips
each-ended K t s =
    ap (map (chip_ended (address_byte t) (cut_data t))) (each-alone K (address_byte t) Control (drop 1 (whole_of t)) s)
    ∙ map-map (chip_ended (address_byte t) (cut_data t)) (alone K (address_byte t) Control (drop 1 (whole_of t))) s.chips

ended-columns : (address : ℕ) (is_data : Bool) (c : Chip) → (chip_ended address is_data c).columns ≡ c.columns
ended-columns address is_data c = go (hears address c)
  where
    go : (b : Bool) → (cond b (chip_lost is_data c) c).columns ≡ c.columns
    go true = refl
    go false = refl

module _ (K : Part) (cs : List Chip) (t : Sent) (i : ℕ) (d : Chip) (l : i < length cs) where
  -- a chip of the list is as it was, or followed the transfer alone
  chip-after : (P : Chip → Type 0) → P (get_or cs i d) → P (ended K t (get_or cs i d)) → P (get_or (plain_call K cs t).chips i d)
  unfolding plain_call
  chip-after P kept moved = by-check (check_plain K cs t) (plain_taken K cs t) (by_hearers (any (hears (address_byte t)) cs))
    where
      by_hearers : (b : Bool) → P (get_or (cond b (plain_whole K (address_byte t) t (begun_by 1 cs)) (begun_by 0 cs)).chips i d)
      by_hearers true = subst P (sym (ap (λ (k : List Chip). get_or k i d) (each-ended K t (begun_by 1 cs)) ∙ map_at _ cs i d l)) moved
      by_hearers false = kept

      by-check : (k : Check) (s : Plain) → P (get_or s.chips i d) → P (get_or (plain_answered k cs (plain_said s)).chips i d)
      by-check (Ok _) s h = h
      by-check (Err x) s h = kept

  abbrev before : Chip
  before = get_or cs i d

  abbrev followed : Chip
  followed = alone K (address_byte t) Control (drop 1 (whole_of t)) before

  -- one that does not hear
  deaf_ended : hears (address_byte t) before ≡ false → ended K t before ≡ before
  deaf_ended deaf = ap (chip_ended (address_byte t) (cut_data t)) (deaf_alone K (address_byte t) Control (drop 1 (whole_of t)) before deaf) ∙ rw deaf

  plain-stays : PlainStays K t before (get_or (plain_call K cs t).chips i d)
  plain-stays = record {
    row = λ p q missed. chip-after (λ c. SameRow p q c.columns before.columns) refl
        (ap (λ (columns : List ℕ). row_of (get_or columns p 0) q) (ended-columns (address_byte t) (cut_data t) followed) ∙ alone_missed K (address_byte t) Control (drop 1 (whole_of t)) before p q missed);
    chip = λ other. chip-after (λ c. c ≡ before) refl (deaf_ended (ne_eqb (address_byte t) (address_of before.sa0) other));
  }

-- the law, for any column count and limit
pub untouched : (K : Part) → Untouched K
untouched K = record {
  long = λ n r ram t g pg. long-stays K n r ram t g pg;
  plain = λ cs t i d l. plain-stays K cs t i d l;
}
