-- Data bytes followed one by one are a run at one position. A run keeps the length, and past the end it changes and counts nothing but discards, and nobody acknowledges it.
-- Assumes nothing.
use mathlib.Core.Path.{◌≡◌, refl, sym, ap, ◌∙◌, subst}
use mathlib.Core.Logic.{⊎_elim}
use mathlib.Core.List.{List, [], ◌∷◌}
use Prim.Native.Nat.{ℕ, zero, suc, ◌+◌, ◌*◌, ◌/◌, ◌≤◌, ◌<◌}
use native.Mathlib.Nat.{add-zero, mul-zero, mul-suc, le_trans}
use native.Mathlib.Omega.{arith}
use lib.ListN.{length, get_or, set, length-set}
use lib.Seq.{set-get_or, set_out}
use borrow.Author.Tests.{le-ltb}
use Rattle.sheet.specs.declared.Registers.{Registers}
use Rattle.sheet.specs.declared.Counts.{Counts}
use Rattle.std.specs.Prelude.{None}
use Rattle.sheet.specs.Results.{Acknowledger}
use Rattle.sheet.specs.declared.Kind.{Kind}
use Rattle.sheet.specs.declared.Expect.TheVariants.{All}
use Rattle.sheet.specs.Parts.{Part}
use Rattle.sheet.specs.Registers.{backplanes, bank_row}
use Rattle.sheet.specs.Long.{Group, heard, data_byte}
use Rattle.sheet.specs.Places.{position, at_position}
use Rattle.sheet.specs.Data.{changed, put_bits, width_of, stored_bits, counted, acknowledger}
use Rattle.sheet.specs.Runs.{put_run, counted_run, last_run, written_by, counted_by, last_by, moved_by}
use Rattle.laws.proofs.Steps.{home, on, many, p-at, a_at, settled}

-- ---- in one mode

-- the columns of n data bytes are there, in the mode that a match tells
pub as_wide : (k m n left : ℕ) → m ≡ k → width_of m * n ≤ left → width_of k * n ≤ left
as_wide k m n left e h = subst (λ (i : ℕ). width_of i * n ≤ left) e h

-- ---- one column changed

pub changed-twice : (f g : ℕ → ℕ) (c : ℕ) (ram : List ℕ) → changed g c (changed f c ram) ≡ changed (λ q. g (f q)) c ram
unfolding changed
changed-twice f g c [] = refl
changed-twice f g zero (q ∷ qs) = refl
changed-twice f g (suc c) (q ∷ qs) = ap (λ (r : List ℕ). q ∷ r) (changed-twice f g c qs)

-- what is the same of the column is the same of the RAM
pub changed-alike : (f g : ℕ → ℕ) (c : ℕ) (ram : List ℕ) → f (get_or ram c 0) ≡ g (get_or ram c 0) → changed f c ram ≡ changed g c ram
unfolding changed
changed-alike f g c ram e = ap (λ (q : ℕ). set ram c q) e

pub unchanged : (c : ℕ) (ram : List ℕ) → changed (λ q. q) c ram ≡ ram
unfolding changed
unchanged c ram = set-get_or ram c 0

-- ---- lengths

pub length-changed : (f : ℕ → ℕ) (c : ℕ) (ram : List ℕ) → length (changed f c ram) ≡ length ram
unfolding changed
length-changed f c ram = length-set ram c (f (get_or ram c 0))

pub length-bits : (n m b v x : ℕ) (ram : List ℕ) → length (put_bits n m b v x ram) ≡ length ram
unfolding put_bits
length-bits zero m b v x ram = refl
length-bits (suc k) m b v x ram = length-changed _ (v + k / m) (put_bits k m b v x ram) ∙ length-bits k m b v x ram

pub length_run : (m b v : ℕ) (xs ram : List ℕ) → length (put_run m b v xs ram) ≡ length ram
unfolding put_run
length_run m b v [] ram = refl
length_run m b v (x ∷ xs) ram = length_run m b (v + width_of m) xs (put_bits 8 m b v x ram) ∙ length-bits 8 m b v x ram

-- ---- past the end

pub changed-past : (f : ℕ → ℕ) (c : ℕ) (ram : List ℕ) → length ram ≤ c → changed f c ram ≡ ram
unfolding changed
changed-past f c ram h = set_out ram c (f (get_or ram c 0)) h

-- nothing is put
pub bits-past : (n m b v x : ℕ) (ram : List ℕ) → length ram ≤ v → put_bits n m b v x ram ≡ ram
unfolding put_bits
bits-past zero m b v x ram h = refl
bits-past (suc k) m b v x ram h = rw (bits-past k m b v x ram h) (changed-past _ (v + k / m) ram (omega arith))

pub run_past : (m b v : ℕ) (xs ram : List ℕ) → length ram ≤ v → put_run m b v xs ram ≡ ram
unfolding put_run
run_past m b v [] ram h = refl
run_past m b v (x ∷ xs) ram h = rw (bits-past 8 m b v x ram h) (run_past m b (v + width_of m) xs ram (omega arith))

pub stored_past : (n m v size : ℕ) → size ≤ v → stored_bits n m v size ≡ 0
unfolding stored_bits
stored_past zero m v size h = refl
stored_past (suc k) m v size h = rw (stored_past k m v size h, le-ltb (v + k / m) size (omega arith))

-- and all eight bits of each byte are discarded
pub counts_past : (n m v size : ℕ) (t : Counts) → size ≤ v
    → counted_run n m v size t ≡ record { acknowledged = t.acknowledged; stored = t.stored; discarded = t.discarded + 8 * n }
unfolding counted_run counted
counts_past zero m v size t h = rw (add-zero t.discarded)
counts_past (suc n) m v size t h =
    counts_past n m (v + width_of m) size (counted m v size t) (omega arith)
    ∙ rw (stored_past 8 m v size h, le-ltb (v + 7 / m) size (omega arith), add-zero t.acknowledged, add-zero t.stored, mul-suc 8 n)
    (ap (λ (d : ℕ). record { acknowledged = t.acknowledged; stored = t.stored; discarded = d }) (omega arith))

-- and nobody acknowledges a byte
none-past : (K : Part) (m v size : ℕ) → size ≤ v → acknowledger K m v size ≡ None
unfolding acknowledger
none-past K m v size h = rw (le-ltb (v + 7 / m) size (omega arith))

last-past : (K : Part) (n m u v size : ℕ) (before : Acknowledger) → size ≤ u → size ≤ v → last_run K n m u size before ≡ last_run K n m v size before
unfolding last_run
last-past K zero m u v size before hu hv = refl
last-past K (suc n) m u v size before hu hv =
    rw (none-past K m u size hu, none-past K m v size hv) (last-past K n m (u + width_of m) (v + width_of m) size None (omega arith) (omega arith))

-- n bytes from the next byte on
along : (v w n : ℕ) → v + w + w * n ≡ v + w * suc n
along v w n = omega arith

-- of some bytes it is the last one's
pub last-at-once : (K : Part) (n m v size : ℕ) (before : Acknowledger) → last_run K (suc n) m v size before ≡ acknowledger K m (v + width_of m * n) size
unfolding last_run
last-at-once K zero m v size before = rw (mul-zero (width_of m), add-zero v)
last-at-once K (suc n) m v size before = last-at-once K n m (v + width_of m) size (acknowledger K m v size) ∙ ap (λ (u : ℕ). acknowledger K m u size) (along v (width_of m) n)

-- ---- from the position that a place stands for

-- what is the same from any two positions past the end is the same from u and from the position of the registers at u
pub as_good : (K : Part) (u : ℕ) (r : Registers) (size : ℕ) → size ≤ K.columns * K.limit → {A : Type 0} (f : ℕ → A)
    → ((v w : ℕ) → size ≤ v → size ≤ w → f v ≡ f w) → f (position K (at_position K r u)) ≡ f u
as_good K u r size h f past =
    ⊎_elim (λ e. ap f e)
    (λ l. past (position K (at_position K r u)) u (le_trans h l.0) (le_trans h l.1))
    (settled K u r)

-- ---- the law

-- the group that has followed a run at one position
abbrev pub ran : Part → List ℕ → Group → Group
ran K xs g =
    let r = g.registers in
    record {
      registers = moved_by K (length xs) r;
      ram = written_by K r xs g.ram;
      counts = counted_by K r (length xs) (length g.ram) g.counts;
      last = last_by K r (length xs) (length g.ram) g.last;
    }

-- heard byte by byte, it is the same group
pub run-at-once : (K : Part) (xs : List ℕ) (g : Group) → g.registers.p < K.columns → g.registers.a ≤ K.limit → length g.ram ≤ K.columns * K.limit
    → heard K (All Kind.Data) xs g ≡ ran K xs g
unfolding heard data_byte put_run counted_run last_run backplanes at_position
run-at-once K [] g lp la ll =
    rw (mul-zero (width_of (backplanes g.registers)), add-zero (position K g.registers))
    (ap (λ (s : Registers). record { registers = s; ram = g.ram; counts = g.counts; last = g.last }) (sym (home K g.registers lp la)))
run-at-once K (x ∷ xs) g lp la ll =
    let r = g.registers in
    let m = backplanes r in
    let b = bank_row m r.i in
    let v = position K r in
    let w = width_of m in
    let ram = put_bits 8 m b v x g.ram in
    let size = length g.ram in
    let el : length ram ≡ size = length-bits 8 m b v x g.ram in
    let pc : 0 < K.columns = omega arith in
    let next = data_byte K x g in
    let s = at_position K r (v + w) in
    run-at-once K xs next (p-at K (v + w) r pc) (a_at K (v + w) r) (rw el ll)
    ∙ (λ i. record {
      registers =
          (sym (many K (w * length xs) s (p-at K (v + w) r pc) (a_at K (v + w) r))
          ∙ on K (w * length xs) (v + w) r pc
          ∙ ap (λ (u : ℕ). at_position K r u) (along v w (length xs))) i;
      ram =
          as_good K (v + w) r size ll (λ u. put_run m b u xs ram)
          (λ u t hu ht. run_past m b u xs ram (rw el hu) ∙ sym (run_past m b t xs ram (rw el ht))) i;
      counts =
          (ap (λ (n : ℕ). counted_run (length xs) m (position K s) n (counted m v size g.counts)) el
          ∙ as_good K (v + w) r size ll (λ u. counted_run (length xs) m u size (counted m v size g.counts))
          (λ u t hu ht. counts_past (length xs) m u size _ hu ∙ sym (counts_past (length xs) m t size _ ht))) i;
      last =
          (ap (λ (n : ℕ). last_run K (length xs) m (position K s) n (acknowledger K m v size)) el
          ∙ as_good K (v + w) r size ll (λ u. last_run K (length xs) m u size (acknowledger K m v size))
          (λ u t hu ht. last-past K (length xs) m u t size _ hu ht)) i;
    })
