-- The groups do not touch each other: a transfer whose byte 0 is not a group's address leaves that group's registers and columns, whatever is sent.
-- Assumes nothing.
use mathlib.Core.Path.{◌≡◌, refl, ◌∙◌}
use mathlib.Core.Bool.{Bool, true, false, cond, ◌&&◌}
use mathlib.Core.List.{List, [], ◌∷◌}
use Prim.Native.Nat.{ℕ, ◌*◌, ◌<◌}
use native.Mathlib.Omega.{arith}
use lib.Dec.{eqb, ltb}
use lib.ListN.{length, drop}
use borrow.Author.Tests.{eqb-true}
use Rattle.lemmas.proofs.Tests.{both_true}
use Rattle.sheet.specs.declared.Both.{Both}
use Rattle.sheet.specs.declared.Chips.{Chips}
use Rattle.std.specs.Prelude.{Err, None, Ok, Some}
use Rattle.sheet.specs.Results.{Check, Addressed}
use Rattle.sheet.specs.declared.Kind.{Kind}
use Rattle.sheet.specs.declared.Expect.{Expect}
use Rattle.sheet.specs.declared.Expect.TheVariants.{Control, One, All}
use Rattle.sheet.specs.Parts.{Part}
use Rattle.sheet.specs.Registers.{registers_of}
use Rattle.sheet.specs.Protocol.{address_of, heard_by, chips_in, next, Sent, whole_of, address_byte}
use Rattle.sheet.specs.Checks.{check_state, check_transfer}
use Rattle.sheet.specs.Long.{Group, After, begun, byte_of, byte, data_byte, heard, heard_whole, columns_of, taken, answered, transfer_call}
use Rattle.laws.proofs.Runs.{length-bits}
use Rattle.laws.proofs.Fits.{Fits, both_pass, fits-of}
use Rattle.laws.proofs.Lens.{length-columns, other-columns, other-registers}

-- ---- a transfer keeps the length of the columns it writes

length_kind : (K : Part) (k : Kind) (x : ℕ) (s : Group) → length (byte_of K k x s).ram ≡ length s.ram
unfolding data_byte
length_kind K Kind.Command x s = refl
length_kind K Kind.Data x s = length-bits 8 _ _ _ x s.ram

length-byte : (K : Part) (e : Expect) (x : ℕ) (s : Group) → length (byte K e x s).ram ≡ length s.ram
length-byte K Control x s = refl
length-byte K (One k) x s = length_kind K k x s
length-byte K (All k) x s = length_kind K k x s

pub length-heard : (K : Part) (e : Expect) (xs : List ℕ) (s : Group) → length (heard K e xs s).ram ≡ length s.ram
unfolding heard
length-heard K e [] s = refl
length-heard K e (x ∷ xs) s = length-heard K (next e x) xs (byte K e x s) ∙ length-byte K e x s

-- ---- who hears byte 0: a group whose address it is

abbrev pub Calls : ℕ → Addressed → Type 0
Calls x (Some g) = (g < 2) × (x ≡ address_of g)
Calls x None = Unit {0}

pub calls : (n : Chips) (x : ℕ) → Calls x (heard_by n x)
unfolding heard_by
calls n x = go (eqb x (address_of 0) && ltb 0 n.zero) (eqb x (address_of 1) && ltb 0 n.one) (is 0 n.zero) (is 1 n.one)
  where
    is : (g k : ℕ) → (eqb x (address_of g) && ltb 0 k) ≡ true → x ≡ address_of g
    is g k e = eqb-true x (address_of g) (both_true (eqb x (address_of g)) (ltb 0 k) e).0

    go : (t u : Bool) → (t ≡ true → x ≡ address_of 0) → (u ≡ true → x ≡ address_of 1) → Calls x (cond t (Some 0) (cond u (Some 1) None))
    go true u hz ho = (omega arith, hz refl)
    go false true hz ho = (omega arith, ho refl)
    go false false hz ho = tt

-- ---- what holds of a state that fits and a transfer that is taken holds of the call

module _ (K : Part) (n : Chips) (r : Both) (ram : List ℕ) (t : Sent) where
  fitting : check_transfer K n r ram t ≡ Ok tt → Fits K n r ram
  unfolding check_transfer
  fitting e = fits-of K n r ram (both_pass (check_state K n r ram) _ e).0

  pub of-call : (P : After → Type 0) → ((x : After) → x.result.registers ≡ r → x.ram ≡ ram → P x)
      → (Fits K n r ram → P (taken K n r ram t (heard_by n (address_byte t)))) → P (transfer_call K n r ram t)
  unfolding transfer_call
  of-call P same took = go (check_transfer K n r ram t) fitting
    where
      go : (k : Check) → (k ≡ Ok tt → Fits K n r ram) → P (answered k r ram (taken K n r ram t (heard_by n (address_byte t))))
      go (Ok _) fits = took (fits refl)
      go (Err x) fits = same _ refl refl

-- group h after a call is as it was
pub record Stays (K : Part) (n : Chips) (h : ℕ) (r : Both) (ram : List ℕ) (a : After) : Type 0 where
  pub registers : registers_of h a.result.registers ≡ registers_of h r
  pub columns : columns_of K n h a.ram ≡ columns_of K n h ram

-- group g after the bytes: its columns are as many
abbrev pub group_after : Part → Chips → Both → List ℕ → Sent → ℕ → Group
group_after K n r ram t g = heard_whole K t (begun (registers_of g r) (columns_of K n g ram))

pub length-after : (K : Part) (n : Chips) (r : Both) (ram : List ℕ) (t : Sent) (f : Fits K n r ram) (g : ℕ) → length (group_after K n r ram t g).ram ≡ K.columns * chips_in g n
length-after K n r ram t f g = length-heard K Control (drop 1 (whole_of t)) (begun (registers_of g r) (columns_of K n g ram)) ∙ length-columns K n r ram f g

module _ (K : Part) (n : Chips) (r : Both) (ram : List ℕ) (t : Sent) (h : ℕ) (ph : h < 2) where
  -- by who hears
  pub stays_by : Fits K n r ram → (to : Addressed) → Calls (address_byte t) to → (address_byte t ≡ address_of h → ⊥) → Stays K n h r ram (taken K n r ram t to)
  stays_by f (Some g) c other =
      let ne : g ≡ h → ⊥ = λ e. other (c.1 ∙ (λ j. address_of (e j))) in
      record {
        registers = other-registers g h c.0 ph ne (group_after K n r ram t g).registers r;
        columns = other-columns K n r ram f g h c.0 ph ne (group_after K n r ram t g).ram (length-after K n r ram t f g);
      }
  stays_by f None c other = record { registers = refl; columns = refl }

  -- the law
  pub stays : (address_byte t ≡ address_of h → ⊥) → Stays K n h r ram (transfer_call K n r ram t)
  stays other =
      of-call K n r ram t (Stays K n h r ram) (λ x er em. record { registers = λ j. registers_of h (er j); columns = λ j. columns_of K n h (em j) })
      (λ f. stays_by f (heard_by n (address_byte t)) (calls n (address_byte t)) other)
