-- What is said of a transfer to one group, in numbers; and what the commands that open it and what is left of it make of its twelve bytes.
-- Assumes nothing.
use mathlib.Core.Path.{◌≡◌, refl, sym, ap, ◌∙◌}
use mathlib.Core.Bool.{Bool, true, false, cond, ◌&&◌}
use mathlib.Core.List.{List}
use Prim.Native.Nat.{ℕ, ◌≤◌}
use lib.ListN.{length, get_or, drop, drop_of_length-le}
use Rattle.std.specs.Prelude.{Err, None, Ok}
use Rattle.sheet.specs.Results.{Answer, Check}
use Rattle.sheet.specs.declared.Expect.TheVariants.{Control}
use Rattle.sheet.specs.declared.Chips.{Chips}
use Rattle.sheet.specs.declared.Refusal.{Refusal}
use Rattle.sheet.specs.declared.Refusal.TheVariants.{UnknownPlace}
use Rattle.sheet.specs.Parts.{Part}
use Rattle.sheet.specs.Refusals.{numbers}
use Rattle.sheet.specs.Registers.{known, lost_by}
use Rattle.sheet.specs.Protocol.{Sent, cut, whole_of}
use Rattle.sheet.specs.Checks.{unless, or_else, fault_in}
use Rattle.sheet.specs.Long.{heard, columns_of, with_columns}
use Rattle.laws.proofs.CutLong.{put_back}
use Rattle.opening.specs.Opened.{Opening, opened_at}
use Rattle.opening.proofs.Openings.{Opens}
use Rattle.long.specs.Heard.{heard_in_ram}
use Rattle.wire.specs.Bytes.{registers_in}
use Rattle.lent_group.specs.Sets.{SetAfter, SetCalled, heard_set, set_to, numbered_set}

-- ---- what is said, in numbers

pub said_of : (K : Part) {a b : Answer} {r : ℕ} {answer : List ℕ} → (r ≡ get_or (numbers K a) 0 0) × (answer ≡ numbers K a) → a ≡ b → (r ≡ get_or (numbers K b) 0 0) × (answer ≡ numbers K b)
said_of K p e = (p.0 ∙ ap (λ (k : Answer). get_or (numbers K k) 0 0) e, p.1 ∙ ap (numbers K) e)

pub said-numbers : (K : Part) (a after : SetAfter) {r : ℕ} {answer : List ℕ} → (r ≡ get_or (numbers K a.answer) 0 0) × (answer ≡ numbers K a.answer) → a ≡ after
    → ◌≡◌ {A = SetCalled} (record { number = r; set = a.set; buffer = a.ram; answer = answer }) (numbered_set K after)
said-numbers K a after p e = ◌∙◌ {A = SetCalled} (λ j. record { number = p.0 j; set = a.set; buffer = a.ram; answer = p.1 j }) (ap (numbered_set K) e)

-- ---- the commands that open the transfer, and what is left

module _ (K : Part) (n : Chips) (g : ℕ) (before ram : List ℕ) (t : Sent) (o : Opening) (h : Opens K (registers_in before) t o) where
  abbrev looked : Check → Check
  looked k = or_else k (fault_in K (cut t) o.registers.unknown Control o.at (drop o.at (whole_of t)))

  -- a command that is undefined refuses it, and the twelve bytes are taken back
  pub opening-refused : (x : Refusal) → o.fault ≡ Err x → record { answer = Err x; set = before; ram = ram } ≡ set_to K n g before ram t
  opening-refused x e = rw (h.fault ∙ ap looked e)

  -- else so does a fault of what is left
  pub rest-refused : (x : Refusal) → o.fault ≡ Ok tt → fault_in K (cut t) o.registers.unknown Control o.at (drop o.at (whole_of t)) ≡ Err x
      → record { answer = Err x; set = before; ram = ram } ≡ set_to K n g before ram t
  rest-refused x e f = rw (h.fault ∙ ap looked e ∙ f)

  -- and without one, what the group is after what is left, it is after the transfer
  pub rest-heard : o.fault ≡ Ok tt → fault_in K (cut t) o.registers.unknown Control o.at (drop o.at (whole_of t)) ≡ Ok tt
      → heard_set (heard_in_ram K n g o.registers ram t o.at) ≡ set_to K n g before ram t
  rest-heard e f =
      rw (h.fault ∙ ap looked e ∙ f)
      (λ j. let k = h.group (columns_of K n g ram) j in heard_set (record { registers = k.registers; ram = with_columns K n g k.ram ram; counts = k.counts; last = k.last }))

  module _ (all : length (whole_of t) ≤ o.at) where
    -- nothing is left to be at fault
    pub none-looked : fault_in K (cut t) o.registers.unknown Control o.at (drop o.at (whole_of t)) ≡ Ok tt
    unfolding fault_in
    none-looked = rw (drop_of_length-le (whole_of t) all) (go (cut t))
      where
        go : (b : Bool) → cond (b && false) (unless (known o.registers.unknown) (UnknownPlace o.at)) (Ok tt) ≡ Ok tt
        go true = refl
        go false = refl

    -- and nothing to be heard
    pub none-heard : opened_at o.at o.registers ram ≡ heard_in_ram K n g o.registers ram t o.at
    unfolding heard
    none-heard = rw (drop_of_length-le (whole_of t) all) (go (cut t))
      where
        go : (b : Bool) → opened_at o.at o.registers ram ≡ record { registers = lost_by (b && false) o.registers; ram = with_columns K n g (columns_of K n g ram) ram; counts = record { acknowledged = o.at; stored = 0; discarded = 0 }; last = None }
        go true = λ j. opened_at o.at o.registers (sym (put_back K n g ram) j)
        go false = λ j. opened_at o.at o.registers (sym (put_back K n g ram) j)
