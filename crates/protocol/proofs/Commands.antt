-- A run of commands: its only fault is a byte that is none, and bytes that all are commands can be passed over.
-- Assumes nothing.
use mathlib.Core.Path.{◌≡◌, refl, sym, ap, ◌∙◌}
use mathlib.Core.List.{List, [], ◌∷◌, ◌++◌}
use mathlib.Core.Bool.{Bool, true, false, cond, ◌&&◌, false≢true}
use Prim.Native.Nat.{ℕ, suc, ◌+◌, ◌≤◌, ◌<◌}
use native.Mathlib.Nat.{add-zero}
use native.Mathlib.Numerals.{add-one}
use native.Mathlib.Omega.{arith}
use lib.ListN.{length, get_or, take, drop, drop_of_length-le, length-drop, take-append-drop}
use lib.Seq.{drop-drop, length-take-le}
use Rattle.lemmas.proofs.Lists.{next}
use Rattle.lemmas.proofs.Tests.{both_true}
use Rattle.sheet.specs.declared.Marks.{Marks}
use Rattle.sheet.specs.declared.Kind.{Kind}
use Rattle.sheet.specs.declared.Expect.{Expect}
use Rattle.sheet.specs.declared.Expect.TheVariants.{Control, One, All}
use Rattle.sheet.specs.declared.Refusal.TheVariants.{UndefinedCommand}
use Rattle.std.specs.Prelude.{Err, Ok}
use Rattle.sheet.specs.Results.{Check}
use Rattle.sheet.specs.Parts.{Part}
use Rattle.sheet.specs.Commands.{defined, restored}
use Rattle.sheet.specs.Checks.{unless, or_else, fault_in}
use Rattle.protocol.specs.Left.{only_left, undefined_in, all_defined}

-- by whether it is one
either : (t : Bool) (i : ℕ) (k : Check) → or_else (unless t (UndefinedCommand i)) k ≡ cond t k (Err (UndefinedCommand i))
either true i k = refl
either false i k = refl

-- what is cut is no data
no_data : (cut : Bool) (k : Check) → cond (cut && false) k (Ok tt) ≡ Ok tt
no_data true k = refl
no_data false k = refl

all-commands : (K : Part) (cut : Bool) (u : Marks) (i : ℕ) (xs : List ℕ) → fault_in K cut u (All Kind.Command) i xs ≡ undefined_in K i xs
unfolding fault_in undefined_in
all-commands K cut u i [] = no_data cut _
all-commands K cut u i (x ∷ xs) =
    either (defined (K.command x)) i _
    ∙ ap (λ (k : Check). cond (defined (K.command x)) k (Err (UndefinedCommand i))) (all-commands K cut (restored (K.command x) u) (suc i) xs)

pub in_commands : (K : Part) (cut : Bool) (u : Marks) (e : Expect) (i : ℕ) (xs : List ℕ) → only_left false e ≡ true → fault_in K cut u e i xs ≡ undefined_in K i xs
in_commands K cut u Control i xs t = absurd (false≢true t)
in_commands K cut u (One kind) i xs t = absurd (false≢true t)
in_commands K cut u (All Kind.Command) i xs t = all-commands K cut u i xs
in_commands K cut u (All Kind.Data) i xs t = absurd (false≢true t)

-- ---- byte by byte

module _ (K : Part) (bytes : List ℕ) (i : ℕ) (h : i < length bytes) where
  pub all-next : all_defined K (drop i bytes) ≡ (defined (K.command (get_or bytes i 0)) && all_defined K (drop (i + 1) bytes))
  unfolding all_defined
  all-next = rw (next bytes i h)

  pub one-undefined : defined (K.command (get_or bytes i 0)) ≡ false → undefined_in K i (drop i bytes) ≡ Err (UndefinedCommand i)
  unfolding undefined_in
  one-undefined e = rw (next bytes i h, e)

  pub one-defined : defined (K.command (get_or bytes i 0)) ≡ true → undefined_in K i (drop i bytes) ≡ undefined_in K (i + 1) (drop (i + 1) bytes)
  unfolding undefined_in
  one-defined e = rw (next bytes i h, e, add-one i)

pub none-undefined : (K : Part) (bytes : List ℕ) (i : ℕ) → length bytes ≤ i → undefined_in K i (drop i bytes) ≡ Ok tt
unfolding undefined_in
none-undefined K bytes i h = rw (drop_of_length-le bytes h)

pub all-of-none : (K : Part) (bytes : List ℕ) (i : ℕ) → length bytes ≤ i → all_defined K (drop i bytes) ≡ true
unfolding all_defined
all-of-none K bytes i h = rw (drop_of_length-le bytes h)

-- ---- many at once

passed_over : (K : Part) (i : ℕ) (xs ys : List ℕ) → all_defined K xs ≡ true → undefined_in K i (xs ++ ys) ≡ undefined_in K (i + length xs) ys
unfolding undefined_in all_defined
passed_over K i [] ys e = rw (add-zero i)
passed_over K i (x ∷ xs) ys e =
    let both = both_true (defined (K.command x)) (all_defined K xs) e in
    rw both.0 (passed_over K (suc i) xs ys both.1 ∙ ap (λ (n : ℕ). undefined_in K n ys) (omega arith))

pub block_passed : (K : Part) (bytes : List ℕ) (i n : ℕ) → i + n ≤ length bytes → all_defined K (take n (drop i bytes)) ≡ true
    → undefined_in K (i + n) (drop (i + n) bytes) ≡ undefined_in K i (drop i bytes)
block_passed K bytes i n h e =
    let long : length (take n (drop i bytes)) ≡ n = length-take-le n (drop i bytes) (omega (arith, length-drop i bytes)) in
    sym (ap (undefined_in K i) (sym (take-append-drop n (drop i bytes)))
    ∙ passed_over K i (take n (drop i bytes)) (drop n (drop i bytes)) e
    ∙ ap (λ (k : ℕ). undefined_in K (i + k) (drop n (drop i bytes))) long
    ∙ ap (undefined_in K (i + n)) (drop-drop n i bytes))
