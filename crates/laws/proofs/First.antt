-- A check that comes first: what a call answers to two checks, one after the other, is what it answers to both as one.
-- Assumes nothing.
use mathlib.Core.Path.{◌≡◌, refl, sym, ap, subst, ◌∙◌}
use mathlib.Core.List.{List}
use Prim.Native.Nat.{ℕ}
use lib.Dec.{T}
use Rattle.sheet.specs.declared.Both.{Both}
use Rattle.sheet.specs.declared.Chip.{Chip}
use Rattle.sheet.specs.declared.Refusal.{Refusal}
use Rattle.std.specs.Prelude.{Err, Ok}
use Rattle.sheet.specs.Results.{Check}
use Rattle.sheet.specs.Checks.{or_else, passed}
use Rattle.sheet.specs.Pictures.{Seen, seen_by}
use Rattle.sheet.specs.Long.{After, answered}
use Rattle.sheet.specs.Plain.{PlainAfter, plain_answered}

pub or-else : (a b c : Check) → or_else a (or_else b c) ≡ or_else (or_else a b) c
or-else (Ok _) b c = refl
or-else (Err r) b c = refl

-- the two refuse, or what comes after them decides
-- a last check that passes refuses nothing
pub or-passed : (a : Check) → or_else a (Ok tt) ≡ a
or-passed (Ok _) = refl
or-passed (Err r) = refl

pub then-refused : (a b c : Check) (r : Refusal) → or_else a b ≡ Err r → Err r ≡ or_else a (or_else b c)
then-refused (Ok _) b c r e = rw e
then-refused (Err x) b c r e = sym e

pub then-passed : (a b c d : Check) → or_else a b ≡ Ok tt → d ≡ c → d ≡ or_else a (or_else b c)
then-passed (Ok _) b c d e f = rw e f
then-passed (Err x) b c d e f = absurd (subst (λ (k : Check). T (passed k)) (sym e) tt)

-- the same of three
pub three-refused : (a b c d : Check) (r : Refusal) → or_else a (or_else b c) ≡ Err r → Err r ≡ or_else a (or_else b (or_else c d))
three-refused a b c d r e = then-refused a (or_else b c) d r e ∙ ap (or_else a) (sym (or-else b c d))

pub three-passed : (a b c d e : Check) → or_else a (or_else b c) ≡ Ok tt → e ≡ d → e ≡ or_else a (or_else b (or_else c d))
three-passed a b c d e p f = then-passed a (or_else b c) d e p f ∙ ap (or_else a) (sym (or-else b c d))

pub answered-first : (a b : Check) (r : Both) (ram : List ℕ) (s : After) → answered a r ram (answered b r ram s) ≡ answered (or_else a b) r ram s
answered-first (Ok _) b r ram s = refl
answered-first (Err x) b r ram s = refl

pub seen_first : (a b : Check) (s : Seen) (out : List ℕ) → seen_by a (seen_by b s out) out ≡ seen_by (or_else a b) s out
seen_first (Ok _) b s out = refl
seen_first (Err r) b s out = refl

pub plain-first : (a b : Check) (cs : List Chip) (s : PlainAfter) → plain_answered a cs (plain_answered b cs s) ≡ plain_answered (or_else a b) cs s
plain-first (Ok _) b cs s = refl
plain-first (Err r) b cs s = refl
