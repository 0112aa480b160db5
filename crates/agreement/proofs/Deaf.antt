-- Chips that do not hear an address: they keep all and acknowledge nothing.
-- Assumes nothing.
use mathlib.Core.Path.{◌≡◌, refl, sym, ap, ◌∙◌}
use mathlib.Core.Bool.{Bool, false, cond, ◌&&◌, ◌||◌, or_assoc}
use mathlib.Core.List.{List, [], ◌∷◌, ◌++◌, map, append-nil}
use Prim.Native.Nat.{ℕ}
use Rattle.lemmas.proofs.Tests.{either_false}
use Rattle.sheet.specs.declared.Chip.{Chip}
use Rattle.sheet.specs.Results.{Acknowledger}
use Rattle.sheet.specs.Plain.{any, hears, lower, smallest}

pub any_join : (f : Chip → Bool) (a b : List Chip) → any f (a ++ b) ≡ (any f a || any f b)
any_join f [] b = refl
any_join f (c ∷ cs) b = rw (any_join f cs b) (sym (or_assoc (f c) (any f cs) (any f b)))

abbrev pub Deaf : ℕ → List Chip → Type 0
Deaf address cs = any (hears address) cs ≡ false

-- they keep all
pub deaf_keep : (address : ℕ) (f : Chip → Chip) (cs : List Chip) → Deaf address cs → map (λ c. cond (hears address c) (f c) c) cs ≡ cs
deaf_keep address f [] h = refl
deaf_keep address f (c ∷ cs) h =
    let d = either_false (hears address c) (any (hears address) cs) h in
    rw d.0 (ap (λ (r : List Chip). c ∷ r) (deaf_keep address f cs d.1))

-- and say nothing
pub deaf_any : (address : ℕ) (f : Chip → Bool) (cs : List Chip) → Deaf address cs → any (λ c. hears address c && f c) cs ≡ false
deaf_any address f [] h = refl
deaf_any address f (c ∷ cs) h =
    let d = either_false (hears address c) (any (hears address) cs) h in
    rw d.0 (deaf_any address f cs d.1)

-- and acknowledge nothing, before other chips
silent : (address : ℕ) (f : Chip → Bool) (deaf cs : List Chip) → Deaf address deaf → smallest (λ c. hears address c && f c) (deaf ++ cs) ≡ smallest (λ c. hears address c && f c) cs
unfolding smallest
silent address f [] cs h = refl
silent address f (c ∷ deaf) cs h =
    let d = either_false (hears address c) (any (hears address) deaf) h in
    rw d.0 (silent address f deaf cs d.1)

-- and after them
silent-after : (address : ℕ) (f : Chip → Bool) (cs deaf : List Chip) → Deaf address deaf → smallest (λ c. hears address c && f c) (cs ++ deaf) ≡ smallest (λ c. hears address c && f c) cs
unfolding smallest
silent-after address f [] deaf h = ap (smallest (λ c. hears address c && f c)) (sym (append-nil deaf)) ∙ silent address f deaf [] h
silent-after address f (c ∷ cs) deaf h = ap (λ (who : Acknowledger). cond (hears address c && f c) (lower c.subaddress who) who) (silent-after address f cs deaf h)

-- so a byte is acknowledged by the chips between them
pub deaf_around : (address : ℕ) (f : Chip → Bool) (before cs after : List Chip) → Deaf address before → Deaf address after
    → smallest (λ c. hears address c && f c) (before ++ (cs ++ after)) ≡ smallest (λ c. hears address c && f c) cs
deaf_around address f before cs after hb ha = silent address f before (cs ++ after) hb ∙ silent-after address f cs after ha
