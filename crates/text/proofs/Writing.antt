-- Text written part by part is the text written at once.
-- Assumes nothing.
use mathlib.Core.Path.{◌≡◌, refl, sym, ap, subst, ◌∙◌}
use mathlib.Core.List.{List, [], ◌∷◌, ◌++◌}
use Prim.Native.Nat.{ℕ, suc, ◌+◌, ◌≤◌}
use native.Mathlib.Nat.{add-zero, zero-add}
use native.Mathlib.Omega.{arith}
use lib.ListN.{length, set, drop, length-append}
use lib.Seq.{sets, sets-eq, length-sets}
use Rattle.text.specs.Texts.{written, Puts}

-- a text after another
joined : (at end : ℕ) (text more out : List ℕ) → end ≡ at + length text → written end more (written at text out) ≡ written at (text ++ more) out
unfolding written
joined at end [] more out e = ap (λ (k : ℕ). sets out k more) (e ∙ add-zero at)
joined at end (x ∷ xs) more out e = joined (suc at) end xs more (set out at x) (omega (arith, e))

-- a writer keeps the buffer's length
pub puts-length : {at end : ℕ} {text before after : List ℕ} → Puts at text before after end → length after ≡ length before
unfolding written
puts-length {at} {end} {text} {before} p = ap length p.out ∙ length-sets before at text

-- one byte
pub puts-byte : (at byte : ℕ) (out : List ℕ) → Puts at (byte ∷ []) out (set out at byte) (at + 1)
unfolding written
puts-byte at byte out = record { out = refl; place = refl }

-- and none
pub puts-nothing : (at : ℕ) (out : List ℕ) → Puts at [] out out at
unfolding written
puts-nothing at out = record { out = refl; place = sym (add-zero at) }

-- at the start of a buffer
pub at-start : (text out : List ℕ) → length text ≤ length out → written 0 text out ≡ text ++ drop (length text) out
unfolding written
at-start text out h = sets-eq text out 0 (omega arith) ∙ ap (λ (k : ℕ). text ++ drop k out) (zero-add (length text))

-- ---- while a text is written: writing the rest of it from here on gives the whole, and there is room for it

pub record Writing (at₀ : ℕ) (whole out₀ : List ℕ) (at : ℕ) (rest out : List ℕ) : Type 0 where
  pub same : written at rest out ≡ written at₀ whole out₀
  pub ends : at + length rest ≡ at₀ + length whole
  pub room : at + length rest ≤ length out

-- at the start all is left
pub begin : (at : ℕ) (whole out : List ℕ) → at + length whole ≤ length out → Writing at whole out at whole out
begin at whole out h = record { same = refl; ends = refl; room = h }

module _ {at₀ : ℕ} {whole out₀ : List ℕ} {at : ℕ} {out : List ℕ} where
  -- the rest in another form
  pub rest-is : {rest other : List ℕ} → Writing at₀ whole out₀ at rest out → rest ≡ other → Writing at₀ whole out₀ at other out
  rest-is w e = subst (λ (l : List ℕ). Writing at₀ whole out₀ at l out) e w

  -- there is room for the next part
  pub room_for : (text rest : List ℕ) → Writing at₀ whole out₀ at (text ++ rest) out → at + length text ≤ length out
  room_for text rest w = omega (arith, length-append text rest)

  -- a part more
  pub turn : {text rest after : List ℕ} {end : ℕ} → Writing at₀ whole out₀ at (text ++ rest) out → Puts at text out after end → Writing at₀ whole out₀ end rest after
  turn {text} {rest} {after} {end} w p = record {
    same = ap (written end rest) p.out ∙ joined at end text rest out p.place ∙ w.same;
    ends = omega (arith, length-append text rest);
    room = omega (arith, length-append text rest, puts-length p);
  }

  -- the last part
  pub last : {text after : List ℕ} {end : ℕ} → Writing at₀ whole out₀ at text out → Puts at text out after end → Puts at₀ whole out₀ after end
  last w p = record { out = p.out ∙ w.same; place = p.place ∙ w.ends }

  -- nothing is left
  pub done : Writing at₀ whole out₀ at [] out → Puts at₀ whole out₀ out at
  done w = last w (puts-nothing at out)
