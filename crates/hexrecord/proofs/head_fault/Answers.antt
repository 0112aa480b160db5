-- `hexrecord::head_fault` meets its contract: an end record's form, the sum, the type.
-- Assumes nothing.
use mathlib.Core.Path.{◌≡◌, refl, sym, ap, ◌∙◌}
use mathlib.Core.Bool.{Bool, true, false, cond, ◌&&◌, ◌||◌}
use mathlib.Core.List.{List}
use Prim.Native.Nat.{ℕ, ◌%◌}
use native.Mathlib.Omega.{arith}
use lib.Dec.{eqb, ltb}
use lib.ListN.{get_or}
use borrow.Author.Tests.{eq-eqb, ne_eqb}
use Rattle.image_sheet.specs.Hex.{sum_of}
use Rattle.image_sheet.specs.Images.{address_of, end_form, head_fault}
use Rattle.hexrecord.proofs.Faults.{end-form}
use Rattle.hexrecord.proofs.head_fault.Goals as goal

-- an end record's form, by the address that was read
formed : (bytes : List ℕ) (address : ℕ) (t : Bool) → address ≡ address_of bytes → (eqb (get_or bytes 3 0) 1 && (ltb 0 (get_or bytes 0 0) || ltb 0 address)) ≡ t → end_form bytes ≡ cond t false true
formed bytes address t a e = end-form (get_or bytes 3 0) (get_or bytes 0 0) (address_of bytes) t (ap (λ (k : ℕ). eqb (get_or bytes 3 0) 1 && (ltb 0 (get_or bytes 0 0) || ltb 0 k)) (sym a) ∙ e)

pub returns-then-kind-bytes : goal.returns-then-kind-bytes
unfolding head_fault
returns-then-kind-bytes c = rw (formed c.args.bytes.now c.address_of.result true c.address_of.ensures.0 c.if-kind-bytes.true) refl

pub returns-then-sum-gt0 : goal.returns-then-sum-gt0
unfolding head_fault
returns-then-sum-gt0 c = rw (formed c.args.bytes.now c.address_of.result false c.address_of.ensures.0 c.if-kind-bytes.false, ne_eqb (sum_of c.args.bytes.now % 256) 0 (omega (arith, c.sum.ensures, c.if-sum-gt0.true))) refl

pub returns : goal.returns
unfolding head_fault
returns c = rw (formed c.args.bytes.now c.address_of.result false c.address_of.ensures.0 c.if-kind-bytes.false, eq-eqb (sum_of c.args.bytes.now % 256) 0 (omega (arith, c.sum.ensures, c.if-sum-gt0.false))) c.unless.ensures
