-- `checks::address_byte` meets its contract: byte 0 of the whole bytes, which are the first so many.
-- Assumes nothing.
use mathlib.Core.Path.{sym, ap, subst, ◌∙◌}
use mathlib.Core.List.{List}
use Prim.Native.Nat.{ℕ, ◌≤◌}
use lib.ListN.{length, get_or, take}
use lib.Seq.{length-take-le}
use Rattle.laws.proofs.Wholes.{whole-most, whole-taken}
use Rattle.checks.proofs.address_byte.Goals as goal

pub slice_bounds-byte_at-end : goal.slice_bounds-byte_at-end
slice_bounds-byte_at-end c = sym (length-take-le _ _ (subst (λ (k : ℕ). k ≤ length c.args.bytes.now) (sym c.whole_count-whole.ensures) (whole-most (length c.args.bytes.now) c.args.bits)))

pub returns : goal.returns
returns c = let bytes = c.args.bytes.now in
    c.byte_at.ensures ∙ ap (λ (k : ℕ). get_or (take k bytes) 0 0) c.whole_count-whole.ensures ∙ ap (λ (l : List ℕ). get_or l 0 0) (whole-taken bytes c.args.bits)
