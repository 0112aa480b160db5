-- `checks::search_over` meets its contract: of what is left after the blocks the first is the first of all.
-- Assumes nothing.
use mathlib.Core.Path.{◌≡◌, refl, ap, sym, ◌∙◌}
use mathlib.Core.Bool.{cond, not}
use mathlib.Core.List.{List}
use Prim.Native.Nat.{ℕ, ◌-◌, ◌≤◌}
use native.Mathlib.Omega.{arith}
use lib.Dec.{ltb}
use lib.ListN.{length, drop, take, length-drop}
use Rattle.std.specs.List.{position, position_or_len}
use Rattle.std.specs.Option.{unwrap_or}
use Rattle.std.proofs.Common.{Some, None}
use Rattle.std.proofs.lemmas.List.{take_all}
use Rattle.std.proofs.lemmas.List.Recursion.{is_position_or_len}
use Rattle.std.proofs.lemmas.List.Sums.{prefix_len-le-length}
use Rattle.checks.specs.Highest.{first_over}
use Rattle.checks.proofs.search_over.Goals as goal

same : (l : List ℕ) → first_over l ≡ position_or_len (λ q. ltb 15 q) l
unfolding first_over
same l = is_position_or_len first_over (λ q. ltb 15 q) refl (λ q qs. grind arith) l

size : (l : List ℕ) → first_over l ≤ length l
size l = omega (arith, same l, prefix_len-le-length (λ q. not (ltb 15 q)) l)

placed : (p n : ℕ) → p ≤ n → unwrap_or (cond (ltb p n) (Some p) None) n ≡ p
placed p n h = grind arith

found : (l : List ℕ) → unwrap_or (position (λ q. ltb 15 q) l) (length l) ≡ first_over l
found l = placed (position_or_len (λ q. ltb 15 q) l) (length l) (prefix_len-le-length (λ q. not (ltb 15 q)) l) ∙ sym (same l)

-- of this call
in-rest : (c : goal.After-unwrap_or) → c.unwrap_or.result ≡ first_over (drop c.blocks_passed-passed.result c.args.columns.now)
in-rest c = let columns = c.args.columns.now in
    let passed = c.blocks_passed-passed.result in
    let rest : List ℕ = take (length columns - passed) (drop passed columns) in
    c.unwrap_or.ensures ∙ ap (λ o. unwrap_or o (length rest)) c.column_over.ensures ∙ found rest
    ∙ ap first_over (take_all (length columns - passed) (drop passed columns) (omega (arith, length-drop passed columns)))

pub overflow_add-result : goal.overflow_add-result
overflow_add-result c = omega (arith, in-rest c, c.blocks_passed-passed.ensures.0, size c.args.columns.now)

pub returns : goal.returns
returns c = omega (arith, in-rest c, c.blocks_passed-passed.ensures.0)
