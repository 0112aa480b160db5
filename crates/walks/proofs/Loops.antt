-- A loop in a walk: `while .. { .. }`, behind which straight code returns. A turn begins in some state x: `At x` is the context there, and `Fact x` what is known. A measure of the state falls with each turn.
-- Assumes nothing: `Logic` and the `Tables` are arguments.
--     turned                  the loop and what follows it, from a turn in any state
--     goes_on                 the test at the head of a turn: the turn goes on, or the loop is left and what follows runs
--     next-turn               a turn ends in the state y
--     tests, returned         a test in a turn whose one arm returns
use mathlib.Core.Path.{◌≡◌, refl}
use mathlib.Core.Bool.{Bool, not}
use mathlib.Core.WellFounded.InvImage
use mathlib.Core.List.{List, ◌∷◌}
use Prim.Native.Nat.{ℕ, ◌<◌}
use lib.Dec.{T}
use lib.WfN.{lt-wf_rel}
use seplogic.Ra.Ura.{Ura}
use mir.Syntax.{Opd as Operand, Body, seq, block, loop, cond, skip, exit}
use mir.Val.{Val, vbool}
use base.Logic.{SProp, emp, guard_i}
use base.Fml.{ftrue}
use prog.Wp.{Heap, Env, Calls, Loops, Tables, Wp, next, returns, after_seq, after_block, after_turn, at_return}
use types.Logic.{Logic}
use types.Kit.{Item, ‵, given, Post, prop, runs, any_q, at_ret, post as post-of, Seq, ◌$◌, learn, drop, use0}
use types.Run.{Opd, first, skips, jumps, branches, blocks, loops, again, Below, exec}

pub record Loop {M : Type 1} (𝓤 : Ura M) (H : Heap 𝓤) : Type 2 where
  pub frame : Env 𝓤 H
  pub turn : Body
  pub rest : Body
  pub post : Val → SProp 𝓤
  pub State : Type 0
  pub measure : State → ℕ
  pub Fact : State → Type 0
  pub At : State → List (Item 𝓤)

-- `if .. { .. }`, where the arm returns and what follows it runs otherwise
pub tests : {M : Type 1} {𝓤 : Ura M} {𝓛 : Logic 𝓤} {K : Type 0} {Γ : List (Item 𝓤)} {C : Calls 𝓤 𝓛.H} {Λ : Loops 𝓤 𝓛.H} {E : Env 𝓤 𝓛.H} {q : Post 𝓤 𝓛.H} → K → {c : Operand} {y : Bool} {a b : Body} → Opd K 𝓛 Γ E c (vbool y)
    → (T y → Seq K 𝓛 Γ (runs C Λ E a (any_q (after_seq 𝓤 𝓛.H (Wp 𝓤 𝓛.H C Λ E b (post-of 𝓤 𝓛.H q)) (post-of 𝓤 𝓛.H q))))) → (T (not y) → Seq K 𝓛 Γ (runs C Λ E b q)) → Seq K 𝓛 Γ (runs C Λ E (seq (cond c a skip) b) q)
tests {C = C} {Λ = Λ} {E = E} {q = q} t {b = b} test on off = first t $ branches t test on (λ h. skips t $ exec t C Λ E b q $ off h)

module _ {M : Type 1} {𝓤 : Ura M} (𝓛 : Logic 𝓤) (𝓣 : Tables 𝓤 𝓛.H) (o : Loop 𝓤 𝓛.H) where
  open 𝓛 use {H}

  abbrev Inv : o.State → List (Item 𝓤)
  Inv x = given (o.Fact x) (‵ ftrue) ∷ o.At x

  abbrev less : o.State → o.State → Type 0
  less y x = o.measure y < o.measure x

  abbrev Left : Post 𝓤 H
  Left = any_q (after_block 𝓤 H (after_seq 𝓤 H (Wp 𝓤 H 𝓣.C 𝓣.Λ o.frame o.rest (at_return 𝓤 H o.frame o.post)) (at_return 𝓤 H o.frame o.post)))

  -- what is to hold where the turn from x ends
  abbrev pub Turned : o.State → Post 𝓤 H
  Turned x = any_q (after_turn 𝓤 H (Below 𝓛 less Inv x) (post-of 𝓤 H Left))

  module _ {K : Type 0} (t : K) where
    pub turned : ((x : o.State) → o.Fact x → Seq K 𝓛 (o.At x) (runs 𝓣.C 𝓣.Λ o.frame o.turn (Turned x))) → (x : o.State) → o.Fact x → Seq K 𝓛 (o.At x) (runs 𝓣.C 𝓣.Λ o.frame (seq (block (loop o.turn)) o.rest) (at_ret o.frame o.post))
    turned each x f = use0 𝓛 (given (o.Fact x) (‵ ftrue)) (guard_i 𝓤 (o.Fact x) (emp 𝓤) f) $ first t $ blocks t $
        loops t 𝓣 less (InvImage.wf o.measure lt-wf_rel.wf) Inv (λ y. learn t (λ p. drop t $ each y p)) x

    module _ (x : o.State) where
      pub goes_on : {Γ : List (Item 𝓤)} {c : Operand} {y : Bool} {b : Body} → Opd K 𝓛 Γ o.frame c (vbool y)
          → (T y → Seq K 𝓛 Γ (runs 𝓣.C 𝓣.Λ o.frame b (Turned x))) → (T (not y) → Seq K 𝓛 Γ (runs 𝓣.C 𝓣.Λ o.frame o.rest (at_ret o.frame o.post)))
          → Seq K 𝓛 Γ (runs 𝓣.C 𝓣.Λ o.frame (seq (cond c skip (exit 1)) b) (Turned x))
      unfolding after_turn
      goes_on {b = b} test on off = first t $ branches t test (λ h. skips t $ exec t 𝓣.C 𝓣.Λ o.frame b (Turned x) $ on h) (λ h. jumps t $ exec t 𝓣.C 𝓣.Λ o.frame o.rest (at_ret o.frame o.post) $ off h)

      pub next-turn : (y : o.State) → o.measure y < o.measure x → o.Fact y → Seq K 𝓛 (o.At y) (prop (post-of 𝓤 H (Turned x) next))
      unfolding after_turn
      next-turn y l f = use0 𝓛 (given (o.Fact y) (‵ ftrue)) (guard_i 𝓤 (o.Fact y) (emp 𝓤) f) $ again t less Inv x y l

  -- for `leaves`, of a `return` in the turn
  pub returned : (x : o.State) → post-of 𝓤 H (Turned x) returns ≡ at_return 𝓤 H o.frame o.post returns
  unfolding after_turn
  returned x = refl
