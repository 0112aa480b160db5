-- A call in a walk, at the callee's theorem: the contract is taken apart once, here. What the callee says of its result is then said of local d, which holds it.
-- Assumes nothing: `Logic` and the `Tables` are arguments.
--     calls                            any callee. Behind the frame stand the tokens and what the parameters own; afterwards the tokens, and what is said of the last values
--     one_token, token_back            one lifetime's token, as the tokens of a callee, and back
--     two-tokens, tokens-back          two lifetimes'
use mathlib.Core.Path.{◌≡◌, refl, sym, ap, subst}
use mathlib.Core.List.{List, [], ◌∷◌}
use Prim.Native.Nat.{ℕ, zero}
use lib.Dec.{T}
use seplogic.Ra.Ura.{Ura}
use mir.Syntax.{Ty, Callee, Place, place, Opd as Operand, Body, seq, call}
use mir.Val.{Val, WT, has_ty}
use base.Logic.{SProp, ent, sep, emp, id⊢, via}
use base.Fml.{Lft, Share, ftrue, flft}
use prog.Wp.{Heap, Env, spot_of, Tables, Calls, Loops, next}
use types.Logic.{Logic}
use sound.WpLaws.{fm_of}
use contract.Monad.{fact}
use types.Kit.{Goal, Soaks, Item, ‵, raw, ◌⊛◌, some, later, ⋆, sel⊢, Post, prop, runs, lands, settles, post, Seq, Step, step, ◌$◌, ◌∵◌, !, qed, move, drop, use0, use1, use2, use3, split, join, pick, rewrite, frame as framing, await, done}
use types.Run.{Opds, Writes, stop, from, land, land_last}
use denote.RattleType.{owns}
use denote.Laws.{Is, shows}
use denote.Signature.{type_at, types_at}
use denote.Steps.{only, heard, peeks, nothing}
use denote.Triple.Entry.{Res, alive}
use denote.Triple.Bound.{Bound, passed}
use denote.Triple.Clauses.{Ended, Clauses, Lasts, lasts, at_exit, closing}
use denote.Triple.Spec.{triple_of, Meets}
use denote.Triple.Call.{calls_from, calls_from_last}
use Rattle.walks.proofs.Locals.{Cell, frame, Within, stored, stores}
use Rattle.walks.proofs.Data.{Data}

-- what follows a statement: the rest of its part, or nothing
pub data Tail : Type 0 where
  last : Tail
  then : Body → Tail

abbrev pub with : Body → Tail → Body
with b last = b
with b (then rest) = seq b rest

module _ {M : Type 1} {𝓤 : Ura M} {H : Heap 𝓤} (C : Calls 𝓤 H) (Λ : Loops 𝓤 H) (E : Env 𝓤 H) (q : Post 𝓤 H) where
  abbrev pub goes : Tail → Goal 𝓤 H
  goes last = prop (post 𝓤 H q next)
  goes (then rest) = runs C Λ E rest q

  abbrev landing : Place → Val → Tail → Goal 𝓤 H
  landing d w last = settles E d w q
  landing d w (then rest) = lands C Λ E d w rest q

  soaks : (d : Place) (w : Val) (u : Tail) → Soaks (landing d w u)
  soaks d w last = tt
  soaks d w (then rest) = tt

module _ {M : Type 1} {𝓤 : Ura M} {𝓛 : Logic 𝓤} {K : Type 0} {Γ : List (Item 𝓤)} {E : Env 𝓤 𝓛.H} where
  swapped : K → {i j : Item 𝓤} {xs : List Operand} {vs : List Val} → Opds K 𝓛 (i ∷ j ∷ Γ) E xs vs → Opds K 𝓛 (j ∷ i ∷ Γ) E xs vs
  swapped t {i} {j} os = record { go = λ Kt h. via 𝓤 _ (sel⊢ 𝓛 (1 ∷ []) (j ∷ i ∷ Γ)) (os.go Kt (via 𝓤 _ (sel⊢ 𝓛 (1 ∷ []) (i ∷ j ∷ Γ)) h)) }

module _ {M : Type 1} {𝓤 : Ura M} {𝓛 : Logic 𝓤} {K : Type 0} {Γ : List (Item 𝓤)} where
  open 𝓛 use {H}

  module _ (𝓣 : Tables 𝓤 H) (E : Env 𝓤 H) (q : Post 𝓤 H) where
    lands_in : K → (u : Tail) (d : ℕ) {w : Val} {Γ' : List (Item 𝓤)} → Writes K 𝓛 Γ (spot_of 𝓤 H E d).0 (spot_of 𝓤 H E d).1 zero w Γ' → Step K 𝓛 Γ' (goes 𝓣.C 𝓣.Λ E q u) Γ (landing 𝓣.C 𝓣.Λ E q (place d []) w u)
    lands_in t last d wr = land_last t (from t (stop t)) wr
    lands_in t (then rest) d wr = land t (from t (stop t)) wr

    calls-with : K → (u : Tail) {f : Callee} {xs : List Operand} (d : Place) (i : Item 𝓤) (vs : List Val) (Q : Val → SProp 𝓤) → ent 𝓤 (⋆ 𝓛 (i ∷ [])) (𝓣.C f vs Q) → Opds K 𝓛 (i ∷ Γ) E xs vs
        → ((w : Val) → Seq K 𝓛 (raw (Q w) ∷ Γ) (landing 𝓣.C 𝓣.Λ E q d w u)) → Seq K 𝓛 (i ∷ Γ) (runs 𝓣.C 𝓣.Λ E (with (call f xs d) u) q)
    calls-with t last d i vs Q met os k = calls_from_last t (fm_of 𝓤 H 𝓛.laws 𝓣) i vs Q met os k
    calls-with t (then rest) d i vs Q met os k = calls_from t (fm_of 𝓤 H 𝓛.laws 𝓣) i vs Q met os k

module _ {M : Type 1} {𝓤 : Ura M} {𝓛 : Logic 𝓤} {K : Type 0} {Γ : List (Item 𝓤)} {E : Env 𝓤 𝓛.H} {σ : List Cell} {q : Post 𝓤 𝓛.H} {f : Callee} {xs : List Operand} where
  open 𝓛 use {H}

  module _ (t : K) (u : Tail) (d : ℕ) (𝓣 : Tables 𝓤 H) (g : Ended) (cl : Clauses 𝓤 g) (met : Meets 𝓛 g.signature (𝓣.C f) (closing 𝓛 g cl)) where
    pub calls : (x : Bound 𝓛 g.signature) (gh : (cl x.0 x.3).ghost) → ent 𝓤 (emp 𝓤) ((cl x.0 x.3).requires gh)
        → Opds K 𝓛 (frame E σ ∷ (raw (alive 𝓛 g.signature x.0 x.1) ⊛ ‵ (owns (types_at g.signature.params x.0) x.3 x.4)) ∷ Γ) E xs (passed 𝓛 g.signature x)
        → (D : Data (type_at g.signature.result x.0)) → Within E σ d → (spot_of 𝓤 H E d).0 ≡ D.ty
        → (φ : Res g.signature x.0 → Lasts g x.0 x.3 → Type 0) → ((r : Res g.signature x.0) (ws : Lasts g x.0 x.3) → ent 𝓤 ((cl x.0 x.3).ensures gh r (at_exit g x.0 x.3 ws)) (fact 𝓤 (φ r ws)))
        → (y : Res g.signature x.0) → ((r : Res g.signature x.0) (ws : Lasts g x.0 x.3) → φ r ws → r ≡ y)
        → ((ws : Lasts g x.0 x.3) → φ y ws → Is (type_at g.signature.result x.0) y (D.val y ∷ [])
        → Seq K 𝓛 (frame E (stored σ d (D.val y)) ∷ raw (alive 𝓛 g.signature x.0 x.1) ∷ ‵ (lasts g x.0 x.3 ws) ∷ Γ) (goes 𝓣.C 𝓣.Λ E q u))
        → Seq K 𝓛 (frame E σ ∷ raw (alive 𝓛 g.signature x.0 x.1) ∷ ‵ (owns (types_at g.signature.params x.0) x.3 x.4) ∷ Γ) (runs 𝓣.C 𝓣.Λ E (with (call f xs (place d [])) u) q)
    calls x gh req os D in-it ty φ says y told k =
        move t (1 ∷ 2 ∷ []) $ join t $ calls-with 𝓣 E q t u (place d []) (raw (alive 𝓛 g.signature x.0 x.1) ⊛ ‵ (owns (types_at g.signature.params x.0) x.3 x.4)) (passed 𝓛 g.signature x) ((triple_of 𝓛 g.signature (closing 𝓛 g cl)).post (x, gh))
        (via 𝓤 ((triple_of 𝓛 g.signature (closing 𝓛 g cl)).pre (x, gh))
        (qed 𝓛 ((raw (alive 𝓛 g.signature x.0 x.1) ⊛ ‵ (owns (types_at g.signature.params x.0) x.3 x.4)) ∷ []) ∵ framing ! $ use0 𝓛 (raw ((cl x.0 x.3).requires gh)) req $ done !)
        (met (x, gh))) (swapped t os) (λ w.
        use1 𝓛 (later (some (λ (r : R'). (raw (alive 𝓛 g.signature x.0 x.1) ⊛ ‵ ((type_at g.signature.result x.0).own_val r (w ∷ [])))
        ⊛ some (λ (ws : Ws). ‵ (lasts g x.0 x.3 ws) ⊛ raw ((cl x.0 x.3).ensures gh r (at_exit g x.0 x.3 ws)))))) (id⊢ 𝓤 _) $
        await t (soaks 𝓣.C 𝓣.Λ E q (place d []) w u) $ pick t (λ r. split t $ move t (1 ∷ []) $ pick t (λ ws. split t $ move t (1 ∷ []) $
        -- [the ensures; the last values; the tokens and the result; the frame]
        use1 𝓛 (raw (fact 𝓤 (φ r ws))) (says r ws) $ heard t (φ r ws) (λ e. move t (1 ∷ []) $ split t $ move t (1 ∷ []) $
        rewrite t 0 (λ (z : R'). ‵ ((type_at g.signature.result x.0).own_val z (w ∷ []))) (told r ws e) refl $
        peeks t (type_at g.signature.result x.0) (Is (type_at g.signature.result x.0)) (shows 𝓛 (type_at g.signature.result x.0)) y (w ∷ []) (λ is. drop t $ move t (2 ∷ []) $
        lands_in 𝓣 E q t u d (stores t d in-it (typed_at w is)) $ rewrite t 0 (λ (v : Val). frame E (stored σ d v)) (ap only (D.tells y _ is)) refl $
        k ws (subst (λ (z : R'). φ z ws) (told r ws e) e) (subst (Is (type_at g.signature.result x.0) y) (D.tells y _ is) is))))))
      where
        R' : Type 0
        R' = Res g.signature x.0

        Ws : Type 0
        Ws = Lasts g x.0 x.3

        typed_at : (w : Val) → Is (type_at g.signature.result x.0) y (w ∷ []) → T (has_ty (spot_of 𝓤 H E d).0 w) × WT w
        typed_at w is = subst (λ (v : Val). T (has_ty (spot_of 𝓤 H E d).0 v) × WT v) (sym (ap only (D.tells y _ is)))
            (subst (λ (τ : Ty). T (has_ty τ (D.val y)) × WT (D.val y)) (sym ty) (D.typed 𝓛 y (subst (Is (type_at g.signature.result x.0) y) (D.tells y _ is) is)))

-- ---- a lifetime's token, as the tokens of a callee, and back
module _ {M : Type 1} {𝓤 : Ura M} {𝓛 : Logic 𝓤} {K : Type 0} {Γ : List (Item 𝓤)} {G : Goal 𝓤 𝓛.H} where
  open 𝓛 use {A}

  pub one_token : K → (κ : Lft) (s : Share) → Step K 𝓛 (raw (sep 𝓤 (A.lft κ s) (emp 𝓤)) ∷ Γ) G (‵ (flft κ s) ∷ Γ) G
  one_token t κ s = step (λ k. nothing t $ move t (1 ∷ 0 ∷ []) $ use2 𝓛 (raw (sep 𝓤 (A.lft κ s) (emp 𝓤))) (id⊢ 𝓤 _) $ k)

  pub token_back : K → (κ : Lft) (s : Share) → Step K 𝓛 (‵ (flft κ s) ∷ Γ) G (raw (sep 𝓤 (A.lft κ s) (emp 𝓤)) ∷ Γ) G
  token_back t κ s = step (λ k. use1 𝓛 (‵ (flft κ s) ⊛ ‵ ftrue) (id⊢ 𝓤 _) $ split t $ move t (1 ∷ []) $ drop t $ k)

  pub two_tokens : K → (κ κ₂ : Lft) (s s₂ : Share) → Step K 𝓛 (raw (sep 𝓤 (A.lft κ s) (sep 𝓤 (A.lft κ₂ s₂) (emp 𝓤))) ∷ Γ) G (‵ (flft κ s) ∷ ‵ (flft κ₂ s₂) ∷ Γ) G
  two_tokens t κ κ₂ s s₂ = step (λ k. nothing t $ move t (1 ∷ 2 ∷ 0 ∷ []) $ use3 𝓛 (raw (sep 𝓤 (A.lft κ s) (sep 𝓤 (A.lft κ₂ s₂) (emp 𝓤)))) (id⊢ 𝓤 _) $ k)

  pub tokens_back : K → (κ κ₂ : Lft) (s s₂ : Share) → Step K 𝓛 (‵ (flft κ s) ∷ ‵ (flft κ₂ s₂) ∷ Γ) G (raw (sep 𝓤 (A.lft κ s) (sep 𝓤 (A.lft κ₂ s₂) (emp 𝓤))) ∷ Γ) G
  tokens_back t κ κ₂ s s₂ = step (λ k. use1 𝓛 (‵ (flft κ s) ⊛ (‵ (flft κ₂ s₂) ⊛ ‵ ftrue)) (id⊢ 𝓤 _) $ split t $ move t (1 ∷ []) $ split t $ move t (1 ∷ []) $ drop t $ move t (1 ∷ []) $ k)
