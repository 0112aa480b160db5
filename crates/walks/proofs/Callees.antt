-- A call in a walk, by what the callee takes: plain data, or slices and then plain data. R is the type of a slice's elements, ps are the slots of the data, Q is the type of the result and y its value.
-- Assumes nothing: `Logic` and the `Tables` are arguments.
--     calls-plain                      data alone
--     calls-showing, calls-lending     a `&[R]` or a `&mut [R]` of the walk's row
--     calls-passing                    a `&[R]` that the walk itself was lent
--     calls-lending-passing            a `&mut [R]` of the row, and a `&[R₂]` that the walk itself was lent
use mathlib.Core.Path.{◌≡◌, subst}
use mathlib.Core.List.{List, [], ◌∷◌}
use Prim.Native.Nat.{ℕ}
use lib.ListN.{length}
use seplogic.Ra.Ura.{Ura}
use base.Fraction.{full_share}
use mir.Syntax.{Callee, named, place, Opd as Operand, Body, seq, call}
use mir.Val.{Val}
use base.Logic.{ent, sep, emp, id⊢, fst∗, snd∗}
use base.Fml.{Lft, Share, GName, Fml}
use prog.Wp.{Env, spot_of, Tables}
use types.Logic.{Logic}
use contract.Lifetimes.{Lfts}
use contract.Monad.{fact, fact_i, fact_use}
use types.Kit.{Item, ‵, raw, ◌⊛◌, Goal, Post, runs, Seq, Step, ◌$◌, move, drop, split, join, use0, use1, fsplit, fjoin, feq_l}
use types.Run.{Opds}
use denote.RattleType.{RattleType, RowLaws, Denots, Valss, flat, owns}
use denote.Laws.{Is, Ises, Are, owns_make}
use denote.Copied.{Copied}
use denote.Exit.{yes}
use denote.Slice.{slice_val, shr_slice_vals, ShrSlice, Room, shr_slice_copy}
use denote.Index.{row}
use denote.Signature.{Slot, plain, mut_slice, shr_slice, types_at}
use denote.Triple.End.{all}
use denote.Triple.Clauses.{Ended, Clauses, Lasts, at_exit, closing}
use denote.Triple.Entry.{Args, Res}
use denote.Triple.Spec.{Meets}
use Rattle.walks.proofs.Locals.{Cell, frame, Within, stored}
use Rattle.walks.proofs.Data.{Data, Datas, vals_of, makess}
use Rattle.walks.proofs.Slices.{slice, view, shared, lends, lent_back, shows, shown-back}
use Rattle.walks.proofs.Calls.{Tail, then, with, goes, calls, one_token, token_back, two_tokens, tokens_back}

-- ---- the functions, by their parameters: n lifetimes, and ps the slots of plain data
abbrev pub of-data : List (Slot 0) → RattleType → Ended
of-data ps Q = record { signature = record { lifetimes = 0; outlives = []; params = ps; result = plain (λ _. Q) }; kept = all yes ps }

abbrev pub of-shared : RattleType → List (Slot 1) → RattleType → Ended
of-shared R ps Q = record { signature = record { lifetimes = 1; outlives = []; params = shr_slice 0 tt (λ _. R) ∷ ps; result = plain (λ _. Q) }; kept = (yes, all yes ps) }

abbrev pub of_mut : RattleType → List (Slot 1) → RattleType → Ended
of_mut R ps Q = record { signature = record { lifetimes = 1; outlives = []; params = mut_slice 0 tt (λ _. R) ∷ ps; result = plain (λ _. Q) }; kept = (yes, all yes ps) }

abbrev pub of_mut_shared : RattleType → RattleType → List (Slot 2) → RattleType → Ended
of_mut_shared R R₂ ps Q = record { signature = record { lifetimes = 2; outlives = []; params = mut_slice 0 tt (λ _. R) ∷ shr_slice 1 tt (λ _. R₂) ∷ ps; result = plain (λ _. Q) }; kept = (yes, (yes, all yes ps)) }

-- ---- what is asked of a call: the callee's `requires`, its operands, and that its `ensures` says the fact φ. Two of them are two facts
pub both-said : {M : Type 1} (𝓤 : Ura M) (φ χ : Type 0) → ent 𝓤 (sep 𝓤 (fact 𝓤 φ) (fact 𝓤 χ)) (fact 𝓤 (φ × χ))
both-said 𝓤 φ χ = fact_use 𝓤 φ (fst∗ 𝓤 (fact 𝓤 φ) (fact 𝓤 χ)) (λ p. fact_use 𝓤 χ (snd∗ 𝓤 (fact 𝓤 φ) (fact 𝓤 χ)) (λ c. fact_i 𝓤 (φ × χ) _ (p, c)))

module _ {M : Type 1} {𝓤 : Ura M} (𝓛 : Logic 𝓤) (𝓣 : Tables 𝓤 𝓛.H) (T : Ended) (cl : Clauses 𝓤 T) where
  abbrev Known : Callee → Type 1
  Known f = Meets 𝓛 T.signature (𝓣.C f) (closing 𝓛 T cl)

  module _ (κs : Lfts T.signature.lifetimes) (a : Args T.signature κs) (gh : (cl κs a).ghost) where
    abbrev Met : Type 1
    Met = ent 𝓤 (emp 𝓤) ((cl κs a).requires gh)

    abbrev Says : (Res T.signature κs → Lasts T κs a → Type 0) → Type 1
    Says φ = (r : Res T.signature κs) (ws : Lasts T κs a) → ent 𝓤 ((cl κs a).ensures gh r (at_exit T κs a ws)) (fact 𝓤 (φ r ws))

module _ {M : Type 1} {𝓤 : Ura M} (K : Type 0) (𝓛 : Logic 𝓤) (E : Env 𝓤 𝓛.H) (σ : List Cell) (xs : List Operand) where
  abbrev Read : List Val → Type 2
  Read vs = (Δ : List (Item 𝓤)) → Opds K 𝓛 (frame E σ ∷ Δ) E xs vs

-- data at the lifetimes κs, and what it owns, for nothing
module _ (n : ℕ) (ps : List (Slot n)) where
  abbrev pub GivenData : Type 2
  GivenData = (κs : Lfts n) → Datas (types_at ps κs)

  module _ (Ds : GivenData) (a : (κs : Lfts n) → Denots (types_at ps κs)) where
    abbrev pub vals_at : (κs : Lfts n) → Valss (types_at ps κs)
    vals_at κs = vals_of (types_at ps κs) (Ds κs) (a κs)

    abbrev pub Right : Type 0
    Right = (κs : Lfts n) → Are (types_at ps κs) (Ises (types_at ps κs)) (a κs) (vals_at κs)

    pub adds_data : {M : Type 1} {𝓤 : Ura M} {𝓛 : Logic 𝓤} {K : Type 0} {Γ : List (Item 𝓤)} {G : Goal 𝓤 𝓛.H} → K → Right → (κs : Lfts n) → Step K 𝓛 (‵ (owns (types_at ps κs) (a κs) (vals_at κs)) ∷ Γ) G Γ G
    adds_data {𝓤 = 𝓤} {𝓛 = 𝓛} t are κs = use0 𝓛 (‵ (owns (types_at ps κs) (a κs) (vals_at κs))) (owns_make 𝓛 (types_at ps κs) (Ises (types_at ps κs)) (makess (types_at ps κs) (Ds κs) 𝓛) (a κs) (vals_at κs) (are κs))

module _ {M : Type 1} {𝓤 : Ura M} {𝓛 : Logic 𝓤} {K : Type 0} {Γ : List (Item 𝓤)} {E : Env 𝓤 𝓛.H} {σ : List Cell} {q : Post 𝓤 𝓛.H} {f : Callee} {xs : List Operand}
    (t : K) (d : ℕ) (𝓣 : Tables 𝓤 𝓛.H) (Q : RattleType) (D : Data Q) (in-it : Within E σ d) (ty : (spot_of 𝓤 𝓛.H E d).0 ≡ D.ty) (y : Q.Denot) where
  pub calls-plain : (u : Tail) (ps : List (Slot 0)) (Ds : GivenData 0 ps) (a : (κs : Lfts 0) → Denots (types_at ps κs)) → Right 0 ps Ds a → (cl : Clauses 𝓤 (of-data ps Q)) → Known 𝓛 𝓣 (of-data ps Q) cl f
      → (gh : (cl tt (a tt)).ghost) → Met 𝓛 𝓣 (of-data ps Q) cl tt (a tt) gh → Read K 𝓛 E σ xs (flat (types_at ps tt) (vals_at 0 ps Ds a tt)) → Says 𝓛 𝓣 (of-data ps Q) cl tt (a tt) gh (λ r ws. r ≡ y)
      → (Is Q y (D.val y ∷ []) → Seq K 𝓛 (frame E (stored σ d (D.val y)) ∷ Γ) (goes 𝓣.C 𝓣.Λ E q u)) → Seq K 𝓛 (frame E σ ∷ Γ) (runs 𝓣.C 𝓣.Λ E (with (call f xs (place d [])) u) q)
  calls-plain u ps Ds a are cl known gh met os says k =
      adds_data 0 ps Ds a t are tt $ use0 𝓛 (raw (emp 𝓤)) (id⊢ 𝓤 (emp 𝓤)) $ move t (2 ∷ []) $
      calls t u d 𝓣 (of-data ps Q) cl known (tt, tt, tt, a tt, vals_at 0 ps Ds a tt) gh met (os _) D in-it ty (λ r ws. r ≡ y) says y (λ r ws e. e) (λ ws e is. move t (1 ∷ 2 ∷ []) $ drop t $ drop t $ k is)

  module _ (ps : List (Slot 1)) (Ds : GivenData 1 ps) (a : (κs : Lfts 1) → Denots (types_at ps κs)) (are : Right 1 ps Ds a) (R : RattleType) (ys : List R.Denot) (b o : ℕ) where
    -- a slice that the walk was lent is passed on, and stays: what is owned of it is copied
    pub calls_passing : RowLaws R → (κ : Lft) (s : Share) (i : Item 𝓤) (u : Tail) (cl : Clauses 𝓤 (of-shared R ps Q)) → Known 𝓛 𝓣 (of-shared R ps Q) cl f
        → (gh : (cl (κ, tt) (view R b o ys, a (κ, tt))).ghost) → Met 𝓛 𝓣 (of-shared R ps Q) cl (κ, tt) (view R b o ys, a (κ, tt)) gh
        → Read K 𝓛 E σ xs (slice_val (b, o) (length ys) ∷ flat (types_at ps (κ, tt)) (vals_at 1 ps Ds a (κ, tt))) → Says 𝓛 𝓣 (of-shared R ps Q) cl (κ, tt) (view R b o ys, a (κ, tt)) gh (λ r ws. r ≡ y)
        → (Is Q y (D.val y ∷ []) → Seq K 𝓛 (frame E (stored σ d (D.val y)) ∷ i ∷ shared R (view R b o ys) κ s ∷ Γ) (goes 𝓣.C 𝓣.Λ E q u))
        → Seq K 𝓛 (frame E σ ∷ i ∷ shared R (view R b o ys) κ s ∷ Γ) (runs 𝓣.C 𝓣.Λ E (with (call f xs (place d [])) u) q)
    calls_passing laws κ s i u cl known gh met os says k =
        move t (2 ∷ []) $ split t $ use1 𝓛 (‵ Own ⊛ ‵ Own) ((shr_slice_copy 𝓛 (named 0) κ R laws).twice (view R b o ys) _) $ split t $
        adds_data 1 ps Ds a t are (κ, tt) $ move t (1 ∷ 0 ∷ []) $ fjoin t $ move t (2 ∷ []) $ one_token t κ s $ move t (3 ∷ []) $
        calls t u d 𝓣 (of-shared R ps Q) cl known ((κ, tt), (s, tt), tt, (view R b o ys, a (κ, tt)), (slice_val (b, o) (length ys) ∷ [], vals_at 1 ps Ds a (κ, tt))) gh met (os _) D in-it ty (λ r ws. r ≡ y) says y (λ r ws e. e) (λ ws e is.
        -- [the frame; the token; nothing of last values; the slice; i]
        move t (2 ∷ []) $ drop t $ move t (1 ∷ []) $ token_back t κ s $ move t (2 ∷ 0 ∷ []) $ join t $ move t (1 ∷ 2 ∷ []) $ k is)
      where
        Own : Fml
        Own = (ShrSlice (named 0) κ R).own_val (view R b o ys) (shr_slice_vals (view R b o ys))

    -- the row is lent at a lifetime that is made for the call, under a new name. The slice's machine value has the count n, which is that of ys
    module _ (room : Room R (length ys)) (n : ℕ) (e : n ≡ length ys) {rest : Body} where
      pub calls_showing : Copied 𝓛 R → (cl : Clauses 𝓤 (of-shared R ps Q)) → Known 𝓛 𝓣 (of-shared R ps Q) cl f
          → (gh : (κ : Lft) → (cl (κ, tt) (view R b o ys, a (κ, tt))).ghost) → ((κ : Lft) → Met 𝓛 𝓣 (of-shared R ps Q) cl (κ, tt) (view R b o ys, a (κ, tt)) (gh κ))
          → ((κ : Lft) → Read K 𝓛 E σ xs (slice_val (b, o) n ∷ flat (types_at ps (κ, tt)) (vals_at 1 ps Ds a (κ, tt)))) → ((κ : Lft) → Says 𝓛 𝓣 (of-shared R ps Q) cl (κ, tt) (view R b o ys, a (κ, tt)) (gh κ) (λ r ws. r ≡ y))
          → (Is Q y (D.val y ∷ []) → Seq K 𝓛 (frame E (stored σ d (D.val y)) ∷ ‵ (row R full_share ys b o) ∷ Γ) (runs 𝓣.C 𝓣.Λ E rest q))
          → Seq K 𝓛 (frame E σ ∷ ‵ (row R full_share ys b o) ∷ Γ) (runs 𝓣.C 𝓣.Λ E (seq (call f xs (place d [])) rest) q)
      calls_showing cp cl known gh met os says k =
          move t (1 ∷ []) $ shows R t tt cp (named 0) ys b o room (λ α. one_token t (α ∷ []) full_share $ adds_data 1 ps Ds a t are (α ∷ [], tt) $ move t (2 ∷ 0 ∷ []) $ fjoin t $ move t (3 ∷ 1 ∷ 0 ∷ []) $
          calls t (then rest) d 𝓣 (of-shared R ps Q) cl known ((α ∷ [], tt), (full_share, tt), tt, (view R b o ys, a (α ∷ [], tt)), (slice_val (b, o) (length ys) ∷ [], vals_at 1 ps Ds a (α ∷ [], tt))) (gh (α ∷ [])) (met (α ∷ [])) (subst (λ (m : ℕ). Read K 𝓛 E σ xs (slice_val (b, o) m ∷ flat (types_at ps (α ∷ [], tt)) (vals_at 1 ps Ds a (α ∷ [], tt)))) e (os (α ∷ [])) _) D in-it ty
          (λ r ws. r ≡ y) (says (α ∷ [])) y (λ r ws e. e) (λ ws p is.
          -- [the frame; the token; nothing of last values; the lender's part]
          move t (2 ∷ []) $ drop t $ move t (1 ∷ []) $ token_back t (α ∷ []) full_share $ move t (0 ∷ 2 ∷ []) $ shown-back R t tt α ys b o $ move t (1 ∷ []) $ k is))

      pub calls_lending : (φ : Q.Denot → List R.Denot → Type 0) → ((r : Q.Denot) (zs : List R.Denot) → φ r zs → r ≡ y) → (cl : Clauses 𝓤 (of_mut R ps Q)) → Known 𝓛 𝓣 (of_mut R ps Q) cl f
          → (gh : (κ : Lft) (γ : GName) → (cl (κ, tt) (slice R b o γ ys, a (κ, tt))).ghost) → ((κ : Lft) (γ : GName) → Met 𝓛 𝓣 (of_mut R ps Q) cl (κ, tt) (slice R b o γ ys, a (κ, tt)) (gh κ γ))
          → ((κ : Lft) → Read K 𝓛 E σ xs (slice_val (b, o) n ∷ flat (types_at ps (κ, tt)) (vals_at 1 ps Ds a (κ, tt)))) → ((κ : Lft) (γ : GName) → Says 𝓛 𝓣 (of_mut R ps Q) cl (κ, tt) (slice R b o γ ys, a (κ, tt)) (gh κ γ) (λ r ws. φ r ws.0))
          → ((zs : List R.Denot) → length zs ≡ length ys → φ y zs → Is Q y (D.val y ∷ []) → Seq K 𝓛 (frame E (stored σ d (D.val y)) ∷ ‵ (row R full_share zs b o) ∷ Γ) (runs 𝓣.C 𝓣.Λ E rest q))
          → Seq K 𝓛 (frame E σ ∷ ‵ (row R full_share ys b o) ∷ Γ) (runs 𝓣.C 𝓣.Λ E (seq (call f xs (place d [])) rest) q)
      calls_lending φ told cl known gh met os says k =
          move t (1 ∷ []) $ lends R t tt (named 0) ys b o room (λ α γ. one_token t (α ∷ []) full_share $ adds_data 1 ps Ds a t are (α ∷ [], tt) $ move t (2 ∷ 0 ∷ []) $ fjoin t $ move t (3 ∷ 1 ∷ 0 ∷ []) $
          calls t (then rest) d 𝓣 (of_mut R ps Q) cl known ((α ∷ [], tt), (full_share, tt), tt, (slice R b o γ ys, a (α ∷ [], tt)), (slice_val (b, o) (length ys) ∷ [], vals_at 1 ps Ds a (α ∷ [], tt))) (gh (α ∷ []) γ) (met (α ∷ []) γ) (subst (λ (m : ℕ). Read K 𝓛 E σ xs (slice_val (b, o) m ∷ flat (types_at ps (α ∷ [], tt)) (vals_at 1 ps Ds a (α ∷ [], tt)))) e (os (α ∷ [])) _) D in-it ty
          (λ r ws. φ r ws.0) (says (α ∷ []) γ) y (λ r ws. told r ws.0) (λ ws p is.
          -- [the frame; the token; the last list; the lender's part]
          move t (1 ∷ []) $ token_back t (α ∷ []) full_share $ move t (2 ∷ []) $ fsplit t $ fsplit t $ fsplit t $ move t (4 ∷ 6 ∷ 0 ∷ []) $ lent_back R t tt α γ (length ys) ws.0 b o $
          -- [the row; its length; the borrow, closed; the others'; the frame]
          move t (1 ∷ []) $ feq_l t (λ len. move t (1 ∷ []) $ drop t $ move t (1 ∷ []) $ drop t $ move t (1 ∷ []) $ k ws.0 len p is)))

  module _ (ps : List (Slot 2)) (Ds : GivenData 2 ps) (a : (κs : Lfts 2) → Denots (types_at ps κs)) (are : Right 2 ps Ds a) (R : RattleType) (ys : List R.Denot) (b o : ℕ) (room : Room R (length ys)) (R₂ : RattleType) (zs₂ : List R₂.Denot) (b₂ o₂ : ℕ) (κ₂ : Lft) (s : Share) (n : ℕ) (e : n ≡ length ys) {rest : Body} where
    pub calls_lending_passing : RowLaws R₂ → (φ : Q.Denot → List R.Denot → Type 0) → ((r : Q.Denot) (zs : List R.Denot) → φ r zs → r ≡ y) → (cl : Clauses 𝓤 (of_mut_shared R R₂ ps Q)) → Known 𝓛 𝓣 (of_mut_shared R R₂ ps Q) cl f
        → (gh : (κ : Lft) (γ : GName) → (cl (κ, (κ₂, tt)) (slice R b o γ ys, (view R₂ b₂ o₂ zs₂, a (κ, (κ₂, tt))))).ghost)
        → ((κ : Lft) (γ : GName) → Met 𝓛 𝓣 (of_mut_shared R R₂ ps Q) cl (κ, (κ₂, tt)) (slice R b o γ ys, (view R₂ b₂ o₂ zs₂, a (κ, (κ₂, tt)))) (gh κ γ))
        → ((κ : Lft) → Read K 𝓛 E σ xs (slice_val (b, o) n ∷ slice_val (b₂, o₂) (length zs₂) ∷ flat (types_at ps (κ, (κ₂, tt))) (vals_at 2 ps Ds a (κ, (κ₂, tt)))))
        → ((κ : Lft) (γ : GName) → Says 𝓛 𝓣 (of_mut_shared R R₂ ps Q) cl (κ, (κ₂, tt)) (slice R b o γ ys, (view R₂ b₂ o₂ zs₂, a (κ, (κ₂, tt)))) (gh κ γ) (λ r ws. φ r ws.0))
        → ((zs : List R.Denot) → length zs ≡ length ys → φ y zs → Is Q y (D.val y ∷ []) → Seq K 𝓛 (frame E (stored σ d (D.val y)) ∷ ‵ (row R full_share zs b o) ∷ shared R₂ (view R₂ b₂ o₂ zs₂) κ₂ s ∷ Γ) (runs 𝓣.C 𝓣.Λ E rest q))
        → Seq K 𝓛 (frame E σ ∷ ‵ (row R full_share ys b o) ∷ shared R₂ (view R₂ b₂ o₂ zs₂) κ₂ s ∷ Γ) (runs 𝓣.C 𝓣.Λ E (seq (call f xs (place d [])) rest) q)
    calls_lending_passing laws φ told cl known gh met os says k =
        move t (2 ∷ []) $ split t $ use1 𝓛 (‵ Own ⊛ ‵ Own) ((shr_slice_copy 𝓛 (named 0) κ₂ R₂ laws).twice (view R₂ b₂ o₂ zs₂) _) $ split t $
        -- [the slice; the slice; its token; the frame; the row]
        move t (4 ∷ []) $ lends R t tt (named 0) ys b o room (λ α γ. move t (0 ∷ 5 ∷ []) $ two_tokens t (α ∷ []) κ₂ full_share s $
        -- [the tokens; the row, lent; the lender's part; the slice; the slice; the frame]
        adds_data 2 ps Ds a t are (α ∷ [], (κ₂, tt)) $ move t (4 ∷ 0 ∷ []) $ fjoin t $ move t (2 ∷ 0 ∷ []) $ fjoin t $ move t (4 ∷ 1 ∷ 0 ∷ []) $
        calls t (then rest) d 𝓣 (of_mut_shared R R₂ ps Q) cl known
        ((α ∷ [], (κ₂, tt)), (full_share, (s, tt)), tt, (slice R b o γ ys, (view R₂ b₂ o₂ zs₂, a (α ∷ [], (κ₂, tt)))), (slice_val (b, o) (length ys) ∷ [], (slice_val (b₂, o₂) (length zs₂) ∷ [], vals_at 2 ps Ds a (α ∷ [], (κ₂, tt)))))
        (gh (α ∷ []) γ) (met (α ∷ []) γ) (subst (λ (m : ℕ). Read K 𝓛 E σ xs (slice_val (b, o) m ∷ slice_val (b₂, o₂) (length zs₂) ∷ flat (types_at ps (α ∷ [], (κ₂, tt))) (vals_at 2 ps Ds a (α ∷ [], (κ₂, tt))))) e (os (α ∷ [])) _) D in-it ty (λ r ws. φ r ws.0) (says (α ∷ []) γ) y (λ r ws. told r ws.0) (λ ws p is.
        -- [the frame; the tokens; the last list; the lender's part; the slice]
        move t (1 ∷ []) $ tokens_back t (α ∷ []) κ₂ full_share s $ move t (3 ∷ []) $ fsplit t $ fsplit t $ fsplit t $ move t (4 ∷ 7 ∷ 0 ∷ []) $ lent_back R t tt α γ (length ys) ws.0 b o $
        -- [the row; its length; the borrow, closed; the others'; the token; the frame; the slice]
        move t (1 ∷ []) $ feq_l t (λ len. move t (1 ∷ []) $ drop t $ move t (1 ∷ []) $ drop t $ move t (3 ∷ 1 ∷ []) $ join t $ move t (2 ∷ 1 ∷ 0 ∷ []) $ k ws.0 len p is)))
      where
        Own : Fml
        Own = (ShrSlice (named 0) κ₂ R₂).own_val (view R₂ b₂ o₂ zs₂) (shr_slice_vals (view R₂ b₂ o₂ zs₂))
