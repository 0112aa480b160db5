-- A walk proves its function: from a walk of the body to the statement that the function meets its contract, by the function's parameters (`Callees.antt`).
-- Assumes nothing: `Logic` and the `Tables` are arguments.
--     shared-meets            a `&[R]`, then data
--     mut-meets               a `&mut [R]`, then data
--     mut-shared-meets        a `&mut [R]`, a `&[R₂]`, then data
-- A walk begins with the frame and what the function was lent, and ends with what it was lent, by `ends`: at the result y, whose relation holds, and which the contract allows.
use mathlib.Core.Path.{◌≡◌, refl, sym, subst}
use mathlib.Core.List.{List, [], ◌∷◌}
use Prim.Native.Nat.{ℕ}
use lib.ListN.{length}
use seplogic.Ra.Ura.{Ura}
use mir.Syntax.{named, Fn}
use mir.Val.{Val}
use base.Logic.{SProp, ent, sep, emp, id⊢, via, fst∗, snd∗, emp∗, mono∗, mono_r}
use base.Fml.{Lft, Share, GName, ftrue, flft}
use prog.Wp.{WpFn, Tables}
use types.Logic.{Logic, sem}
use sound.WpLaws.{WpFn-mono}
use contract.Lifetimes.{Lfts, Shares, AllOutlive}
use contract.Monad.{fact, fact_i, fact_use}
use types.Kit.{Item, ‵, raw, ◌⊛◌, ⋆, Goal, prop, runs, at_ret, Sq, Step, ◌$◌, ◌∵◌, !, qed, by, move, keep, split, join, use0, fsplit, fjoin, frame as framing, done}
use denote.Exit.{Exit, unchanged, yes, Last, left}
use denote.RattleType.{RattleType, Denots, flat, owns}
use denote.Laws.{Is, Ises, Are, Spells, valss, Tellss}
use denote.Slice.{slice_val, shr_slice_vals, mut_slice_vals, Room, mut_slice_Tells, shr_slice_Tells}
use denote.Signature.{Slot, plain, type_at, types_at}
use denote.Steps.{nothing}
use denote.Triple.End.{Fins, all}
use denote.Triple.Clauses.{Ended, Clauses, Lasts, at_exit, closing}
use denote.Triple.Entry.{Args, Vals, Res, on_entry}
use denote.Triple.Spec.{Meets}
use denote.Triple.Walked.{says, Fit, Ending, on_exit, Stays, stay_none, stay_slice, stay_none_slice, fits_of, has_of, AllGo, Goes-none, Goes-slice, Goes-none_slice, ends_at, walk_of, walked, walk_Meets}
use Rattle.walks.proofs.Data.{Data, Datas, spells, vals_of, tellss}
use Rattle.walks.proofs.Locals.{frame, env, at_entry, Passable, starts}
use Rattle.walks.proofs.Slices.{slice, view, lent, shared}
use Rattle.walks.proofs.Callees.{of-shared, of_mut, of_mut_shared, GivenData}

-- ---- parameters that are plain data: they are still owned at exit, as they were passed
silent : {X : Type 0} (e : Exit X) → e ≡ unchanged → (x : X) (f : Last e x) → left e x f ≡ ftrue
silent {X} e p = subst (λ (d : Exit X). (x : X) (f : Last d x) → left d x f ≡ ftrue) (sym p) (λ x f. refl)

module _ (n : ℕ) where
  abbrev stays : (ps : List (Slot n)) → Stays ps (all yes ps)
  stays [] = tt
  stays (p ∷ ps) = (stay_none p.row yes, stays ps)

  module _ (κs : Lfts n) where
    lasts-of : (ps : List (Slot n)) → Datas (types_at ps κs) → (a : Denots (types_at ps κs)) → Fins κs ps (all yes ps) a
    lasts-of [] Ds a = tt
    lasts-of (p ∷ ps) Ds a = (subst (λ (e : Exit (p.row κs).Denot). Last e a.0) (sym Ds.0.still) tt, lasts-of ps Ds.1 a.1)

    fit : (ps : List (Slot n)) (a : Denots (types_at ps κs)) (ws : Fins κs ps (all yes ps) a) → fits_of κs ps (all yes ps) (stays ps) a ws
    fit [] a ws = tt
    fit (p ∷ ps) a ws = (tt, fit ps a.1 ws.1)

    had : {M : Type 1} {𝓤 : Ura M} (𝓛 : Logic 𝓤) → (ps : List (Slot n)) (Ds : Datas (types_at ps κs)) (a : Denots (types_at ps κs)) (ws : Fins κs ps (all yes ps) a)
        → Are (types_at ps κs) (Ises (types_at ps κs)) a (vals_of (types_at ps κs) Ds a) → ent 𝓤 (emp 𝓤) (sem 𝓛 (has_of κs ps (all yes ps) (stays ps) a ws (vals_of (types_at ps κs) Ds a)))
    had {𝓤 = 𝓤} 𝓛 [] Ds a ws are = id⊢ 𝓤 (emp 𝓤)
    had {𝓤 = 𝓤} 𝓛 (p ∷ ps) Ds a ws are = via 𝓤 (sep 𝓤 (emp 𝓤) (emp 𝓤)) (emp∗ 𝓤 (emp 𝓤)) (mono∗ 𝓤 (Ds.0.makes 𝓛 a.0 _ are.0) (had 𝓛 ps Ds.1 a.1 ws.1 are.1))

  has_data : {M : Type 1} {𝓤 : Ura M} {𝓛 : Logic 𝓤} {K : Type 0} {Γ : List (Item 𝓤)} {G : Goal 𝓤 𝓛.H} → K → (κs : Lfts n) (ps : List (Slot n)) (Ds : Datas (types_at ps κs)) (a : Denots (types_at ps κs)) (ws : Fins κs ps (all yes ps) a)
      → Are (types_at ps κs) (Ises (types_at ps κs)) a (vals_of (types_at ps κs) Ds a) → Step K 𝓛 (‵ (has_of κs ps (all yes ps) (stays ps) a ws (vals_of (types_at ps κs) Ds a)) ∷ Γ) G Γ G
  has_data {𝓤 = 𝓤} {𝓛 = 𝓛} t κs ps Ds a ws are = use0 𝓛 (‵ (has_of κs ps (all yes ps) (stays ps) a ws (vals_of (types_at ps κs) Ds a))) (had κs 𝓛 ps Ds a ws are)

  go : {M : Type 1} {𝓤 : Ura M} (𝓛 : Logic 𝓤) (ps : List (Slot n)) → GivenData n ps → AllGo 𝓛 n ps (all yes ps) (stays ps)
  go 𝓛 [] Ds = tt
  go 𝓛 (p ∷ ps) Ds = (Goes-none 𝓛 n p.row yes (λ κs. silent ((p.row κs).exit yes) (Ds κs).0.still), go 𝓛 ps (λ κs. (Ds κs).1))

-- a fact that two clauses say
pub said-both : {M : Type 1} (𝓤 : Ura M) (φ χ : Type 0) → ent 𝓤 (fact 𝓤 (φ × χ)) (sep 𝓤 (fact 𝓤 φ) (fact 𝓤 χ))
said-both 𝓤 φ χ = fact_use 𝓤 (φ × χ) (id⊢ 𝓤 _) (λ p. via 𝓤 (sep 𝓤 (emp 𝓤) (fact 𝓤 (φ × χ))) (emp∗ 𝓤 (fact 𝓤 (φ × χ))) (mono∗ 𝓤 (fact_i 𝓤 φ (emp 𝓤) p.0) (fact_i 𝓤 χ (fact 𝓤 (φ × χ)) p.1)))

-- what a contract says, as facts: of the parameters, of the result, and of the last list of a `&mut`
module _ {M : Type 1} (𝓤 : Ura M) (T : Ended) (cl : Clauses 𝓤 T) where
  abbrev pub Asks : ((κs : Lfts T.signature.lifetimes) → Args T.signature κs → Type 0) → Type 1
  Asks ψ = (κs : Lfts T.signature.lifetimes) (a : Args T.signature κs) (gh : (cl κs a).ghost) → ent 𝓤 ((cl κs a).requires gh) (fact 𝓤 (ψ κs a))

  abbrev pub Ensures : ((κs : Lfts T.signature.lifetimes) (a : Args T.signature κs) → Lasts T κs a → Res T.signature κs → Type 0) → Type 1
  Ensures φ = (κs : Lfts T.signature.lifetimes) (a : Args T.signature κs) (gh : (cl κs a).ghost) (r : Res T.signature κs) (ws : Lasts T κs a) → ent 𝓤 (fact 𝓤 (φ κs a ws r)) ((cl κs a).ensures gh r (at_exit T κs a ws))

-- ---- the walk of any function. It begins with `In`, which is what there is on entry, and ends with `Out`, which is what is owed at exit
module _ {M : Type 1} {𝓤 : Ura M} (𝓛 : Logic 𝓤) (𝓣 : Tables 𝓤 𝓛.H) (fn : Fn) (T : Ended) (hs : Stays T.signature.params T.kept) (gs : AllGo 𝓛 T.signature.lifetimes T.signature.params T.kept hs)
    (sp : (κs : Lfts T.signature.lifetimes) → Spells (types_at T.signature.params κs)) (tl : (κs : Lfts T.signature.lifetimes) → Tellss (types_at T.signature.params κs) (Ises (types_at T.signature.params κs)) (sp κs))
    (cl : Clauses 𝓤 T) (ψ : (κs : Lfts T.signature.lifetimes) → Args T.signature κs → Type 0) (φ : (κs : Lfts T.signature.lifetimes) (a : Args T.signature κs) → Lasts T κs a → Res T.signature κs → Type 0) (asks : Asks 𝓤 T cl ψ) (ens : Ensures 𝓤 T cl φ) where
  open 𝓛 use {H}

  module _ (κs : Lfts T.signature.lifetimes) (qs : Shares T.signature.lifetimes) (a : Args T.signature κs) where
    abbrev vals : Vals T.signature κs
    vals = valss (types_at T.signature.params κs) (sp κs) a

    abbrev Right : Type 0
    Right = Are (types_at T.signature.params κs) (Ises (types_at T.signature.params κs)) a vals

    -- the `requires` is learned at entry
    learned : (gh : (cl κs a).ghost) {X : SProp 𝓤} → (ψ κs a → ent 𝓤 (on_entry 𝓛 T.signature κs qs a vals) X) → ent 𝓤 (sep 𝓤 (on_entry 𝓛 T.signature κs qs a vals) ((cl κs a).requires gh)) X
    learned gh k =
        let P : SProp 𝓤 = on_entry 𝓛 T.signature κs qs a vals in
        let R : SProp 𝓤 = (cl κs a).requires gh in
        fact_use 𝓤 (ψ κs a) (via 𝓤 R (snd∗ 𝓤 P R) (asks κs a gh)) (λ p. via 𝓤 P (fst∗ 𝓤 P R) (k p))

    -- and the `ensures` is shown at exit
    shown : (bounds : AllOutlive T.signature.lifetimes T.signature.outlives κs) (gh : (cl κs a).ghost) (v : Val) (r : Res T.signature κs) (ws : Lasts T κs a) → Fit T hs κs a ws → φ κs a ws r
        → ent 𝓤 (on_exit 𝓛 T hs κs qs vals v r a ws) ((walk_of 𝓛 T hs cl).post ((κs, qs, bounds, a, vals), gh) v)
    shown bounds gh v r ws fits f =
        let P : SProp 𝓤 = on_exit 𝓛 T hs κs qs vals v r a ws in
        via 𝓤 (Ending 𝓛 T hs cl ((κs, qs, bounds, a, vals), gh) v r ws) (via 𝓤 (sep 𝓤 P (fact 𝓤 (φ κs a ws r))) (qed 𝓛 (raw P ∷ []) ∵ says ! f $ done !) (mono_r 𝓤 P (ens κs a gh r ws)))
        (ends_at 𝓛 T hs cl ((κs, qs, bounds, a, vals), gh) v r ws fits)

  by-walk : (In : (κs : Lfts T.signature.lifetimes) (qs : Shares T.signature.lifetimes) (a : Args T.signature κs) → List (Item 𝓤)) → ((κs : Lfts T.signature.lifetimes) (qs : Shares T.signature.lifetimes) (a : Args T.signature κs) → ent 𝓤 (on_entry 𝓛 T.signature κs qs a (vals κs qs a)) (⋆ 𝓛 (In κs qs a)))
      → (D : (κs : Lfts T.signature.lifetimes) → Data (type_at T.signature.result κs))
      → (Out : (κs : Lfts T.signature.lifetimes) (qs : Shares T.signature.lifetimes) (a : Args T.signature κs) → Lasts T κs a → List (Item 𝓤))
      → ((κs : Lfts T.signature.lifetimes) (qs : Shares T.signature.lifetimes) (a : Args T.signature κs) (ws : Lasts T κs a) → Right κs qs a → (y : Res T.signature κs) → Is (type_at T.signature.result κs) y ((D κs).val y ∷ [])
      → ent 𝓤 (⋆ 𝓛 (Out κs qs a ws)) (on_exit 𝓛 T hs κs qs (vals κs qs a) ((D κs).val y) y a ws))
      → ((κs : Lfts T.signature.lifetimes) (qs : Shares T.signature.lifetimes) (a : Args T.signature κs) → Right κs qs a → ψ κs a → (post : Val → SProp 𝓤)
      → ((y : Res T.signature κs) (ws : Lasts T κs a) → Fit T hs κs a ws → Is (type_at T.signature.result κs) y ((D κs).val y ∷ []) → φ κs a ws y → Sq 𝓛 (Out κs qs a ws) (prop (post ((D κs).val y))))
      → Sq 𝓛 (In κs qs a) (prop (WpFn 𝓤 H 𝓣.C 𝓣.Λ fn (flat (types_at T.signature.params κs) (vals κs qs a)) post)))
      → Meets 𝓛 T.signature (WpFn 𝓤 H 𝓣.C 𝓣.Λ fn) (closing 𝓛 T cl)
  by-walk In begins D Out ends walk =
      walk_Meets 𝓛 T hs gs cl (WpFn 𝓤 H 𝓣.C 𝓣.Λ fn) (WpFn-mono 𝓤 H 𝓛.laws 𝓣 fn)
      (walked 𝓛 T hs cl (WpFn 𝓤 H 𝓣.C 𝓣.Λ fn) sp tl (λ κs qs bounds a gh are. learned κs qs a gh (λ p. via 𝓤 (⋆ 𝓛 (In κs qs a)) (begins κs qs a)
      (walk κs qs a are p ((walk_of 𝓛 T hs cl).post ((κs, qs, bounds, a, vals κs qs a), gh)) (λ y ws fits is f. by ! (via 𝓤 _ (ends κs qs a ws are y is) (shown κs qs a bounds gh ((D κs).val y) y ws fits f)))).prf)))

-- ---- by the function's parameters
module _ {M : Type 1} {𝓤 : Ura M} (𝓛 : Logic 𝓤) (𝓣 : Tables 𝓤 𝓛.H) (fn : Fn) (Q : RattleType) (D : Data Q) where
  open 𝓛 use {H}

  abbrev body-runs : (ℕ → ℕ) → (Val → SProp 𝓤) → Goal 𝓤 H
  body-runs l post = runs 𝓣.C 𝓣.Λ (env fn.locals l) fn.body (at_ret (env fn.locals l) post)

  module _ (R : RattleType) (ps : List (Slot 1)) (Ds : GivenData 1 ps) where
    -- the arguments are of their locals' types
    abbrev TypedOne : Type 0
    TypedOne = (κ : Lft) (b o : ℕ) (xs : List R.Denot) (a : Denots (types_at ps (κ, tt))) → Room R (length xs) → Are (types_at ps (κ, tt)) (Ises (types_at ps (κ, tt))) a (vals_of (types_at ps (κ, tt)) (Ds (κ, tt)) a) → Passable fn.locals (slice_val (b, o) (length xs) ∷ flat (types_at ps (κ, tt)) (vals_of (types_at ps (κ, tt)) (Ds (κ, tt)) a))

    module _ (cl : Clauses 𝓤 (of-shared R ps Q)) (ψ : (κs : Lfts 1) → Args (of-shared R ps Q).signature κs → Type 0) (φ : (κs : Lfts 1) → Args (of-shared R ps Q).signature κs → Q.Denot → Type 0) where
      abbrev pub SharedWalk : Type 2
      SharedWalk = (κ : Lft) (s : Share) (b o : ℕ) (xs : List R.Denot) (a : Denots (types_at ps (κ, tt))) → Room R (length xs) → Are (types_at ps (κ, tt)) (Ises (types_at ps (κ, tt))) a (vals_of (types_at ps (κ, tt)) (Ds (κ, tt)) a) → ψ (κ, tt) (view R b o xs, a)
          → (post : Val → SProp 𝓤) → ((y : Q.Denot) → Is Q y (D.val y ∷ []) → φ (κ, tt) (view R b o xs, a) y → Sq 𝓛 (shared R (view R b o xs) κ s ∷ []) (prop (post (D.val y))))
          → (l : ℕ → ℕ) → Sq 𝓛 (frame (env fn.locals l) (at_entry fn.locals (slice_val (b, o) (length xs) ∷ flat (types_at ps (κ, tt)) (vals_of (types_at ps (κ, tt)) (Ds (κ, tt)) a))) ∷ shared R (view R b o xs) κ s ∷ []) (body-runs l post)

      pub shared_meets : TypedOne → Asks 𝓤 (of-shared R ps Q) cl ψ → Ensures 𝓤 (of-shared R ps Q) cl (λ κs a ws r. φ κs a r) → SharedWalk → Meets 𝓛 (of-shared R ps Q).signature (WpFn 𝓤 H 𝓣.C 𝓣.Λ fn) (closing 𝓛 (of-shared R ps Q) cl)
      shared_meets typed asks ens walk =
          by-walk 𝓛 𝓣 fn (of-shared R ps Q) (stay_none_slice (0 ∷ []) tt (plain (λ _. R)) yes, stays 1 ps) (Goes-none_slice 𝓛 1 (0 ∷ []) tt (plain (λ _. R)) yes, go 1 𝓛 ps Ds)
          (λ κs. (shr_slice_vals, spells (types_at ps κs) (Ds κs))) (λ κs. (shr_slice_Tells (named 0) κs.0 R, tellss (types_at ps κs) (Ds κs))) cl ψ (λ κs a ws r. φ κs a r) asks ens
          (λ κs qs a. shared R a.0 κs.0 qs.0 ∷ [])
          (λ κs qs a. qed 𝓛 ((‵ (flft κs.0 qs.0) ⊛ ‵ ftrue) ∷ ‵ (owns (types_at (of-shared R ps Q).signature.params κs) a (shr_slice_vals a.0, vals_of (types_at ps κs) (Ds κs) a.1)) ∷ []) ∵ split ! $ move ! (2 ∷ []) $ fsplit ! $ move ! (0 ∷ 2 ∷ []) $ join ! $ keep ! (0 ∷ []) $ done !)
          (λ κs. D) (λ κs qs a ws. shared R a.0 κs.0 qs.0 ∷ [])
          (λ κs qs a ws are y is. qed 𝓛 (shared R a.0 κs.0 qs.0 ∷ []) ∵ nothing ! $ move ! (1 ∷ []) $ split ! $ move ! (1 ∷ 2 ∷ []) $ join ! $ framing ! $
          has_data 1 ! κs ps (Ds κs) a.1 ws.1 are.1 $ move ! (1 ∷ 0 ∷ []) $ fjoin ! $ framing ! $ by ! (D.makes 𝓛 y _ is))
          (λ κs qs a are p post k. starts ! fn _ (typed κs.0 a.0.ref_ptr.0 a.0.ref_ptr.1 a.0.now a.1 are.0.0.1 are.1) (walk κs.0 qs.0 a.0.ref_ptr.0 a.0.ref_ptr.1 a.0.now a.1 are.0.0.1 are.1 p post (λ y is f. k y (tt, lasts-of 1 κs ps (Ds κs) a.1) (tt, fit 1 κs ps a.1 _) is f)))

    -- it ends with a last list, as long as the one that was lent
    module _ (cl : Clauses 𝓤 (of_mut R ps Q)) (ψ : (κs : Lfts 1) → Args (of_mut R ps Q).signature κs → Type 0) (φ : (κs : Lfts 1) → Args (of_mut R ps Q).signature κs → List R.Denot → Q.Denot → Type 0) where
      abbrev pub MutWalk : Type 2
      MutWalk = (κ : Lft) (s : Share) (b o : ℕ) (γ : GName) (xs : List R.Denot) (a : Denots (types_at ps (κ, tt))) → Room R (length xs) → Are (types_at ps (κ, tt)) (Ises (types_at ps (κ, tt))) a (vals_of (types_at ps (κ, tt)) (Ds (κ, tt)) a) → ψ (κ, tt) (slice R b o γ xs, a)
          → (post : Val → SProp 𝓤) → ((y : Q.Denot) (zs : List R.Denot) → length zs ≡ length xs → Is Q y (D.val y ∷ []) → φ (κ, tt) (slice R b o γ xs, a) zs y → Sq 𝓛 (lent R (slice R b o γ zs) (length xs) κ s ∷ []) (prop (post (D.val y))))
          → (l : ℕ → ℕ) → Sq 𝓛 (frame (env fn.locals l) (at_entry fn.locals (slice_val (b, o) (length xs) ∷ flat (types_at ps (κ, tt)) (vals_of (types_at ps (κ, tt)) (Ds (κ, tt)) a))) ∷ lent R (slice R b o γ xs) (length xs) κ s ∷ []) (body-runs l post)

      pub mut_meets : TypedOne → Asks 𝓤 (of_mut R ps Q) cl ψ → Ensures 𝓤 (of_mut R ps Q) cl (λ κs a ws r. φ κs a ws.0 r) → MutWalk → Meets 𝓛 (of_mut R ps Q).signature (WpFn 𝓤 H 𝓣.C 𝓣.Λ fn) (closing 𝓛 (of_mut R ps Q) cl)
      mut_meets typed asks ens walk =
          by-walk 𝓛 𝓣 fn (of_mut R ps Q) (stay_slice (0 ∷ []) tt (plain (λ _. R)), stays 1 ps) (Goes-slice 𝓛 1 0 tt (plain (λ _. R)), go 1 𝓛 ps Ds)
          (λ κs. (mut_slice_vals, spells (types_at ps κs) (Ds κs))) (λ κs. (mut_slice_Tells (named 0) κs.0 R, tellss (types_at ps κs) (Ds κs))) cl ψ (λ κs a ws r. φ κs a ws.0 r) asks ens
          (λ κs qs a. lent R a.0 (length a.0.now) κs.0 qs.0 ∷ [])
          (λ κs qs a. qed 𝓛 ((‵ (flft κs.0 qs.0) ⊛ ‵ ftrue) ∷ ‵ (owns (types_at (of_mut R ps Q).signature.params κs) a (mut_slice_vals a.0, vals_of (types_at ps κs) (Ds κs) a.1)) ∷ []) ∵ split ! $ move ! (2 ∷ []) $ fsplit ! $ move ! (0 ∷ 2 ∷ []) $ join ! $ keep ! (0 ∷ []) $ done !)
          (λ κs. D) (λ κs qs a ws. lent R (slice R a.0.ref_ptr.0 a.0.ref_ptr.1 a.0.ghost_name ws.0) (length a.0.now) κs.0 qs.0 ∷ [])
          (λ κs qs a ws are y is. qed 𝓛 (lent R (slice R a.0.ref_ptr.0 a.0.ref_ptr.1 a.0.ghost_name ws.0) (length a.0.now) κs.0 qs.0 ∷ []) ∵ nothing ! $ move ! (1 ∷ []) $ split ! $ move ! (1 ∷ 2 ∷ []) $ join ! $ framing ! $
          has_data 1 ! κs ps (Ds κs) a.1 ws.1 are.1 $ move ! (1 ∷ 0 ∷ []) $ fjoin ! $ framing ! $ by ! (D.makes 𝓛 y _ is))
          (λ κs qs a are p post k. starts ! fn _ (typed κs.0 a.0.ref_ptr.0 a.0.ref_ptr.1 a.0.now a.1 are.0.0.1 are.1) (walk κs.0 qs.0 a.0.ref_ptr.0 a.0.ref_ptr.1 a.0.ghost_name a.0.now a.1 are.0.0.1 are.1 p post (λ y zs len is f. k y (zs, lasts-of 1 κs ps (Ds κs) a.1) (len, fit 1 κs ps a.1 _) is f)))

  module _ (R R₂ : RattleType) (ps : List (Slot 2)) (Ds : GivenData 2 ps) (cl : Clauses 𝓤 (of_mut_shared R R₂ ps Q)) (ψ : (κs : Lfts 2) → Args (of_mut_shared R R₂ ps Q).signature κs → Type 0)
      (φ : (κs : Lfts 2) → Args (of_mut_shared R R₂ ps Q).signature κs → List R.Denot → Q.Denot → Type 0) where
    abbrev pub MutSharedWalk : Type 2
    MutSharedWalk = (κ κ₂ : Lft) (s s₂ : Share) (b o b₂ o₂ : ℕ) (γ : GName) (xs : List R.Denot) (xs₂ : List R₂.Denot) (a : Denots (types_at ps (κ, (κ₂, tt)))) → Room R (length xs) → Room R₂ (length xs₂)
        → Are (types_at ps (κ, (κ₂, tt))) (Ises (types_at ps (κ, (κ₂, tt)))) a (vals_of (types_at ps (κ, (κ₂, tt))) (Ds (κ, (κ₂, tt))) a) → ψ (κ, (κ₂, tt)) (slice R b o γ xs, (view R₂ b₂ o₂ xs₂, a))
        → (post : Val → SProp 𝓤) → ((y : Q.Denot) (zs : List R.Denot) → length zs ≡ length xs → Is Q y (D.val y ∷ []) → φ (κ, (κ₂, tt)) (slice R b o γ xs, (view R₂ b₂ o₂ xs₂, a)) zs y
        → Sq 𝓛 (lent R (slice R b o γ zs) (length xs) κ s ∷ shared R₂ (view R₂ b₂ o₂ xs₂) κ₂ s₂ ∷ []) (prop (post (D.val y))))
        → (l : ℕ → ℕ) → Sq 𝓛 (frame (env fn.locals l) (at_entry fn.locals (slice_val (b, o) (length xs) ∷ slice_val (b₂, o₂) (length xs₂) ∷ flat (types_at ps (κ, (κ₂, tt))) (vals_of (types_at ps (κ, (κ₂, tt))) (Ds (κ, (κ₂, tt))) a)))
        ∷ lent R (slice R b o γ xs) (length xs) κ s ∷ shared R₂ (view R₂ b₂ o₂ xs₂) κ₂ s₂ ∷ []) (body-runs l post)

    abbrev TypedTwo : Type 0
    TypedTwo = (κ κ₂ : Lft) (b o b₂ o₂ : ℕ) (xs : List R.Denot) (xs₂ : List R₂.Denot) (a : Denots (types_at ps (κ, (κ₂, tt)))) → Room R (length xs) → Room R₂ (length xs₂) → Are (types_at ps (κ, (κ₂, tt))) (Ises (types_at ps (κ, (κ₂, tt)))) a (vals_of (types_at ps (κ, (κ₂, tt))) (Ds (κ, (κ₂, tt))) a)
        → Passable fn.locals (slice_val (b, o) (length xs) ∷ slice_val (b₂, o₂) (length xs₂) ∷ flat (types_at ps (κ, (κ₂, tt))) (vals_of (types_at ps (κ, (κ₂, tt))) (Ds (κ, (κ₂, tt))) a))

    pub mut_shared_meets : TypedTwo → Asks 𝓤 (of_mut_shared R R₂ ps Q) cl ψ → Ensures 𝓤 (of_mut_shared R R₂ ps Q) cl (λ κs a ws r. φ κs a ws.0 r) → MutSharedWalk → Meets 𝓛 (of_mut_shared R R₂ ps Q).signature (WpFn 𝓤 H 𝓣.C 𝓣.Λ fn) (closing 𝓛 (of_mut_shared R R₂ ps Q) cl)
    mut_shared_meets typed asks ens walk =
        by-walk 𝓛 𝓣 fn (of_mut_shared R R₂ ps Q) (stay_slice (0 ∷ []) tt (plain (λ _. R)), (stay_none_slice (1 ∷ []) tt (plain (λ _. R₂)) yes, stays 2 ps)) (Goes-slice 𝓛 2 0 tt (plain (λ _. R)), (Goes-none_slice 𝓛 2 (1 ∷ []) tt (plain (λ _. R₂)) yes, go 2 𝓛 ps Ds))
        (λ κs. (mut_slice_vals, (shr_slice_vals, spells (types_at ps κs) (Ds κs)))) (λ κs. (mut_slice_Tells (named 0) κs.0 R, (shr_slice_Tells (named 1) κs.1.0 R₂, tellss (types_at ps κs) (Ds κs)))) cl ψ (λ κs a ws r. φ κs a ws.0 r) asks ens
        (λ κs qs a. lent R a.0 (length a.0.now) κs.0 qs.0 ∷ shared R₂ a.1.0 κs.1.0 qs.1.0 ∷ [])
        (λ κs qs a. qed 𝓛 ((‵ (flft κs.0 qs.0) ⊛ (‵ (flft κs.1.0 qs.1.0) ⊛ ‵ ftrue)) ∷ ‵ (owns (types_at (of_mut_shared R R₂ ps Q).signature.params κs) a (mut_slice_vals a.0, (shr_slice_vals a.1.0, vals_of (types_at ps κs) (Ds κs) a.1.1))) ∷ []) ∵
        split ! $ move ! (1 ∷ []) $ split ! $ move ! (3 ∷ []) $ fsplit ! $ move ! (1 ∷ []) $ fsplit ! $
        -- [the shared slice; data; the lent slice; the shared one's token; nothing; the lent one's token]
        move ! (0 ∷ 3 ∷ []) $ join ! $ move ! (2 ∷ 4 ∷ []) $ join ! $ keep ! (0 ∷ 1 ∷ []) $ done !)
        (λ κs. D) (λ κs qs a ws. lent R (slice R a.0.ref_ptr.0 a.0.ref_ptr.1 a.0.ghost_name ws.0) (length a.0.now) κs.0 qs.0 ∷ shared R₂ a.1.0 κs.1.0 qs.1.0 ∷ [])
        (λ κs qs a ws are y is. qed 𝓛 (lent R (slice R a.0.ref_ptr.0 a.0.ref_ptr.1 a.0.ghost_name ws.0) (length a.0.now) κs.0 qs.0 ∷ shared R₂ a.1.0 κs.1.0 qs.1.0 ∷ []) ∵ nothing ! $ move ! (1 ∷ []) $ split ! $ move ! (3 ∷ []) $ split ! $
        -- [the shared slice; its token; the lent slice; its token; nothing]
        move ! (1 ∷ 4 ∷ []) $ join ! $ move ! (3 ∷ 0 ∷ []) $ join ! $ framing ! $
        has_data 2 ! κs ps (Ds κs) a.1.1 ws.1.1 are.1.1 $ move ! (1 ∷ 0 ∷ []) $ fjoin ! $ move ! (1 ∷ 0 ∷ []) $ fjoin ! $ framing ! $ by ! (D.makes 𝓛 y _ is))
        (λ κs qs a are p post k. starts ! fn _ (typed κs.0 κs.1.0 a.0.ref_ptr.0 a.0.ref_ptr.1 a.1.0.ref_ptr.0 a.1.0.ref_ptr.1 a.0.now a.1.0.now a.1.1 are.0.0.1 are.1.0.0.1 are.1.1) (walk κs.0 κs.1.0 qs.0 qs.1.0 a.0.ref_ptr.0 a.0.ref_ptr.1 a.1.0.ref_ptr.0 a.1.0.ref_ptr.1 a.0.ghost_name a.0.now a.1.0.now a.1.1 are.0.0.1 are.1.0.0.1 are.1.1 p post
        (λ y zs len is f. k y (zs, (tt, lasts-of 2 κs ps (Ds κs) a.1.1)) (len, (tt, fit 2 κs ps a.1.1 _)) is f)))
