-- A lent slice in a walk: it is opened once, at entry, and shut once, before the function returns. In between its row of elements is the function's own memory, and may be lent for a call.
-- Assumes nothing: `Logic` is an argument.
--     opens, shuts            a `&mut [R]`, whose last list is then zs
--     looks, looked           a `&[R]`, whose elements are Copy
--     lends, lent_back        the row is lent as a `&mut [R]`, for a lifetime that is made for the call, and comes back as the callee left it
--     shows, shown-back       it is lent as a `&[R]`, and comes back as it was
--     reslices                the slice itself is made again for a call
use mathlib.Core.Path.{◌≡◌, refl, sym, ap, subst}
use Prim.Native.Nat.{ℕ}
use mathlib.Core.List.{List, [], ◌∷◌}
use lib.Dec.{T as Holds}
use lib.ListN.{length}
use seplogic.Ra.Ura.{Ura}
use base.Fraction.{full_share}
use mir.Syntax.{Ty, Lifetime, named, place, deref, field as at_field, copy, addr_of, aggregate, Body, seq, assign}
use mir.Val.{vptr, has_ty, WT}
use base.Logic.{id⊢}
use base.Fml.{Lft, GName, Share, Incl-refl, fobs, fauth, fobor, fhide, flft, flent}
use prog.Wp.{Env, Calls, Loops, spot_of}
use types.Logic.{Logic, lfts}
use types.Kit.{Goal, Soaks, Item, ‵, raw, ◌⊛◌, some, later, Post, runs, Seq, Step, step, ◌$◌, move, use1, use2, use3, drop, split, join, pick, fsplit, fjoin, feq_i, await}
use types.Run.{and_then, no_more}
use types.Part.{agg}
use types.Tokens.{lft_new, lft_end, lent_back as lender-back}
use types.SemTy.{cells, Arr}
use types.Share.{arr_parts}
use denote.RattleType.{RattleType}
use denote.Shadow.{pure_i}
use denote.Copied.{Copied}
use denote.Opens.{Shut}
use denote.Memory.{mem, shares}
use denote.Ref.{Bor, MutBor}
use denote.Slice.{slice_ty, slice_val, shr_slice_vals, MutSlice, ShrSlice, Room, mut_slice_at, shr_slice_at, elements_shared, heres, coded_holeys, finally}
use denote.Lend.{Held, lends_slice, slice_back, lends_shr_slice}
use denote.Index as Index
use denote.Index.{row, whole_out, whole_in, looks_slice, closes_slice}
use Rattle.walks.proofs.Locals.{Cell, holds, frame, at, Within, stored, get, field, reborrows, sets}

module _ (R : RattleType) where
  -- a slice of ys
  abbrev pub slice : ℕ → ℕ → GName → List R.Denot → MutBor (List R.Denot)
  slice b o γ ys = record { ref_ptr = (b, o); ghost_name = γ; now = ys }

  -- a shared one
  abbrev pub view : ℕ → ℕ → List R.Denot → Bor (List R.Denot)
  view b o ys = record { ref_ptr = (b, o); now = ys }

  -- a `&mut [T]` and a `&[T]` that the function was lent, each with its lifetime's token
  abbrev pub lent : {M : Type 1} {𝓤 : Ura M} → MutBor (List R.Denot) → ℕ → Lft → Share → Item 𝓤
  lent x n κ q = ‵ ((MutSlice (named 0) κ R).own_val x (slice_val x.ref_ptr n ∷ [])) ⊛ ‵ (flft κ q)

  abbrev pub shared : {M : Type 1} {𝓤 : Ura M} → Bor (List R.Denot) → Lft → Share → Item 𝓤
  shared x κ q = ‵ ((ShrSlice (named 0) κ R).own_val x (shr_slice_vals x)) ⊛ ‵ (flft κ q)

  -- what is left of one that was opened at xs
  abbrev pub opened : {M : Type 1} {𝓤 : Ura M} → Lft → Share → GName → List R.Denot → ℕ → ℕ → Item 𝓤
  opened κ q γ xs b o = ‵ (fobor κ q (Held R (length xs) b o γ)) ⊛ (‵ (fobs γ ((coded_holeys R).code (heres R xs))) ⊛ ‵ (fauth γ ((coded_holeys R).code (heres R xs))))

  abbrev pub looked-into : {M : Type 1} {𝓤 : Ura M} → Logic 𝓤 → Lft → Share → Share → List R.Denot → ℕ → ℕ → Item 𝓤
  looked-into 𝓛 κ q s xs b o = Shut 𝓛 κ q (row R s xs b o) ⊛ ‵ (fhide (elements_shared R xs b o κ))

  module _ {M : Type 1} {𝓤 : Ura M} {𝓛 : Logic 𝓤} {K : Type 0} {Γ : List (Item 𝓤)} {G : Goal 𝓤 𝓛.H} where
    pub opens : K → Soaks G → {κ : Lft} {q : Share} {γ : GName} (xs : List R.Denot) (b o : ℕ) → Step K 𝓛 (‵ (row R full_share xs b o) ∷ opened κ q γ xs b o ∷ Γ) G (lent (slice b o γ xs) (length xs) κ q ∷ Γ) G
    opens t z xs b o = step (λ s. split t $ fsplit t $ drop t $ fsplit t $ Index.opens_slice t z R xs b o $ move t (2 ∷ 3 ∷ 1 ∷ []) $ join t $ move t (1 ∷ 0 ∷ []) $ join t $ move t (1 ∷ []) $ s)

    pub shuts : K → Soaks G → {κ : Lft} {q : Share} {γ : GName} (xs zs : List R.Denot) (b o : ℕ) → Room R (length xs) → length zs ≡ length xs
        → Step K 𝓛 (lent (slice b o γ zs) (length xs) κ q ∷ Γ) G (‵ (row R full_share zs b o) ∷ opened κ q γ xs b o ∷ Γ) G
    shuts t z {κ} {q} {γ} xs zs b o room e = step (λ s. move t (1 ∷ []) $ split t $ move t (1 ∷ []) $ split t $ move t (3 ∷ 2 ∷ 0 ∷ 1 ∷ []) $ closes_slice t z R xs zs e b o $ fjoin t $
        pure_i t (mut_slice_at R (slice b o γ zs) (slice_val (b, o) (length xs) ∷ [])) (tt, (tt, tt)) (ap (λ (n : ℕ). slice_val (b, o) n ∷ []) (sym e), subst (Room R) (sym e) room) $ fjoin t $ join t $ s)

    pub looks : K → Soaks G → Copied 𝓛 R → {κ : Lft} {q : Share} (xs : List R.Denot) (b o : ℕ)
        → ((s : Share) → Seq K 𝓛 (‵ (row R s xs b o) ∷ looked-into 𝓛 κ q s xs b o ∷ Γ) G) → Seq K 𝓛 (shared (view b o xs) κ q ∷ Γ) G
    looks t z cp xs b o k = split t $ fsplit t $ drop t $ looks_slice t z R cp xs b o (λ s. move t (1 ∷ 2 ∷ []) $ join t $ move t (1 ∷ []) $ k s)

    pub looked : K → Soaks G → {κ : Lft} {q : Share} (s : Share) (xs : List R.Denot) (b o : ℕ) → Room R (length xs)
        → Step K 𝓛 (shared (view b o xs) κ q ∷ Γ) G (‵ (row R s xs b o) ∷ looked-into 𝓛 κ q s xs b o ∷ Γ) G
    looked t z {κ} {q} s xs b o room = step (λ k. move t (1 ∷ []) $ split t $ move t (2 ∷ 0 ∷ []) $ Index.shuts_slice t z R s xs b o $ move t (1 ∷ []) $
        pure_i t (shr_slice_at R (view b o xs) (slice_val (b, o) (length xs) ∷ [])) (tt, (tt, tt)) (refl, room) $ fjoin t $ join t $ k)

    pub lends : K → Soaks G → (ℓ : Lifetime) (ys : List R.Denot) (b o : ℕ) → Room R (length ys)
        → ((α : ℕ) (γ : GName) → Seq K 𝓛 (‵ (flft (α ∷ []) full_share) ∷ ‵ ((MutSlice ℓ (α ∷ []) R).own_val (slice b o γ ys) (slice_val (b, o) (length ys) ∷ [])) ∷ ‵ (flent (α ∷ []) (Held R (length ys) b o γ)) ∷ Γ) G)
        → Seq K 𝓛 (‵ (row R full_share ys b o) ∷ Γ) G
    lends t z ℓ ys b o room k =
        use1 𝓛 (‵ (cells (mem R) ys b o)) (whole_in 𝓛 R ys b o) $ lft_new t z (λ α. move t (1 ∷ []) $
        use1 𝓛 (later (some (λ (γ : GName). ‵ ((MutSlice ℓ (α ∷ []) R).own_val (slice b o γ ys) (slice_val (b, o) (length ys) ∷ [])) ⊛ ‵ (flent (α ∷ []) (Held R (length ys) b o γ))))) (lends_slice 𝓛 R ℓ (α ∷ []) ys b o room) $
        await t z $ pick t (λ γ. split t $ move t (2 ∷ []) $ k α γ))

    pub lent_back : K → Soaks G → (α : ℕ) (γ : GName) (n : ℕ) (zs : List R.Denot) (b o : ℕ)
        → Step K 𝓛 (‵ (row R full_share zs b o) ∷ Γ) G (‵ (flft (α ∷ []) full_share) ∷ ‵ (flent (α ∷ []) (Held R n b o γ)) ∷ ‵ (finally R γ zs) ∷ Γ) G
    lent_back t z α γ n zs b o = step (λ s. lft_end t z $ use3 𝓛 (later (‵ ((Arr (mem R) n).own_at zs b o))) (slice_back 𝓛 R (α ∷ []) γ zs n b o) $ await t z $ fsplit t $ drop t $
        use1 𝓛 (‵ (row R full_share zs b o)) (whole_out 𝓛 R zs b o) $ s)

    pub shows : K → Soaks G → Copied 𝓛 R → (ℓ : Lifetime) (ys : List R.Denot) (b o : ℕ) → Room R (length ys)
        → ((α : ℕ) → Seq K 𝓛 (‵ (flft (α ∷ []) full_share) ∷ ‵ ((ShrSlice ℓ (α ∷ []) R).own_val (view b o ys) (slice_val (b, o) (length ys) ∷ [])) ∷ ‵ (flent (α ∷ []) ((arr_parts (shares R) (length ys)).part full_share ys b o)) ∷ Γ) G)
        → Seq K 𝓛 (‵ (row R full_share ys b o) ∷ Γ) G
    shows t z cp ℓ ys b o room k =
        feq_i t ℕ (length ys) (length ys) refl $ fjoin t $ lft_new t z (λ α. let ts : List (Lft × Share) = (α ∷ [], full_share) ∷ [] in
        use1 𝓛 (raw (lfts 𝓛 ts)) (id⊢ 𝓤 _) $ move t (1 ∷ []) $
        use2 𝓛 (later ((‵ ((ShrSlice ℓ (α ∷ []) R).own_val (view b o ys) (slice_val (b, o) (length ys) ∷ [])) ⊛ ‵ (flent (α ∷ []) ((arr_parts (shares R) (length ys)).part full_share ys b o))) ⊛ raw (lfts 𝓛 ts)))
        (lends_shr_slice 𝓛 R ℓ (α ∷ []) full_share ys b o room (α ∷ []) (cp.shares full_share (α ∷ [])) ts (Incl-refl (α ∷ [])) (Incl-refl (α ∷ []))) $
        await t z $ split t $ split t $ move t (2 ∷ []) $ use1 𝓛 (‵ (flft (α ∷ []) full_share)) (id⊢ 𝓤 _) $ k α)

    pub shown-back : K → Soaks G → (α : ℕ) (ys : List R.Denot) (b o : ℕ)
        → Step K 𝓛 (‵ (row R full_share ys b o) ∷ Γ) G (‵ (flft (α ∷ []) full_share) ∷ ‵ (flent (α ∷ []) ((arr_parts (shares R) (length ys)).part full_share ys b o)) ∷ Γ) G
    shown-back t z α ys b o = step (λ s. lft_end t z $ lender-back t z $ fsplit t $ drop t $ s)

-- the slice in local k is made again for a call: `_p = &*_k.0; _s = {_p, _k.1}`
pub reslices : {M : Type 1} {𝓤 : Ura M} {𝓛 : Logic 𝓤} {K : Type 0} {Γ : List (Item 𝓤)} {E : Env 𝓤 𝓛.H} {σ : List Cell} {C : Calls 𝓤 𝓛.H} {Λ : Loops 𝓤 𝓛.H} {q : Post 𝓤 𝓛.H} → K → {k p s : ℕ} {ρ υ : Ty} {b o n : ℕ} {rest : Body}
    → at E σ k ≡ holds (slice_val (b, o) n) → (spot_of 𝓤 𝓛.H E k).0 ≡ slice_ty ρ → Within E σ p → Holds (has_ty (spot_of 𝓤 𝓛.H E p).0 (vptr b o)) × WT (vptr b o) → at E (stored σ p (vptr b o)) p ≡ holds (vptr b o) → at E (stored σ p (vptr b o)) k ≡ holds (slice_val (b, o) n)
    → Within E (stored σ p (vptr b o)) s → Holds (has_ty (spot_of 𝓤 𝓛.H E s).0 (slice_val (b, o) n)) × WT (slice_val (b, o) n)
    → Step K 𝓛 (frame E (stored (stored σ p (vptr b o)) s (slice_val (b, o) n)) ∷ Γ) (runs C Λ E rest q)
    (frame E σ ∷ Γ) (runs C Λ E (seq (assign (place p []) (addr_of (place k (at_field 0 ∷ deref υ ∷ [])))) (seq (assign (place s []) (aggregate (copy (place p []) ∷ copy (place k (at_field 1 ∷ [])) ∷ []))) rest)) q)
reslices t h e in_p ty-p h-p h-k in-s ty-s = step (λ r. sets t (reborrows t h e refl refl) in_p ty-p $ sets t (agg t (and_then t (get t h-p) (and_then t (field t h-k e refl) (no_more t)))) in-s ty-s $ r)
