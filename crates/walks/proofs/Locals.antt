-- The locals of a function as one entry of a walk's context: `frame E σ` says that local k of the frame E holds what entry k of σ says.
-- Assumes nothing: `Logic` is an argument.
--     get, field, reborrows     a copy of a local, of a field of a struct in it, and the place that a reference in a field holds
--     sets, sets_last           a local is assigned, and more follows or nothing
--     forgets                   the locals from number m on are not read again
--     takes-away, puts_back     a local's memory is taken out of the frame, to be lent, and put back
--     starts, leaves            the function is entered, with its parameters in their locals; it returns what local 0 holds
use mathlib.Core.Path.{◌≡◌, refl, sym, ap, subst, ◌∙◌}
use mathlib.Core.Option.{some}
use mathlib.Core.List.{List, [], ◌∷◌}
use Prim.Native.Nat.{ℕ, zero, suc, ◌+◌}
use lib.Dec.{T}
use lib.ListN.{get_or}
use seplogic.Ra.Ura.{Ura}
use base.Fraction.{full_share}
use mir.Syntax.{Ty, Tys, Sym, ty_struct, place, deref, field as at_field, copy, Rv as RValue, addr_of, Body, seq, assign, return, Local, local, Fn}
use mir.Fields.{get_v, set_v}
use mir.Val.{Val, vptr, vstruct, Vals, WT, has_ty}
use base.Logic.{SProp, never, fst∗, ent, sep, wand, id⊢, via, assoc∗, assoc', guard_i, never_e}
use base.Fml.{Fml, ffalse, ftrue, fsep, fat, froom, fdies}
use prog.Memory.{field_at, field_of}
use prog.Wp.{Env, no_local, spot_of, Calls, Loops, WpFn, write, at_return, next, returns as returnsᴼ}
use types.Logic.{Logic, sem}
use types.Kit.{Item, ‵, raw, pop, given, mean, ◌⊛◌, ⋆, Post, Goal, prop, runs, passes, params', allocs, frees, at_ret, post, Seq, Step, step, ◌$◌, ◌∵◌, !, qed, by, check, each, assume, learn, rewrite, move, drop, split, fsplit, fjoin, frame as framing, done, use0, use1, use2}
use types.Run.{Writes, Opd, Rv, stop, hop, fld, from, load, addr, init, assigns, assigns_last, returns_within, enter, alloc1, alloc0, params1, pass1, pass0, free1, free0}
use types.Part.{Part, sub, look_in}

-- what a local holds: nothing that is read, or a value; or its memory has been taken away, to be lent
pub data Cell : Type 0 where
  room : Cell
  holds : Val → Cell
  away : Cell

-- n of them that hold nothing
abbrev pub rooms : ℕ → List Cell
rooms zero = []
rooms (suc n) = room ∷ rooms n

abbrev cell : Ty × ℕ → Cell → Fml
cell e room = froom e.0 e.1 zero
cell e (holds v) = fat full_share e.0 e.1 zero v
cell e away = ftrue

pub locals : List (Ty × ℕ) → List Cell → Fml
locals [] σ = ftrue
locals (e ∷ E) [] = ffalse
locals (e ∷ E) (c ∷ σ) = fsep (fsep (cell e c) (fdies e.0 e.1)) (locals E σ)

-- as an entry of a context. E and σ stand in `Frame` so that antt reads them off
pub data Frame (E : List (Ty × ℕ)) (σ : List Cell) : Type 0 where
  framed : Frame E σ

abbrev pub frame : {M : Type 1} {𝓤 : Ura M} → List (Ty × ℕ) → List Cell → Item 𝓤
frame E σ = given (Frame E σ) (‵ (locals E σ))

-- what local k holds; there is a local k
abbrev pub at : List (Ty × ℕ) → List Cell → ℕ → Cell
at [] σ k = room
at (e ∷ E) [] k = room
at (e ∷ E) (c ∷ σ) zero = c
at (e ∷ E) (c ∷ σ) (suc k) = at E σ k

-- its memory is there
abbrev Here : Cell → Type 0
Here room = Unit {0}
Here (holds v) = Unit {0}
Here away = ⊥

abbrev pub Within : List (Ty × ℕ) → List Cell → ℕ → Type 0
Within [] σ k = ⊥
Within (e ∷ E) [] k = ⊥
Within (e ∷ E) (c ∷ σ) zero = Here c
Within (e ∷ E) (c ∷ σ) (suc k) = Within E σ k

abbrev pub AllHere : List Cell → Type 0
AllHere [] = Unit {0}
AllHere (room ∷ σ) = AllHere σ
AllHere (holds v ∷ σ) = AllHere σ
AllHere (away ∷ σ) = ⊥

-- local k holds something else
abbrev pub changed : List Cell → ℕ → Cell → List Cell
changed [] k d = []
changed (c ∷ σ) zero d = d ∷ σ
changed (c ∷ σ) (suc k) d = c ∷ changed σ k d

abbrev pub stored : List Cell → ℕ → Val → List Cell
stored σ k v = changed σ k (holds v)

-- the locals from number m on are not read again
abbrev spent : Cell → Cell
spent room = room
spent (holds v) = room
spent away = away

abbrev pub kept : ℕ → List Cell → List Cell
kept m [] = []
kept zero (c ∷ σ) = spent c ∷ kept zero σ
kept (suc m) (c ∷ σ) = c ∷ kept m σ

-- ---- one local, and the others
others : List (Ty × ℕ) → List Cell → ℕ → Fml
others [] σ k = ftrue
others (e ∷ E) [] k = ftrue
others (e ∷ E) (c ∷ σ) zero = fsep (fdies e.0 e.1) (locals E σ)
others (e ∷ E) (c ∷ σ) (suc k) = fsep (fsep (cell e c) (fdies e.0 e.1)) (others E σ k)

abbrev Empty : Cell → Type 0
Empty room = Unit {0}
Empty (holds v) = ⊥
Empty away = ⊥

-- past the last local there is none
abbrev Inside : List (Ty × ℕ) → List Cell → ℕ → Type 0
Inside [] σ k = ⊥
Inside (e ∷ E) [] k = ⊥
Inside (e ∷ E) (c ∷ σ) zero = Unit {0}
Inside (e ∷ E) (c ∷ σ) (suc k) = Inside E σ k

inside : (E : List (Ty × ℕ)) (σ : List Cell) (k : ℕ) {c : Cell} → at E σ k ≡ c → (Empty c → ⊥) → Inside E σ k
inside [] σ k h n = absurd (n (subst Empty h tt))
inside (e ∷ E) [] k h n = absurd (n (subst Empty h tt))
inside (e ∷ E) (c ∷ σ) zero h n = tt
inside (e ∷ E) (c ∷ σ) (suc k) h n = inside E σ k h n

same : (E : List (Ty × ℕ)) (σ : List Cell) (k : ℕ) (c : Cell) → Inside E σ k → at E σ k ≡ c → changed σ k c ≡ σ
same [] σ k d w h = absurd w
same (e ∷ E) [] k d w h = absurd w
same (e ∷ E) (c ∷ σ) zero d w h = ap (λ (x : Cell). x ∷ σ) (sym h)
same (e ∷ E) (c ∷ σ) (suc k) d w h = ap (λ (ρ : List Cell). c ∷ ρ) (same E σ k d w h)

within-inside : (E : List (Ty × ℕ)) (σ : List Cell) (k : ℕ) → Within E σ k → Inside E σ k
within-inside [] σ k w = absurd w
within-inside (e ∷ E) [] k w = absurd w
within-inside (e ∷ E) (c ∷ σ) zero w = tt
within-inside (e ∷ E) (c ∷ σ) (suc k) w = within-inside E σ k w

module _ {M : Type 1} {𝓤 : Ura M} (𝓛 : Logic 𝓤) where
  open 𝓛 use {H}

  abbrev ⟦◌⟧ : Fml → SProp 𝓤
  ⟦ P ⟧ = sem 𝓛 P

  -- what local k holds is taken out
  taken : (E : List (Ty × ℕ)) (σ : List Cell) (k : ℕ) → Inside E σ k → ent 𝓤 ⟦ locals E σ ⟧ (sep 𝓤 ⟦ cell (get_or E k (no_local 𝓤 H)) (at E σ k) ⟧ ⟦ others E σ k ⟧)
  unfolding locals others
  taken [] σ k w = absurd w
  taken (e ∷ E) [] k w = absurd w
  taken (e ∷ E) (c ∷ σ) zero w = assoc∗ 𝓤 ⟦ cell e c ⟧ ⟦ fdies e.0 e.1 ⟧ ⟦ locals E σ ⟧
  taken (e ∷ E) (c ∷ σ) (suc k) w = qed 𝓛 (‵ (locals (e ∷ E) (c ∷ σ)) ∷ []) ∵ fsplit ! $ move ! (1 ∷ []) $
      use1 𝓛 (‵ (cell (get_or E k (no_local 𝓤 H)) (at E σ k)) ⊛ ‵ (others E σ k)) (taken E σ k w) $ split ! $ framing ! $ move ! (1 ∷ 0 ∷ []) $ done !

  -- and something else is put in
  filled : (E : List (Ty × ℕ)) (σ : List Cell) (k : ℕ) (d : Cell) → Inside E σ k → ent 𝓤 (sep 𝓤 ⟦ cell (get_or E k (no_local 𝓤 H)) d ⟧ ⟦ others E σ k ⟧) ⟦ locals E (changed σ k d) ⟧
  unfolding locals others
  filled [] σ k d w = absurd w
  filled (e ∷ E) [] k d w = absurd w
  filled (e ∷ E) (c ∷ σ) zero d w = assoc' 𝓤 ⟦ cell e d ⟧ ⟦ fdies e.0 e.1 ⟧ ⟦ locals E σ ⟧
  filled (e ∷ E) (c ∷ σ) (suc k) d w = qed 𝓛 (‵ (cell (get_or E k (no_local 𝓤 H)) d) ∷ ‵ (others (e ∷ E) (c ∷ σ) (suc k)) ∷ []) ∵ move ! (1 ∷ []) $ fsplit ! $ move ! (2 ∷ 1 ∷ []) $
      use2 𝓛 (‵ (locals E (changed σ k d))) (filled E σ k d w) $ move ! (1 ∷ 0 ∷ []) $ done !

  -- a cell that is there is room
  emptied : (e : Ty × ℕ) (c : Cell) → Here c → ent 𝓤 ⟦ cell e c ⟧ ⟦ cell e room ⟧
  emptied e room h = id⊢ 𝓤 _
  emptied e (holds v) h = 𝓛.laws.at_room e.0 e.1 zero v
  emptied e away h = absurd h

  cleared : (E : List (Ty × ℕ)) (σ : List Cell) (k : ℕ) → Within E σ k → ent 𝓤 ⟦ cell (get_or E k (no_local 𝓤 H)) (at E σ k) ⟧ ⟦ cell (get_or E k (no_local 𝓤 H)) room ⟧
  cleared [] σ k w = absurd w
  cleared (e ∷ E) [] k w = absurd w
  cleared (e ∷ E) (c ∷ σ) zero w = emptied e c w
  cleared (e ∷ E) (c ∷ σ) (suc k) w = cleared E σ k w

  forgotten : (E : List (Ty × ℕ)) (m : ℕ) (σ : List Cell) → ent 𝓤 ⟦ locals E σ ⟧ ⟦ locals E (kept m σ) ⟧
  unfolding locals
  forgotten [] m σ = id⊢ 𝓤 _
  forgotten (e ∷ E) m [] = id⊢ 𝓤 _
  forgotten (e ∷ E) zero (c ∷ σ) = qed 𝓛 (‵ (locals (e ∷ E) (c ∷ σ)) ∷ []) ∵ fsplit ! $ fsplit ! $ use1 𝓛 (‵ (cell e (spent c))) (spends c) $ fjoin ! $ framing ! $ by ! (forgotten E zero σ)
    where
      spends : (d : Cell) → ent 𝓤 ⟦ cell e d ⟧ ⟦ cell e (spent d) ⟧
      spends room = id⊢ 𝓤 _
      spends (holds v) = 𝓛.laws.at_room e.0 e.1 zero v
      spends away = id⊢ 𝓤 _
  forgotten (e ∷ E) (suc m) (c ∷ σ) = qed 𝓛 (‵ (locals (e ∷ E) (c ∷ σ)) ∷ []) ∵ fsplit ! $ framing ! $ by ! (forgotten E m σ)

-- ---- the rules. The frame stands first in the context
module _ {M : Type 1} {𝓤 : Ura M} {𝓛 : Logic 𝓤} {K : Type 0} where
  open 𝓛 use {H}

  pub in_frame : K → {E : Env 𝓤 H} {σ : List Cell} {Γ : List (Item 𝓤)} {G : Goal 𝓤 H} → Step K 𝓛 (frame E σ ∷ Γ) G (‵ (locals E σ) ∷ Γ) G
  in_frame t {E} {σ} = use1 𝓛 (frame E σ) (guard_i 𝓤 (Frame E σ) (sem 𝓛 (locals E σ)) framed)

  pub out-of-frame : K → {E : Env 𝓤 H} {σ : List Cell} {Γ : List (Item 𝓤)} {G : Goal 𝓤 H} → Step K 𝓛 (‵ (locals E σ) ∷ Γ) G (frame E σ ∷ Γ) G
  out-of-frame t = step (λ s. learn t (λ _. s))

module _ {M : Type 1} {𝓤 : Ura M} {𝓛 : Logic 𝓤} {K : Type 0} where
  -- the memory of local k is taken away, and put back
  open 𝓛 use {H}

  pub takes-away : K → (k : ℕ) {E : Env 𝓤 H} {σ : List Cell} {v : Val} {Γ : List (Item 𝓤)} {G : Goal 𝓤 H} → at E σ k ≡ holds v
      → Step K 𝓛 (‵ (fat full_share (spot_of 𝓤 H E k).0 (spot_of 𝓤 H E k).1 zero v) ∷ frame E (changed σ k away) ∷ Γ) G (frame E σ ∷ Γ) G
  takes-away t k {E} {σ} {v} h =
      let in-it = inside E σ k h (λ z. z) in
      step (λ s. out-of-frame t $ use1 𝓛 (‵ (cell (get_or E k (no_local 𝓤 H)) (at E σ k)) ⊛ ‵ (others E σ k)) (taken 𝓛 E σ k in-it) $ split t $ rewrite t 0 (λ (c : Cell). ‵ (cell (get_or E k (no_local 𝓤 H)) c)) h refl $
      use0 𝓛 (‵ ftrue) (id⊢ 𝓤 _) $ move t (0 ∷ 2 ∷ []) $ use2 𝓛 (‵ (locals E (changed σ k away))) (filled 𝓛 E σ k away in-it) $ in_frame t $ move t (1 ∷ 0 ∷ []) $ s)

  pub puts_back : K → (k : ℕ) {E : Env 𝓤 H} {σ : List Cell} {v : Val} {Γ : List (Item 𝓤)} {G : Goal 𝓤 H} → at E σ k ≡ away
      → Step K 𝓛 (frame E (stored σ k v) ∷ Γ) G (‵ (fat full_share (spot_of 𝓤 H E k).0 (spot_of 𝓤 H E k).1 zero v) ∷ frame E σ ∷ Γ) G
  puts_back t k {E} {σ} {v} h =
      let in-it = inside E σ k h (λ z. z) in
      step (λ s. move t (1 ∷ []) $ out-of-frame t $ use1 𝓛 (‵ (cell (get_or E k (no_local 𝓤 H)) (at E σ k)) ⊛ ‵ (others E σ k)) (taken 𝓛 E σ k in-it) $ split t $ drop t $ move t (1 ∷ 0 ∷ []) $
      use2 𝓛 (‵ (locals E (stored σ k v))) (filled 𝓛 E σ k (holds v) in-it) $ in_frame t $ s)

  -- local k can be read, and put back with any value
  pub held : K → {E : Env 𝓤 H} {σ : List Cell} (k : ℕ) {v : Val} → at E σ k ≡ holds v → Part K 𝓛 (frame E σ) full_share (spot_of 𝓤 H E k).0 (spot_of 𝓤 H E k).1 zero v (λ u. frame E (stored σ k u))
  held t {E} {σ} k {v} h =
      let in-it = inside E σ k h (λ z. z) in
      record {
        out = qed 𝓛 (frame E σ ∷ []) ∵ out-of-frame ! $ use1 𝓛 (‵ (cell (get_or E k (no_local 𝓤 H)) (at E σ k)) ⊛ ‵ (others E σ k)) (taken 𝓛 E σ k in-it) $ split ! $ rewrite ! 0 (λ (c : Cell). ‵ (cell (get_or E k (no_local 𝓤 H)) c)) h refl $ framing ! $
            each ! (λ (u : Val). wand 𝓤 (sem 𝓛 (cell (get_or E k (no_local 𝓤 H)) (holds u))) (mean 𝓛 (frame E (stored σ k u)))) (λ u. assume ! (‵ (cell (get_or E k (no_local 𝓤 H)) (holds u))) $
            use2 𝓛 (‵ (locals E (stored σ k u))) (filled 𝓛 E σ k (holds u) in-it) $ in_frame ! $ done !);
        same = ap (λ (ρ : List Cell). frame E ρ) (same E σ k (holds v) in-it h);
      }

  part_of : K → {E : Env 𝓤 H} {σ : List Cell} (k j : ℕ) {ν : Sym} {τs : Tys} {vs : Vals} {τ : Ty} {d : ℕ} → at E σ k ≡ holds (vstruct vs) → (spot_of 𝓤 H E k).0 ≡ ty_struct ν τs → field_at zero τs j ≡ some (τ, d)
      → Part K 𝓛 (frame E σ) full_share τ (spot_of 𝓤 H E k).1 (zero + d) (get_v vs j) (λ u. frame E (stored σ k (vstruct (set_v vs j u))))
  part_of t {E} {σ} k j {ν} {τs} {vs} h s e = sub t j e (subst (λ (υ : Ty). Part K 𝓛 (frame E σ) full_share υ (spot_of 𝓤 H E k).1 zero (vstruct vs) (λ u. frame E (stored σ k u))) s (held t k h))

  module _ {Γ : List (Item 𝓤)} {E : Env 𝓤 H} {σ : List Cell} where
    pub get : K → {k : ℕ} {v : Val} → at E σ k ≡ holds v → Opd K 𝓛 (frame E σ ∷ Γ) E (copy (place k [])) v
    get t {k} h = load t (from t (stop t)) (look_in t 0 (held t k h))

    pub field : K → {k j : ℕ} {ν : Sym} {τs : Tys} {vs : Vals} {τ : Ty} {d : ℕ} → at E σ k ≡ holds (vstruct vs) → (spot_of 𝓤 H E k).0 ≡ ty_struct ν τs → field_at zero τs j ≡ some (τ, d)
        → Opd K 𝓛 (frame E σ ∷ Γ) E (copy (place k (at_field j ∷ []))) (get_v vs j)
    field t {k} {j} {ν} {τs} {vs} {τ} {d} h s e =
        load t (from t (fld t (ap (λ (υ : Ty). field_of υ j) s ∙ e) (stop t))) (look_in t 0 (part_of t k j h s e))

    -- the place that a reference in a field of local k holds: `&*_k.j`
    pub reborrows : K → {k j : ℕ} {ν : Sym} {τs : Tys} {vs : Vals} {τ υ : Ty} {d b o : ℕ} → at E σ k ≡ holds (vstruct vs) → (spot_of 𝓤 H E k).0 ≡ ty_struct ν τs → field_at zero τs j ≡ some (τ, d) → get_v vs j ≡ vptr b o
        → Rv K 𝓛 (frame E σ ∷ Γ) E (addr_of (place k (at_field j ∷ deref υ ∷ []))) (vptr b o)
    reborrows t {k} {j} {ν} {τs} {vs} {τ} {υ} {d} {b} {o} h s e p =
        addr t (from t (fld t (ap (λ (υ : Ty). field_of υ j) s ∙ e) (hop t (look_in t 0 (subst (λ (v : Val). Part K 𝓛 (frame E σ) full_share τ (spot_of 𝓤 H E k).1 (zero + d) v (λ u. frame E (stored σ k (vstruct (set_v vs j u))))) p (part_of t k j h s e))) (stop t))))

    pub stores : K → (k : ℕ) {v : Val} → Within E σ k → T (has_ty (spot_of 𝓤 H E k).0 v) × WT v → Writes K 𝓛 (frame E σ ∷ Γ) (spot_of 𝓤 H E k).0 (spot_of 𝓤 H E k).1 zero v (frame E (stored σ k v) ∷ Γ)
    stores t k {v} in-it ty = record {
      go = λ P h. let s : Seq K 𝓛 (frame E σ ∷ Γ) (prop (write 𝓤 H (spot_of 𝓤 H E k).0 (spot_of 𝓤 H E k).1 zero v P)) = check t ty $ out-of-frame t $
          use1 𝓛 (‵ (cell (get_or E k (no_local 𝓤 H)) (at E σ k)) ⊛ ‵ (others E σ k)) (taken 𝓛 E σ k (within-inside E σ k in-it)) $ split t $ use1 𝓛 (‵ (cell (get_or E k (no_local 𝓤 H)) room)) (cleared 𝓛 E σ k in-it) $ framing t $
          assume t (‵ (cell (get_or E k (no_local 𝓤 H)) (holds v))) $ use2 𝓛 (‵ (locals E (stored σ k v))) (filled 𝓛 E σ k (holds v) (within-inside E σ k in-it)) $ in_frame t $ by t h in s.prf;
    }

    module _ {C : Calls 𝓤 H} {Λ : Loops 𝓤 H} {q : Post 𝓤 H} {k : ℕ} {rv : RValue} {v : Val} where
      pub sets : K → {rest : Body} → Rv K 𝓛 (frame E σ ∷ Γ) E rv v → Within E σ k → T (has_ty (spot_of 𝓤 H E k).0 v) × WT v
          → Step K 𝓛 (frame E (stored σ k v) ∷ Γ) (runs C Λ E rest q) (frame E σ ∷ Γ) (runs C Λ E (seq (assign (place k []) rv) rest) q)
      sets t r in-it ty = assigns t r (from t (stop t)) (stores t k in-it ty)

      pub sets_last : K → Rv K 𝓛 (frame E σ ∷ Γ) E rv v → Within E σ k → T (has_ty (spot_of 𝓤 H E k).0 v) × WT v
          → Step K 𝓛 (frame E (stored σ k v) ∷ Γ) (prop (post 𝓤 H q next)) (frame E σ ∷ Γ) (runs C Λ E (assign (place k []) rv) q)
      sets_last t r in-it ty = assigns_last t r (from t (stop t)) (stores t k in-it ty)

    pub forgets : K → (m : ℕ) {G : Goal 𝓤 H} → Step K 𝓛 (frame E (kept m σ) ∷ Γ) G (frame E σ ∷ Γ) G
    forgets t m = step (λ s. out-of-frame t $ use1 𝓛 (‵ (locals E (kept m σ))) (forgotten 𝓛 E m σ) $ in_frame t $ s)

-- ---- a function is entered, and returns
-- the locals at the places l
abbrev pub env : List Local → (ℕ → ℕ) → List (Ty × ℕ)
env [] l = []
env (local τ h ∷ ls) l = (τ, l zero) ∷ env ls (λ i. l (suc i))

-- the first of them hold vs
abbrev given-vals : List Local → List Val → List Cell
given-vals [] vs = []
given-vals (d ∷ ls) [] = room ∷ given-vals ls []
given-vals (d ∷ ls) (v ∷ vs) = holds v ∷ given-vals ls vs

abbrev Typeds : List Local → List Val → Type 0
Typeds ls [] = Unit {0}
Typeds [] (v ∷ vs) = ⊥
Typeds (local τ h ∷ ls) (v ∷ vs) = (T (has_ty τ v) × WT v) × Typeds ls vs

-- the parameters are the locals after the result
abbrev pub at_entry : List Local → List Val → List Cell
at_entry [] vs = []
at_entry (d ∷ ls) vs = room ∷ given-vals ls vs

abbrev pub Passable : List Local → List Val → Type 0
Passable [] vs = ⊥
Passable (d ∷ ls) vs = Typeds ls vs

abbrev first_then : ℕ → (ℕ → ℕ) → ℕ → ℕ
first_then b l zero = b
first_then b l (suc i) = l i

module _ {M : Type 1} {𝓤 : Ura M} {𝓛 : Logic 𝓤} {K : Type 0} where
  open 𝓛 use {H}

  allocated : K → (ls : List Local) (Kt : Env 𝓤 H → Goal 𝓤 H) (Γ : List (Item 𝓤)) → ((l : ℕ → ℕ) → Seq K 𝓛 (‵ (locals (env ls l) (given-vals ls [])) ∷ Γ) (Kt (env ls l))) → Seq K 𝓛 Γ (allocs ls Kt)
  unfolding locals
  allocated t [] Kt Γ k = alloc0 t $ use0 𝓛 (‵ ftrue) (id⊢ 𝓤 _) $ k (λ i. i)
  allocated t (local τ h ∷ ls) Kt Γ k = alloc1 t (λ b. allocated t ls (λ E. Kt ((τ, b) ∷ E)) (‵ (froom τ b zero) ∷ ‵ (fdies τ b) ∷ Γ) (λ l. move t (1 ∷ 2 ∷ 0 ∷ []) $ fjoin t $ fjoin t $ k (first_then b l)))

  passed : K → (ls : List Local) (l : ℕ → ℕ) (vs : List Val) (Γ : List (Item 𝓤)) (g : Goal 𝓤 H) → Typeds ls vs → Seq K 𝓛 (‵ (locals (env ls l) (given-vals ls vs)) ∷ Γ) g → Seq K 𝓛 (‵ (locals (env ls l) (given-vals ls [])) ∷ Γ) (passes (env ls l) vs g)
  unfolding locals
  passed t ls l [] Γ g ty s = pass0 t $ s
  passed t [] l (v ∷ vs) Γ g ty s = absurd ty
  passed t (local τ h ∷ ls) l (v ∷ vs) Γ g ty s = fsplit t $ fsplit t $ pass1 t (init t 0 refl ty.0) $ move t (2 ∷ []) $
      passed t ls (λ i. l (suc i)) vs (‵ (fat full_share τ (l zero) zero v) ∷ ‵ (fdies τ (l zero)) ∷ Γ) g ty.1 (move t (1 ∷ 2 ∷ 0 ∷ []) $ fjoin t $ fjoin t $ s)

  passed-after : K → (ls : List Local) (l : ℕ → ℕ) (vs : List Val) (Γ : List (Item 𝓤)) (g : Goal 𝓤 H) → Passable ls vs → Seq K 𝓛 (‵ (locals (env ls l) (at_entry ls vs)) ∷ Γ) g → Seq K 𝓛 (‵ (locals (env ls l) (given-vals ls [])) ∷ Γ) (params' (env ls l) vs g)
  unfolding locals
  passed-after t [] l vs Γ g ty s = absurd ty
  passed-after t (local τ h ∷ ls) l vs Γ g ty s = params1 t $ fsplit t $ move t (1 ∷ []) $ passed t ls (λ i. l (suc i)) vs (‵ (fsep (froom τ (l zero) zero) (fdies τ (l zero))) ∷ Γ) g ty (move t (1 ∷ 0 ∷ []) $ fjoin t $ s)

  freed : K → (E : Env 𝓤 H) (σ : List Cell) (Γ : List (Item 𝓤)) (g : Goal 𝓤 H) → AllHere σ → Seq K 𝓛 Γ g → Seq K 𝓛 (‵ (locals E σ) ∷ Γ) (frees E g)
  unfolding locals
  freed t [] σ Γ g h s = drop t $ free0 t $ s
  freed t (e ∷ E) [] Γ g h s = use1 𝓛 (raw (never 𝓤)) (id⊢ 𝓤 _) $ by t (via 𝓤 _ (pop 𝓛 (raw (never 𝓤)) Γ) (via 𝓤 _ (fst∗ 𝓤 (never 𝓤) (⋆ 𝓛 Γ)) (never_e 𝓤 _)))
  freed t (e ∷ E) (room ∷ σ) Γ g h s = fsplit t $ fsplit t $ free1 t $ freed t E σ Γ g h s
  freed t (e ∷ E) (holds v ∷ σ) Γ g h s = fsplit t $ fsplit t $ use1 𝓛 (‵ (cell e room)) (𝓛.laws.at_room e.0 e.1 zero v) $ free1 t $ freed t E σ Γ g h s
  freed t (e ∷ E) (away ∷ σ) Γ g h s = absurd h

  module _ {Γ : List (Item 𝓤)} {C : Calls 𝓤 H} {Λ : Loops 𝓤 H} where
    pub starts : K → (f : Fn) (vs : List Val) {Kf : Val → SProp 𝓤} → Passable f.locals vs
        → ((l : ℕ → ℕ) → Seq K 𝓛 (frame (env f.locals l) (at_entry f.locals vs) ∷ Γ) (runs C Λ (env f.locals l) f.body (at_ret (env f.locals l) Kf)))
        → Seq K 𝓛 Γ (prop (WpFn 𝓤 H C Λ f vs Kf))
    starts t f vs {Kf} ty k = enter t C Λ f vs Kf $ allocated t f.locals _ Γ (λ l. passed-after t f.locals l vs Γ _ ty (in_frame t $ k l))

    -- a `return` anywhere: q has to be the function's postcondition where the code returns
    pub leaves : K → {E : Env 𝓤 H} {σ : List Cell} {q : Post 𝓤 H} (Kf : Val → SProp 𝓤) {r : Val} → post 𝓤 H q returnsᴼ ≡ at_return 𝓤 H E Kf returnsᴼ → at E σ zero ≡ holds r → AllHere σ
        → Step K 𝓛 Γ (prop (Kf r)) (frame E σ ∷ Γ) (runs C Λ E return q)
    leaves t {E} {σ} Kf e h all = step (λ s. returns_within t Kf e (look_in t 0 (held t zero h)) $ out-of-frame t $ freed t E σ Γ _ all s)
