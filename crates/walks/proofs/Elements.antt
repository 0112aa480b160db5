-- One element of a slice of structs, in one step: it is copied out, `_d = *_k`, or another is stored, `*_k = _x`. Behind the frame stands the row of the elements (`Slices.antt`).
-- Assumes nothing: `Logic` is an argument.
use mathlib.Core.Path.{◌≡◌, refl, sym, ap, subst, ◌∙◌}
use Prim.Native.Nat.{ℕ, ◌+◌, ◌*◌, ◌<◌}
use mathlib.Core.List.{List, [], ◌∷◌}
use lib.Dec.{T as Holds}
use lib.ListN.{length, get_or, set}
use seplogic.Ra.Ura.{Ura}
use base.Fraction.{full_share}
use mir.Syntax.{Ty, deref, place as at_place, copy, rv_opd, Body, seq, assign}
use mir.Val.{vptr, has_ty, WT}
use base.Fml.{Share}
use prog.Wp.{Env, spot_of, Calls, Loops}
use types.Logic.{Logic}
use types.Kit.{Item, ‵, Post, runs, Seq, Step, step, ◌$◌, move, drop}
use types.Run.{look_raw, store_raw, stop, hop, from, load, of_opd, assigns}
use types.Part.{look_in}
use denote.Laws.{Is, shows}
use denote.Memory.{mem}
use denote.Index.{place, place_is, row as row_of, elem_out, elem_back, elem_put}
use denote.Steps.{owned}
use denote.Struct.Struct.{layout, Plains}
use denote.Struct.Declared.{Declared, fields, shape, row}
use denote.Struct.Laws.{Laws, val, vals, tells, lawful, makes}
use Rattle.walks.proofs.Locals.{Cell, holds, frame, at, Within, stored, held, get, stores}

-- where element i lies, as the code works it out
placed : (s b o i : ℕ) {c : Cell} → c ≡ holds (vptr b (i * s + o)) → c ≡ holds (vptr b (place s o i))
placed s b o i e = e ∙ ap (λ (n : ℕ). holds (vptr b n)) (sym (place_is s o i))

module _ (T : Declared) (L : Laws T) {M : Type 1} {𝓤 : Ura M} {𝓛 : Logic 𝓤} {K : Type 0} {Γ : List (Item 𝓤)} {E : Env 𝓤 𝓛.H} {σ : List Cell} {C : Calls 𝓤 𝓛.H} {Λ : Loops 𝓤 𝓛.H} {q : Post 𝓤 𝓛.H} {k : ℕ} {rest : Body} where
  open 𝓛 use {H}

  pub reads_element : K → (s : Share) (ys : List T.D) (b o i : ℕ) (x : T.D) → i < length ys → at E σ k ≡ holds (vptr b (i * (mem (row T)).size + o))
      → {d : ℕ} → Within E σ d → (spot_of 𝓤 H E d).0 ≡ layout (shape T)
      → (Is (row T) (get_or ys i x) (vals T L (get_or ys i x)) → Seq K 𝓛 (frame E (stored σ d (val T L (get_or ys i x))) ∷ ‵ (row_of (row T) s ys b o) ∷ Γ) (runs C Λ E rest q))
      → Seq K 𝓛 (frame E σ ∷ ‵ (row_of (row T) s ys b o) ∷ Γ) (runs C Λ E (seq (assign (at_place d []) (rv_opd (copy (at_place k (deref (layout (shape T)) ∷ []))))) rest) q)
  reads_element t s ys b o i x within ptr {d} in-it ty k' =
      move t (1 ∷ []) $ elem_out t (row T) (Is (row T)) (shows 𝓛 (row T)) (vals T L) (tells T L) s ys i x b o within (λ is. move t (3 ∷ []) $
      assigns t (of_opd t (load t (from t (hop t (look_in t 0 (held t k (placed (mem (row T)).size b o i ptr))) (stop t))) (look_raw t 1 refl))) (from t (stop t))
      (stores t d in-it (subst (λ (τ : Ty). Holds (has_ty τ (val T L (get_or ys i x))) × WT (val T L (get_or ys i x))) (sym ty) ((lawful T L 𝓛).typed (get_or ys i x) _ is).0)) $
      move t (1 ∷ 2 ∷ 3 ∷ []) $ elem_back t (row T) s ys i x (vals T L (get_or ys i x)) b o within $ move t (1 ∷ []) $ k' is)

  pub writes_element : Plains (fields T) → K → (ys : List T.D) (b o i : ℕ) (x c : T.D) → i < length ys → at E σ k ≡ holds (vptr b (i * (mem (row T)).size + o))
      → Is (row T) c (vals T L c) → {j : ℕ} → at E σ j ≡ holds (val T L c)
      → Step K 𝓛 (frame E σ ∷ ‵ (row_of (row T) full_share (set ys i c) b o) ∷ Γ) (runs C Λ E rest q)
      (frame E σ ∷ ‵ (row_of (row T) full_share ys b o) ∷ Γ) (runs C Λ E (seq (assign (at_place k (deref (layout (shape T)) ∷ [])) (rv_opd (copy (at_place j [])))) rest) q)
  writes_element pl t ys b o i x c within ptr is new = step (λ k'.
      move t (1 ∷ []) $ elem_out t (row T) (Is (row T)) (shows 𝓛 (row T)) (vals T L) (tells T L) full_share ys i x b o within (λ _. move t (3 ∷ []) $
      assigns t (of_opd t (get t new)) (from t (hop t (look_in t 0 (held t k (placed (mem (row T)).size b o i ptr))) (stop t))) (store_raw t 1 refl ((lawful T L 𝓛).typed c _ is).0) $
      move t (2 ∷ []) $ drop t $ owned t (row T) (Is (row T)) (makes T pl 𝓛) c _ is $ move t (2 ∷ 0 ∷ 3 ∷ []) $ elem_put t (row T) full_share ys i c (vals T L c) b o within $ move t (1 ∷ []) $ k'))
