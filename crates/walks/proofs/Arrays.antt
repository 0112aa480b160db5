-- A local array of structs, taken apart into the row of its elements, which is then lent as a slice (`Slices.antt`), and put together again.
-- Assumes nothing: `Logic` is an argument.
--     opens-array, shuts-array     the array's memory is the row of its elements, and back. Its relation is asked as a field of a struct has it, at the elements' tuples
--     cuts, joins                  a row is its first elements and the rest
use mathlib.Core.Path.{◌≡◌, refl, sym, ap}
use Prim.Native.Nat.{ℕ, zero, suc, ◌+◌}
use mathlib.Core.List.{List, [], ◌∷◌, ◌++◌, map}
use lib.ListN.{length}
use seplogic.Ra.Ura.{Ura}
use base.Fraction.{full_share}
use mir.Syntax.{ty_array}
use mir.Val.{Val}
use base.Logic.{ent, sep}
use base.Fml.{Share, fat}
use types.Logic.{Logic, sem}
use types.Kit.{Goal, Item, ‵, ◌⊛◌, some as some_i, Seq, ◌$◌, ◌∵◌, !, qed, move, use1, use2, drop, split, pick, recast, fsplit, fjoin, feq_l, feq_i, done}
use types.Share.{arr_parts}
use denote.RattleType.{RattleType}
use denote.Memory.{mem, shares, part_at}
use denote.Laws.{Is, shows}
use denote.Index.{place, row as row_of}
use denote.Steps.{owned, peeks, nothing}
use denote.Array.{Array, Array-Makes}
use denote.ArrayMemory.{Array-apart, Array-whole}
use denote.Struct.Struct.{Struct, layout, Plains, Struct-Makes}
use denote.Struct.Declared.{Declared, fields, shape, row}
use borrow.Table.OneValue.{part_in, part_out}
use borrow.Struct.Items.{Array-same}

module _ (T : Declared) (n : ℕ) {M : Type 1} {𝓤 : Ura M} {𝓛 : Logic 𝓤} {K : Type 0} {Γ : List (Item 𝓤)} {G : Goal 𝓤 𝓛.H} where
  pub opens_array : K → Plains (fields T) → (xs : List T.D) (v : Val) (l : ℕ) → Is (Array (Struct (shape T)) n) (map T.to xs) (v ∷ [])
      → (length xs ≡ n → Seq K 𝓛 (‵ (row_of (row T) full_share xs l zero) ∷ Γ) G) → Seq K 𝓛 (‵ (fat full_share (ty_array (layout (shape T)) n) l zero v) ∷ Γ) G
  opens_array t pl xs v l is k =
      owned t (Array (Struct (shape T)) n) (Is (Array (Struct (shape T)) n)) (Array-Makes 𝓛 (Struct (shape T)) (Struct-Makes 𝓛 (shape T) pl) n) (map T.to xs) (v ∷ []) is $ move t (1 ∷ 0 ∷ []) $
      use2 𝓛 (‵ (part_at (Array (Struct (shape T)) n) full_share (map T.to xs) l zero)) (part_in 𝓛 (Array (Struct (shape T)) n) refl full_share (map T.to xs) l zero v) $
      recast 𝓛 (‵ (part_at (Array (row T) n) full_share xs l zero)) (ap (sem 𝓛) (sym (Array-same (Struct (shape T)) T.D T.to T.to_one n full_share xs l zero))) $
      use1 𝓛 (‵ ((arr_parts (shares (row T)) n).part full_share xs l zero)) (Array-apart 𝓛 (row T) full_share tt n xs l zero) $ fsplit t $ feq_l t k

  pub shuts_array : K → (xs : List T.D) (l : ℕ) → length xs ≡ n
      → ((w : Val) → Is (Array (Struct (shape T)) n) (map T.to xs) (w ∷ []) → Seq K 𝓛 (‵ (fat full_share (ty_array (layout (shape T)) n) l zero w) ∷ Γ) G) → Seq K 𝓛 (‵ (row_of (row T) full_share xs l zero) ∷ Γ) G
  shuts_array t xs l e k =
      feq_i t ℕ (length xs) n e $ fjoin t $ use1 𝓛 (‵ (part_at (Array (row T) n) full_share xs l zero)) (Array-whole 𝓛 (row T) full_share n xs l zero) $
      recast 𝓛 (‵ (part_at (Array (Struct (shape T)) n) full_share (map T.to xs) l zero)) (ap (sem 𝓛) (Array-same (Struct (shape T)) T.D T.to T.to_one n full_share xs l zero)) $
      use1 𝓛 (some_i (λ (w : Val). ‵ (fat full_share (ty_array (layout (shape T)) n) l zero w) ⊛ ‵ ((Array (Struct (shape T)) n).own_val (map T.to xs) (w ∷ [])))) (part_out 𝓛 (Array (Struct (shape T)) n) refl full_share (map T.to xs) l zero) $ pick t (λ w. split t $ move t (1 ∷ []) $
      peeks t (Array (Struct (shape T)) n) (Is (Array (Struct (shape T)) n)) (shows 𝓛 (Array (Struct (shape T)) n)) (map T.to xs) (w ∷ []) (λ is. drop t $ k w is))

module _ {M : Type 1} {𝓤 : Ura M} (𝓛 : Logic 𝓤) (R : RattleType) (q : Share) where
  pub cuts : (xs ys : List R.Denot) (b o : ℕ) → ent 𝓤 (sem 𝓛 (row_of R q (xs ++ ys) b o)) (sep 𝓤 (sem 𝓛 (row_of R q xs b o)) (sem 𝓛 (row_of R q ys b (place (mem R).size o (length xs)))))
  cuts [] ys b o = qed 𝓛 (‵ (row_of R q ys b o) ∷ []) ∵ nothing ! $ done !
  cuts (x ∷ xs) ys b o = qed 𝓛 (‵ (row_of R q (x ∷ xs ++ ys) b o) ∷ []) ∵ fsplit ! $ move ! (1 ∷ []) $
      use1 𝓛 (‵ (row_of R q xs b (o + (mem R).size)) ⊛ ‵ (row_of R q ys b (place (mem R).size (o + (mem R).size) (length xs)))) (cuts xs ys b (o + (mem R).size)) $ split ! $ move ! (2 ∷ 0 ∷ []) $ fjoin ! $ done !

  pub joins : (xs ys : List R.Denot) (b o : ℕ) → ent 𝓤 (sep 𝓤 (sem 𝓛 (row_of R q xs b o)) (sem 𝓛 (row_of R q ys b (place (mem R).size o (length xs))))) (sem 𝓛 (row_of R q (xs ++ ys) b o))
  joins [] ys b o = qed 𝓛 (‵ (row_of R q [] b o) ∷ ‵ (row_of R q ys b o) ∷ []) ∵ drop ! $ done !
  joins (x ∷ xs) ys b o = qed 𝓛 (‵ (row_of R q (x ∷ xs) b o) ∷ ‵ (row_of R q ys b (place (mem R).size o (suc (length xs)))) ∷ []) ∵ fsplit ! $ move ! (1 ∷ 2 ∷ []) $
      use2 𝓛 (‵ (row_of R q (xs ++ ys) b (o + (mem R).size))) (joins xs ys b (o + (mem R).size)) $ move ! (1 ∷ 0 ∷ []) $ done !
