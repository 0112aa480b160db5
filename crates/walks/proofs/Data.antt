-- Plain data, as a walk has it in its locals and hands it to callees: a type of one machine value that owns only facts. One record, so that a rule is stated once for numbers, structs and enums.
-- Assumes nothing: `Logic` is an argument.
use mathlib.Core.Path.{◌≡◌, refl}
use mathlib.Core.List.{List, [], ◌∷◌}
use lib.Dec.{T}
use seplogic.Ra.Ura.{Ura}
use mir.Syntax.{Ty, Width, ty_int, ty_bool, ty_unit}
use mir.Val.{Val, vunit, vbool, vint, WT, has_ty}
use types.Logic.{Logic}
use denote.Exit.{yes, unchanged}
use denote.RattleType.{RattleType, Denots, Valss}
use denote.Laws.{Is, Ises, Spells, valss, Tells, Tellss, Makes, Makess}
use denote.Plain.{UInt, Boolean, Nothing, uint_Tells, uint_Lawful, uint_Makes, bool_Tells, bool_Lawful, bool_Makes, Nothing-Tells, Nothing-Lawful, Nothing-Makes}
use denote.Struct.Struct.{layout, Plains}
use denote.Struct.Declared as S
use denote.Struct.Laws as SL
use denote.Enum.Enum.{Few, Plainss, layout as enum-layout}
use denote.Enum.Declared as E
use denote.Enum.Laws as EL

pub record Data (R : RattleType) : Type 2 where
  pub ty : Ty
  pub val : R.Denot → Val
  pub tells : Tells R (Is R) (λ x. val x ∷ [])
  pub typed : {M : Type 1} {𝓤 : Ura M} (𝓛 : Logic 𝓤) → (x : R.Denot) → Is R x (val x ∷ []) → T (has_ty ty (val x)) × WT (val x)
  pub still : R.exit yes ≡ unchanged
  pub makes : {M : Type 1} {𝓤 : Ura M} (𝓛 : Logic 𝓤) → Makes 𝓛 R (Is R)

abbrev pub number : (w : Width) → Data (UInt w)
number w = record { ty = ty_int w; val = vint w; tells = uint_Tells w; typed = λ 𝓛 x is. ((uint_Lawful 𝓛 w).typed x _ is).0; still = refl; makes = λ 𝓛. uint_Makes 𝓛 w }

abbrev pub truth : Data Boolean
truth = record { ty = ty_bool; val = vbool; tells = bool_Tells; typed = λ 𝓛 x is. ((bool_Lawful 𝓛).typed x _ is).0; still = refl; makes = λ 𝓛. bool_Makes 𝓛 }

abbrev pub nothing : Data Nothing
nothing = record { ty = ty_unit; val = λ _. vunit; tells = Nothing-Tells; typed = λ 𝓛 x is. ((Nothing-Lawful 𝓛).typed x _ is).0; still = refl; makes = λ 𝓛. Nothing-Makes 𝓛 }

abbrev pub struct : (T : S.Declared) (L : SL.Laws T) → Plains (S.fields T) → SL.Copyables T.parts → Data (S.row T)
struct T L pl cp = record { ty = layout (S.shape T); val = SL.val T L; tells = SL.tells T L; typed = λ 𝓛 x is. ((SL.lawful T L 𝓛).typed x _ is).0; still = SL.still T cp yes; makes = λ 𝓛. SL.makes T pl 𝓛 }

abbrev pub enum : (T : E.Declared) (L : EL.Laws T) → Plainss (E.variants T) → EL.Copyabless T.parts → Few (E.shape T) → Data (E.row T)
enum T L pl cp few = record { ty = enum-layout (E.shape T); val = EL.val T L; tells = EL.tells T L; typed = λ 𝓛 x is. ((EL.lawful T L 𝓛 few).typed x _ is).0; still = EL.still T cp yes; makes = λ 𝓛. EL.makes T pl 𝓛 }

-- ---- several, as the parameters of a callee
abbrev pub Datas : List RattleType → Type 2
Datas [] = Unit {2}
Datas (R ∷ Rs) = Data R × Datas Rs

abbrev pub spells : (Rs : List RattleType) → Datas Rs → Spells Rs
spells [] Ds = tt
spells (R ∷ Rs) Ds = ((λ x. Ds.0.val x ∷ []), spells Rs Ds.1)

abbrev pub vals_of : (Rs : List RattleType) → Datas Rs → Denots Rs → Valss Rs
vals_of Rs Ds = valss Rs (spells Rs Ds)

pub tellss : (Rs : List RattleType) (Ds : Datas Rs) → Tellss Rs (Ises Rs) (spells Rs Ds)
tellss [] Ds = tt
tellss (R ∷ Rs) Ds = (Ds.0.tells, tellss Rs Ds.1)

pub makess : (Rs : List RattleType) → Datas Rs → {M : Type 1} {𝓤 : Ura M} (𝓛 : Logic 𝓤) → Makess 𝓛 Rs (Ises Rs)
makess [] Ds 𝓛 = tt
makess (R ∷ Rs) Ds 𝓛 = (Ds.0.makes 𝓛, makess Rs Ds.1 𝓛)
