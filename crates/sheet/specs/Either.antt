-- Request 14's law, stated: "two accepted transfers to different groups, cut ones included, give the same registers, RAM and pictures in either order, with each
-- transfer's own answer unchanged; hence any merge that keeps each group's order ends alike." Of refused transfers too, which change nothing. Proved in `agreement`.
use Rattle.std.specs.Prelude.{ℕ, ◌<◌, ◌≡◌, List, [], ◌∷◌, ◌++◌}
use Rattle.sheet.specs.declared.Chips.{Chips}
use Rattle.sheet.specs.Results.{Answer}
use Rattle.sheet.specs.Parts.{Part}
use Rattle.sheet.specs.Registers.{registers_of}
use Rattle.sheet.specs.Protocol.{address_of, Sent, address_byte}
use Rattle.sheet.specs.Checks.{check_transfer}
use Rattle.sheet.specs.Long.{State, transfer_call, state_after, state_after_all, picture_call}
use Rattle.sheet.specs.Agree.{Valid, Keeps}

-- ---- whom a transfer calls

-- group g: byte 0 came whole and is its address, also where the group has no chip and nobody hears.
-- A transfer that is cut in its address calls no group, nor does one with any other byte 0: nobody hears them
abbrev pub CallsGroup : ℕ → Sent → Type 0
CallsGroup g t = address_byte t ≡ address_of g

-- no group is called by both: they call different groups, or one of them calls none
abbrev pub Apart : Sent → Sent → Type 0
Apart t u = (g : ℕ) → g < 2 → CallsGroup g t → CallsGroup g u → ⊥

-- a transfer and each of a sequence; each of two sequences
abbrev pub ApartFrom : Sent → List Sent → Type 0
ApartFrom t [] = Unit {0}
ApartFrom t (u ∷ us) = Apart t u × ApartFrom t us

abbrev pub AllApart : List Sent → List Sent → Type 0
AllApart [] us = Unit {0}
AllApart (t ∷ ts) us = ApartFrom t us × AllApart ts us

-- no transfer of a sequence calls group g, as in the log of a logger at the other slave address
abbrev pub Spares : ℕ → List Sent → Type 0
Spares g [] = Unit {0}
Spares g (t ∷ ts) = (CallsGroup g t → ⊥) × Spares g ts

-- the group that a transfer calls has the same marks in two states
abbrev pub OwnMarks : Sent → State → State → Type 0
OwnMarks t s u = (g : ℕ) → g < 2 → CallsGroup g t → (registers_of g s.registers).unknown ≡ (registers_of g u.registers).unknown

-- ---- what the long account gives

-- its answer to a transfer, all of it
abbrev pub answer_given : Part → Chips → State → Sent → Answer
answer_given K n s t = (transfer_call K n s.registers s.ram t).result.answer

-- to each of a sequence
unfoldable pub answers_given : Part → Chips → State → List Sent → List Answer
answers_given K n s [] = []
answers_given K n s (t ∷ ts) = answer_given K n s t ∷ answers_given K n (state_after K n s t) ts

-- two states have the same pictures: of either group, at either phase, into any buffer
abbrev pub SamePictures : Part → Chips → State → State → Type 0
SamePictures K n s u = (g phase : ℕ) (out : List ℕ) → picture_call K n s.registers s.ram g phase out ≡ picture_call K n u.registers u.ram g phase out

-- ---- two transfers

-- their order does not matter
pub record Commute (K : Part) (n : Chips) (s : State) (t u : Sent) : Type 0 where
  pub state : state_after K n (state_after K n s t) u ≡ state_after K n (state_after K n s u) t
  pub first : answer_given K n (state_after K n s u) t ≡ answer_given K n s t
  pub second : answer_given K n (state_after K n s t) u ≡ answer_given K n s u
  pub pictures : SamePictures K n (state_after K n (state_after K n s t) u) (state_after K n (state_after K n s u) t)

-- ---- a merge: zs has the transfers of xs and of ys, those of each in their order

pub data Merge : List Sent → List Sent → List Sent → Type 0 where
  neither : Merge [] [] []
  one : {x : Sent} {xs ys zs : List Sent} → Merge xs ys zs → Merge (x ∷ xs) ys (x ∷ zs)
  other : {y : Sent} {xs ys zs : List Sent} → Merge xs ys zs → Merge xs (y ∷ ys) (y ∷ zs)

-- of the answers to zs, those to the transfers of xs
abbrev pub to_one : {xs ys zs : List Sent} → Merge xs ys zs → List Answer → List Answer
to_one neither answers = []
to_one (one m) [] = []
to_one (one m) (a ∷ answers) = a ∷ to_one m answers
to_one (other m) [] = []
to_one (other m) (a ∷ answers) = to_one m answers

-- and those to the transfers of ys
abbrev pub to_other : {xs ys zs : List Sent} → Merge xs ys zs → List Answer → List Answer
to_other neither answers = []
to_other (one m) [] = []
to_other (one m) (a ∷ answers) = to_other m answers
to_other (other m) [] = []
to_other (other m) (a ∷ answers) = a ∷ to_other m answers

-- it ends as xs and then ys do, and each transfer is answered as where its own sequence is sent alone
pub record Merged (K : Part) (n : Chips) (s : State) (xs ys zs : List Sent) (m : Merge xs ys zs) : Type 0 where
  pub state : state_after_all K n s zs ≡ state_after_all K n s (xs ++ ys)
  pub first : to_one m (answers_given K n s zs) ≡ answers_given K n s xs
  pub second : to_other m (answers_given K n s zs) ≡ answers_given K n s ys
  pub pictures : SamePictures K n (state_after_all K n s zs) (state_after_all K n s (xs ++ ys))
  pub valid : Valid K n (state_after_all K n s zs)

-- ---- the claim: from any state that passes 3, 6, 4 and 5

pub record EitherOrder (K : Part) : Type 1 where
  -- a refusal belongs to a transfer and its own group's marks
  pub refusal : (n : Chips) (s u : State) (t : Sent) → Valid K n s → Valid K n u → OwnMarks t s u
      → check_transfer K n s.registers s.ram t ≡ check_transfer K n u.registers u.ram t
  pub commute : (n : Chips) (s : State) (t u : Sent) → Valid K n s → Apart t u → Commute K n s t u
  -- the logs of two loggers, one a slave address, are apart
  pub loggers : (xs ys : List Sent) → Spares 1 xs → Spares 0 ys → AllApart xs ys
  pub merge : (n : Chips) (s : State) (xs ys zs : List Sent) (m : Merge xs ys zs) → Valid K n s → AllApart xs ys → Merged K n s xs ys zs m

-- of any part, wherever its commands keep the ranges
abbrev pub ClaimEither : Type 1
ClaimEither = (K : Part) → Keeps K → EitherOrder K
