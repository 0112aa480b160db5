-- The records of a bus log (paper 01, "Bus logs"; paper 02, request 10): one walk gives the bodies and the place where they are torn; its equations are proved below.
-- seen: the bytes at the start of each body that say what the analyser saw.
-- Assumes nothing.
use Rattle.std.specs.Prelude.{◌≡◌, refl, cond, List, [], ◌∷◌, ℕ, zero, suc, ◌+◌, ◌*◌, ◌≤◌, ◌<◌, leb, length, take, Err, Ok}
use Rattle.std.proofs.Common.{arith}
use Rattle.std.proofs.Math.ListN.{drop, length-drop}
use borrow.Author.Tests.{le-leb, lt-leb}
use Rattle.sheet.specs.Results.{Check}
use Rattle.sheet.specs.declared.Refusal.TheVariants.{CutRecord, ShortBody}

-- the bodies of the records before the first that is cut short or has too short a body, and that one's refusal; place: the offset of its length field
pub record Records : Type 0 where
  pub bodies : List (List ℕ)
  pub tear : Check

abbrev pub no_records : Records
no_records = record { bodies = []; tear = (Ok tt) }

-- 13, 20
abbrev pub torn_at : ℕ → Records
torn_at at = record { bodies = []; tear = Err (CutRecord at) }

abbrev pub short_at : ℕ → Records
short_at at = record { bodies = []; tear = Err (ShortBody at) }

abbrev pub with_body : List ℕ → Records → Records
with_body body after = record { bodies = body ∷ after.bodies; tear = after.tear }

-- two bytes, big-endian: the length of a body, and a count of bytes seen
abbrev pub length_of : ℕ → ℕ → ℕ
length_of h l = 256 * h + l

-- the bytes of records: each a length field and a body
abbrev pub size_of : List (List ℕ) → ℕ
size_of [] = 0
size_of (body ∷ bodies) = length body + 2 + size_of bodies

-- k bounds how many records there are, for the recursion. 13 comes before 20
unfoldable pub read_in : ℕ → ℕ → ℕ → List ℕ → Records
read_in zero seen at rest = no_records
read_in (suc k) seen at [] = no_records
read_in (suc k) seen at (h ∷ []) = torn_at at
read_in (suc k) seen at (h ∷ l ∷ rest) =
    cond (leb (length_of h l) (length rest))
    (cond (leb seen (length_of h l)) (with_body (take (length_of h l) rest) (read_in k seen (at + 2 + length_of h l) (drop (length_of h l) rest))) (short_at at))
    (torn_at at)

-- the records from a place on, of the bytes from there on: there are no more than bytes
unfoldable pub records_from : ℕ → ℕ → List ℕ → Records
records_from seen at rest = read_in (length rest) seen at rest

-- ---- the equations

-- the bound does not matter if it is enough
enough : (k j seen at : ℕ) (rest : List ℕ) → length rest ≤ k → length rest ≤ j → read_in k seen at rest ≡ read_in j seen at rest
unfolding read_in
enough zero zero seen at rest m n = refl
enough zero (suc j) seen at [] m n = refl
enough zero (suc j) seen at (h ∷ rest) m n = absurd (omega arith)
enough (suc k) zero seen at [] m n = refl
enough (suc k) zero seen at (h ∷ rest) m n = absurd (omega arith)
enough (suc k) (suc j) seen at [] m n = refl
enough (suc k) (suc j) seen at (h ∷ []) m n = refl
enough (suc k) (suc j) seen at (h ∷ l ∷ rest) m n =
    let less = length-drop (length_of h l) rest in
    rw (enough k j seen (at + 2 + length_of h l) (drop (length_of h l) rest) (omega arith) (omega arith))

pub nothing_left : (seen at : ℕ) → records_from seen at [] ≡ no_records
unfolding records_from read_in
nothing_left seen at = refl

pub one-byte-left : (seen at h : ℕ) → records_from seen at (h ∷ []) ≡ torn_at at
unfolding records_from read_in
one-byte-left seen at h = refl

-- a length field: fewer bytes than it says, or as many, of which there are too few for what was seen, or enough
module _ (seen at h l : ℕ) (rest : List ℕ) where
  pub cut_short : length rest < length_of h l → records_from seen at (h ∷ l ∷ rest) ≡ torn_at at
  unfolding records_from read_in
  cut_short m = rw (lt-leb (length_of h l) (length rest) m)

  pub too_short : length_of h l ≤ length rest → length_of h l < seen → records_from seen at (h ∷ l ∷ rest) ≡ short_at at
  unfolding records_from read_in
  too_short m s = rw (le-leb (length_of h l) (length rest) m, lt-leb seen (length_of h l) s)

  pub whole : length_of h l ≤ length rest → seen ≤ length_of h l
      → records_from seen at (h ∷ l ∷ rest) ≡ with_body (take (length_of h l) rest) (records_from seen (at + 2 + length_of h l) (drop (length_of h l) rest))
  unfolding records_from read_in
  whole m s =
      let after = drop (length_of h l) rest in
      let less = length-drop (length_of h l) rest in
      rw (le-leb (length_of h l) (length rest) m, le-leb seen (length_of h l) s, enough (suc (length rest)) (length after) seen (at + 2 + length_of h l) after (omega arith) (omega arith))
