-- What is rescued of a log is sound: read again, it has the same records and no tear (`log_sheet/specs/Rescue.antt`).
-- Assumes nothing.
use mathlib.Core.Path.{◌≡◌, refl, ap, subst, ◌∙◌}
use mathlib.Core.Logic.{⊎_elim}
use mathlib.Core.Bool.{◌&&◌, ◌||◌}
use mathlib.Core.List.{List, [], ◌∷◌}
use Prim.Native.Nat.{ℕ, zero, suc, ◌+◌, ◌-◌, ◌≤◌, ◌<◌}
use native.Mathlib.Omega.{arith}
use lib.Dec.{eqb, leb}
use lib.ListN.{length, get_or, take, drop, length-drop}
use lib.Seq.{length-take-le, take-length, take-take, get_or-take}
use borrow.Author.Tests.{le-leb, lt-leb, leb-true}
use Rattle.lemmas.proofs.Order.{lt_or_le}
use Rattle.lemmas.proofs.Lists.{drop-take}
use Rattle.lemmas.proofs.Tests.{both_true}
use Rattle.std.specs.Prelude.{Err, Ok}
use Rattle.sheet.specs.declared.Kept.{Kept}
use Rattle.sheet.specs.Results.{Check, Rescued}
use Rattle.sheet.specs.declared.Refusal.{Refusal}
use Rattle.sheet.specs.declared.Refusal.TheVariants.{LogHead, LongLog, OutputLength}
use Rattle.sheet.specs.Parts.{pcf8532}
use Rattle.sheet.specs.Checks.{unless, check_chips}
use Rattle.log_sheet.specs.Records.{Records, no_records, length_of, size_of, read_in, records_from}
use Rattle.log_sheet.specs.Logs.{log_chips, seen_bytes, log_records, check_head, check_log}
use Rattle.log_sheet.specs.Rescue.{kept_of, kept, check_rescue, rescued_by, rescue_call, TornAt, Rescues}
use Rattle.laws.proofs.Fits.{both_pass, unless-passes}

-- ---- the records from a place on

-- what of their bytes is whole, read again; and all is, if nothing is torn
record Again (k seen at : ℕ) (rest : List ℕ) (r : Records) : Type 0 where
  few : size_of r.bodies ≤ length rest
  same : (j : ℕ) → size_of r.bodies ≤ j → read_in j seen at (take (size_of r.bodies) rest) ≡ record { bodies = r.bodies; tear = (Ok tt) }
  all : r.tear ≡ Ok tt → length rest ≤ k → size_of r.bodies ≡ length rest
  next : TornAt (at + size_of r.bodies) r.tear

nothing : (j seen at : ℕ) → read_in j seen at [] ≡ no_records
unfolding read_in
nothing zero seen at = refl
nothing (suc j) seen at = refl

-- what is refused has not passed
pub never : (r : Refusal) {A : Type 0} → ◌≡◌ {A = Check} (Err r) (Ok tt) → A
never r e = let no : ◌≡◌ {A = ℕ} 0 1 = cc in absurd (omega arith)

-- a whole record and those after it
whole_again : (k seen at h l : ℕ) (rest : List ℕ) (after : Records) → length_of h l ≤ length rest → seen ≤ length_of h l
    → Again k seen (at + 2 + length_of h l) (drop (length_of h l) rest) after → Again (suc k) seen at (h ∷ l ∷ rest) (record { bodies = take (length_of h l) rest ∷ after.bodies; tear = after.tear })
unfolding read_in
whole_again k seen at h l rest after m n a =
    let size = length_of h l in
    let w = size_of after.bodies in
    let long = length-take-le size rest m in
    let left = length-drop size rest in
    record {
      few = omega (arith, long, left, a.few);
      same = λ j lj. again-from j lj;
      all = λ e lk. omega (arith, long, left, a.all e (omega (arith, left)));
      next = subst (λ (p : ℕ). TornAt p after.tear) {x = at + 2 + size + w} (omega (arith, long)) a.next;
    }
  where
    again-from : (j : ℕ) → length (take (length_of h l) rest) + 2 + size_of after.bodies ≤ j
        → read_in j seen at (take (length (take (length_of h l) rest) + 2 + size_of after.bodies) (h ∷ l ∷ rest)) ≡ record { bodies = take (length_of h l) rest ∷ after.bodies; tear = (Ok tt) }
    again-from zero lj = absurd (omega arith)
    again-from (suc j) lj =
        let size = length_of h l in
        let w = size_of after.bodies in
        let long = length-take-le size rest m in
        let left = length-drop size rest in
        let both : length (take size rest) + 2 + w ≡ suc (suc (size + w)) = omega (arith, long) in
        let part = length-take-le (size + w) rest (omega (arith, left, a.few)) in
        let less : size + w - size ≡ w = omega arith in
        rw (both, le-leb size (length (take (size + w) rest)) (omega (arith, part)), le-leb seen size n, take-take size (size + w) rest (omega arith), drop-take size (size + w) rest (omega arith), less, a.same j (omega (arith, long)))

again : (k seen at : ℕ) (rest : List ℕ) → Again k seen at rest (read_in k seen at rest)
unfolding read_in
again zero seen at rest = record { few = omega arith; same = λ j l. nothing j seen at; all = λ e l. omega arith; next = tt }
again (suc k) seen at [] = record { few = omega arith; same = λ j l. nothing j seen at; all = λ e l. refl; next = tt }
again (suc k) seen at (h ∷ []) = record { few = omega arith; same = λ j l. nothing j seen at; all = λ e l. never _ e; next = omega arith }
again (suc k) seen at (h ∷ l ∷ rest) =
    let size = length_of h l in
    ⊎_elim
    (λ (e : length rest < size). rw (lt-leb size (length rest) e) (record { few = omega arith; same = λ j l. nothing j seen at; all = λ e l. never _ e; next = omega arith }))
    (λ (e : size ≤ length rest).
    ⊎_elim
    (λ (f : size < seen). rw (le-leb size (length rest) e, lt-leb seen size f) (record { few = omega arith; same = λ j l. nothing j seen at; all = λ e l. never _ e; next = omega arith }))
    (λ (f : seen ≤ size). rw (le-leb size (length rest) e, le-leb seen size f) (whole_again k seen at h l rest (read_in k seen (at + 2 + size) (drop size rest)) e f (again k seen (at + 2 + size) (drop size rest))))
    (lt_or_le size seen))
    (lt_or_le (length rest) size)

-- ---- a log whose head passes

-- its length and its chips
pub record Headed (log : List ℕ) : Type 0 where
  pub short : length log ≤ 65536
  pub three : 3 ≤ length log
  pub chips : check_chips pcf8532 (log_chips log) ≡ Ok tt

pub headed : (log : List ℕ) → check_head log ≡ Ok tt → Headed log
unfolding check_head
headed log e =
    let long = both_pass (unless (leb (length log) 65536) LongLog) _ e in
    let head = both_pass (unless (leb 3 (length log) && (eqb (get_or log 0 0) 1 || eqb (get_or log 0 0) 2)) LogHead) _ long.1 in
    record {
      short = leb-true (length log) 65536 (unless-passes _ LongLog long.0);
      three = leb-true 3 (length log) (both_true (leb 3 (length log)) _ (unless-passes _ LogHead head.0)).0;
      chips = head.1;
    }

module _ (log : List ℕ) (e : check_head log ≡ Ok tt) where
  long : length log ≤ 65536
  long = (headed log e).short

  three : 3 ≤ length log
  three = (headed log e).three

  abbrev bytes : ℕ
  bytes = size_of (log_records log).bodies

  read : Again (length (drop 3 log)) (seen_bytes log) 3 (drop 3 log) (log_records log)
  unfolding records_from
  read = again (length (drop 3 log)) (seen_bytes log) 3 (drop 3 log)

  few : kept_of log ≤ length log
  few = omega (arith, read.few, length-drop 3 log, three)

  kept-length : length (kept log) ≡ kept_of log
  kept-length = length-take-le (kept_of log) log few

  -- the head is kept
  head : (i : ℕ) → i < 3 → get_or (kept log) i 0 ≡ get_or log i 0
  head i l = get_or-take (kept_of log) log i 0 (omega arith)

  same-records : log_records (kept log) ≡ record { bodies = (log_records log).bodies; tear = (Ok tt) }
  unfolding records_from
  same-records =
      let less : 3 + bytes - 3 ≡ bytes = omega arith in
      let left = length-drop 3 log in
      rw (head 0 (omega arith), drop-take 3 (kept_of log) log (omega arith), less) (read.same (length (take bytes (drop 3 log))) (omega (arith, length-take-le bytes (drop 3 log) read.few)))

  head-kept : check_head (kept log) ≡ Ok tt
  unfolding check_head
  head-kept =
      rw (le-leb (length (kept log)) 65536 (omega (arith, kept-length, few, long)), le-leb 3 (length (kept log)) (omega (arith, kept-length)), head 0 (omega arith), head 1 (omega arith), head 2 (omega arith))
      (rw (le-leb (length log) 65536 long, le-leb 3 (length log) three) at e)

  pub rescues : Rescues log
  unfolding check_log
  rescues = record {
    parts = omega (arith, few);
    sound = λ c.
        let torn = (both_pass (check_head log) (log_records log).tear c).1 in
        let left = length-drop 3 log in
        let all : kept_of log ≡ length log = omega (arith, read.all torn (omega arith), three) in
        ap (λ (n : ℕ). take n log) all ∙ take-length log;
    accepted = rw (head-kept, same-records);
    records = ap (λ (r : Records). r.bodies) same-records;
    next = read.next;
    again = rw (same-records) (take-take (kept_of log) (kept_of log) log (omega arith));
  }

-- ---- a rescue that is taken

-- it keeps no more bytes than the log has, and the output has no fewer
pub record Fits (log : List ℕ) (size : ℕ) : Type 0 where
  pub few : kept_of log ≤ length log
  pub room : length log ≤ size

pub fits : (log : List ℕ) (size : ℕ) → check_rescue log size ≡ Ok tt → Fits log size
unfolding check_rescue
fits log size e =
    let both = both_pass (check_head log) (unless (leb (length log) size) OutputLength) e in
    record { few = few log both.0; room = leb-true (length log) size (unless-passes _ OutputLength both.1) }

-- so what is kept lies inside the output
abbrev bytes_in : Rescued → ℕ
bytes_in (Ok k) = k.bytes
bytes_in (Err r) = 0

pub kept-inside : (log out : List ℕ) (k : Kept) → (rescue_call log out).result ≡ Ok k → k.bytes ≤ length out
unfolding rescue_call
kept-inside log out kept e = by-check (check_rescue log (length out)) refl e
  where
    by-check : (k : Check) → check_rescue log (length out) ≡ k → (rescued_by k log out).result ≡ Ok kept → kept.bytes ≤ length out
    by-check (Ok _) c e = let same : kept_of log ≡ kept.bytes = ap bytes_in e in
        let f = fits log (length out) c in
        omega (arith, f.few, f.room, same)
    by-check (Err r) c e = let no : ◌≡◌ {A = ℕ} 0 1 = cc in absurd (omega arith)
