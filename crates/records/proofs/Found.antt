-- What a cursor finds is how the walk over the records goes on.
-- Assumes nothing.
use mathlib.Core.Path.{◌≡◌, refl, sym, ap, subst, ◌∙◌}
use mathlib.Core.Bool.{Bool, true, false, cond}
use mathlib.Core.List.{List, [], ◌∷◌}
use Prim.Native.Nat.{ℕ, ◌+◌, ◌-◌, ◌≤◌}
use native.Mathlib.Omega.{arith}
use lib.Dec.{leb}
use lib.ListN.{length, take, drop, length-drop}
use lib.Seq.{drop-drop}
use borrow.Author.Tests.{leb-true, leb-false}
use Rattle.lemmas.proofs.Lists.{drop-take}
use Rattle.log_sheet.specs.Records.{Records, length_of, no_records, torn_at, short_at, with_body, nothing_left, one-byte-left, cut_short, too_short, whole}
use Rattle.log_sheet.specs.Logs.{seen_in}
use Rattle.records.specs.declared.Record.{Record}
use Rattle.records.specs.declared.Record.TheVariants.{Body, End, Cut, Short}
use Rattle.records.specs.Found.{record_in, records_at}

-- a whole record: its body lies in the log, has what was seen, and the walk goes on after it
pub record Next (seen : ℕ) (log : List ℕ) (at start size count : ℕ) : Type 0 where
  pub begins : start ≡ at + 2
  pub enough : seen ≤ size
  pub inside : start + size ≤ length log
  pub says : count ≡ seen_in (take size (drop start log))
  pub walk : records_at seen log at ≡ with_body (take size (drop start log)) (records_at seen log (start + size))

-- the transfer in a body is the part of the log after what was seen
pub transfer-in : (seen start size : ℕ) (log : List ℕ) → seen ≤ size → take (start + size - (start + seen)) (drop (start + seen) log) ≡ drop seen (take size (drop start log))
transfer-in seen start size log h =
    let less : start + size - (start + seen) ≡ size - seen = omega arith in
    rw less (ap (take (size - seen)) (sym (drop-drop seen start log)) ∙ sym (drop-take seen size (drop start log) h))

abbrev pub Found : ℕ → List ℕ → ℕ → Record → Type 0
Found seen log at (Body start size count) = Next seen log at start size count
Found seen log at End = records_at seen log at ≡ no_records
Found seen log at Cut = records_at seen log at ≡ torn_at at
Found seen log at Short = records_at seen log at ≡ short_at at

at_head : (seen : ℕ) (log : List ℕ) (at : ℕ) (rest : List ℕ) → drop at log ≡ rest → Found seen log at (record_in seen at rest)
unfolding record_in
at_head seen log at [] e = rw e (nothing_left seen at)
at_head seen log at (h ∷ []) e = rw e (one-byte-left seen at h)
at_head seen log at (h ∷ l ∷ rest) e = by_length (leb (length_of h l) (length rest)) refl (leb seen (length_of h l)) refl
  where
    body : rest ≡ drop (at + 2) log
    body = sym (ap (drop 2) e) ∙ drop-drop 2 at log

    by_length : (t : Bool) → leb (length_of h l) (length rest) ≡ t → (u : Bool) → leb seen (length_of h l) ≡ u
        → Found seen log at (cond t (cond u (Body (at + 2) (length_of h l) (seen_in (take (length_of h l) rest))) Short) Cut)
    by_length true t true u =
        let m = leb-true (length_of h l) (length rest) t in
        let n = leb-true seen (length_of h l) u in
        record {
          begins = refl;
          enough = n;
          inside = omega (arith, ap length e, length-drop at log);
          says = ap (λ (k : List ℕ). seen_in (take (length_of h l) k)) body;
          walk = rw (e, whole seen at h l rest m n, body, drop-drop (length_of h l) (at + 2) log);
        }
    by_length true t false u = rw e (too_short seen at h l rest (leb-true (length_of h l) (length rest) t) (leb-false seen (length_of h l) u))
    by_length false t u v = rw e (cut_short seen at h l rest (leb-false (length_of h l) (length rest) t))

pub found : (seen : ℕ) (log : List ℕ) (at : ℕ) (r : Record) → r ≡ record_in seen at (drop at log) → Found seen log at r
found seen log at r e = subst (Found seen log at) (sym e) (at_head seen log at (drop at log) refl)

-- where no whole record is found, none is left
pub none_left : (seen : ℕ) (log : List ℕ) (at : ℕ) (r : Record) → Found seen log at r → ((start size count : ℕ) → r ≡ Body start size count → ⊥) → (records_at seen log at).bodies ≡ []
none_left seen log at (Body start size count) f h = absurd (h start size count refl)
none_left seen log at End f h = ap (λ (k : Records). k.bodies) f
none_left seen log at Cut f h = ap (λ (k : Records). k.bodies) f
none_left seen log at Short f h = ap (λ (k : Records). k.bodies) f
