-- A transfer to lent chips, as the bench takes it: what is answered and held is what the list's call says.
-- Assumes nothing.
use mathlib.Core.Path.{◌≡◌, refl, sym, ap, ◌∙◌}
use mathlib.Core.Bool.{Bool, true, false, cond}
use mathlib.Core.List.{List, [], ◌∷◌}
use Prim.Native.Nat.{ℕ, zero, suc, ◌*◌, ◌/◌, ◌<◌}
use native.Mathlib.Omega.{arith}
use lib.ListN.{length, drop, length-append, length-drop, length-map}
use lib.Seq.{take_at, length-take-le}
use borrow.Author.Tests.{le-leb, lt-leb}
use Rattle.sheet.specs.declared.Chip.{Chip}
use Rattle.std.specs.Prelude.{Err, Ok}
use Rattle.sheet.specs.Results.{Check, PlainAnswer}
use Rattle.sheet.specs.declared.Expect.{Expect}
use Rattle.sheet.specs.declared.Refusal.TheVariants.{ManyChips}
use Rattle.sheet.specs.Parts.{Part, part_of}
use Rattle.sheet.specs.Protocol.{next, Sent, whole_of, address_byte, cut_data}
use Rattle.sheet.specs.Checks.{check_part}
use Rattle.sheet.specs.Plain.{begun_by, Plain, takes, any, hears, plain_heard, chip_ended, plain_whole, plain_said, plain_taken, plain_answered, check_plain, plain_call, plain_part}
use Rattle.laws.proofs.Named.{limit-small}
use Rattle.plain.specs.declared.Bench.{Bench}
use Rattle.plain.specs.declared.BenchTransferred.{BenchTransferred}
use Rattle.plain.specs.Benches.{or_refusal, too_many, bench_transferred}
use Rattle.wire.specs.Benches.{Holds}
use Rattle.lent.specs.Lent.{lent_call}
use Rattle.wire.specs.Bytes.{list_in}

-- ---- a transfer keeps the count of the chips

heard-length : (K : Part) (address : ℕ) (e : Expect) (bytes : List ℕ) (s : Plain) → length (plain_heard K address e bytes s).chips ≡ length s.chips
unfolding plain_heard
heard-length K address e [] s = refl
heard-length K address e (x ∷ xs) s = heard-length K address (next e x) xs _ ∙ length-map s.chips (takes K address e x)

length-plain : (K : Part) (cs : List Chip) (t : Sent) → length (plain_call K cs t).chips ≡ length cs
unfolding plain_call
length-plain K cs t = go (check_plain K cs t)
  where
    taken : (h : Bool) → length (cond h (plain_whole K (address_byte t) t (begun_by 1 cs)) (begun_by 0 cs)).chips ≡ length cs
    taken true = length-map (plain_heard K (address_byte t) Expect.Control (drop 1 (whole_of t)) (begun_by 1 cs)).chips (chip_ended (address_byte t) (cut_data t)) ∙ heard-length K (address_byte t) Expect.Control (drop 1 (whole_of t)) (begun_by 1 cs)
    taken false = refl

    go : (k : Check) → length (plain_answered k cs (plain_said (plain_taken K cs t))).chips ≡ length cs
    go (Ok _) = taken (any (hears (address_byte t)) cs)
    go (Err r) = refl

length_part : (part : ℕ) (cs : List Chip) (t : Sent) → length (plain_part part cs t).chips ≡ length cs
unfolding plain_part
length_part part cs t = go (check_part part)
  where
    go : (k : Check) → length (plain_answered k cs (plain_call (part_of part) cs t)).chips ≡ length cs
    go (Ok _) = length-plain (part_of part) cs t
    go (Err r) = refl

-- ---- the bench's transfer is the list's

pub followed : {b : Bench} {n : ℕ} {cs : List Chip} {done : BenchTransferred} (part : ℕ) (t : Sent) → Holds n cs b → done ≡ bench_transferred part b t
    → let s = plain_part part cs t in (done.answer ≡ s.answer) × Holds n s.chips done.bench
followed {b} {n} {cs} part t h e =
    let after = (plain_part part cs t).chips in
    let rest = drop n b.chips in
    let long : length after ≡ n = length_part part cs t ∙ ap length (sym h.first) ∙ length-take-le n b.chips (omega arith) in
    rw (e, h.count, le-leb n 16 h.few, h.first)
    (refl, record { count = refl; few = h.few; size = length-append after rest ∙ omega (arith, length-drop n b.chips); first = take_at after rest n long })

-- more than sixteen chips are refused

list_length : (n : ℕ) (l : List ℕ) → length (list_in n l) ≡ n
unfolding list_in
list_length zero l = refl
list_length (suc n) l = ap suc (list_length n (drop 174 l))

pub many : (part n : ℕ) (chips : List ℕ) (t : Sent) → 16 < n → plain_part part (list_in n chips) t ≡ record { answer = Err (too_many part); chips = list_in n chips }
unfolding plain_part plain_call check_plain
many part n chips t h = rw (list_length n chips, lt-leb n (2 * (part_of part).limit) (omega (arith, limit-small part))) (by_part (check_part part))
  where
    by_part : (k : Check) → plain_answered k (list_in n chips) (record { answer = Err ManyChips; chips = list_in n chips }) ≡ record { answer = Err (or_refusal k ManyChips); chips = list_in n chips }
    by_part (Ok _) = refl
    by_part (Err r) = refl

-- and so the bytes of more chips than sixteen are as given
pub refused_many : (part : ℕ) (chips : List ℕ) (t : Sent) → 16 < length chips / 174 → lent_call part chips t ≡ record { answer = Err (too_many part); chips = chips }
unfolding lent_call
refused_many part chips t h = rw (many part (length chips / 174) chips t h)
