-- The numbers of answers and refusals are below 100,000, and the records of a log have no more bytes than it.
-- Assumes nothing.
use mathlib.Core.Path.{◌≡◌, refl}
use mathlib.Core.Logic.{⊎_elim}
use mathlib.Core.Bool.{Bool, true, false, ◌&&◌, ◌||◌}
use mathlib.Core.List.{List, [], ◌∷◌}
use Prim.Native.Nat.{ℕ, zero, suc, ◌+◌, ◌%◌, ◌≤◌, ◌<◌}
use native.Mathlib.Omega.{arith}
use lib.Dec.{leb, ltb, eqb}
use lib.ListN.{length, get_or, take, drop, length-take, length-drop}
use Rattle.std.specs.Prelude.{Err, None, Ok, Some}
use Rattle.sheet.specs.Results.{Answer, Addressed, Check}
use Rattle.sheet.specs.declared.Chips.{Chips}
use Rattle.sheet.specs.declared.Kind.{Kind}
use Rattle.sheet.specs.declared.Marks.{Marks}
use Rattle.sheet.specs.declared.Expect.{Expect}
use Rattle.sheet.specs.declared.Expect.TheVariants.{Control, One, All}
use Rattle.sheet.specs.declared.Refusal.{Refusal}
use Rattle.sheet.specs.declared.Refusal.TheVariants.{EmptyTransfer, LongTransfer, ChipCount, UndefinedCommand, LogHead, LongLog, StrayBits, UnknownPlace}
use Rattle.sheet.specs.Refusals.{number_of, place_of, last_number, numbers}
use Rattle.sheet.specs.Parts.{pcf8532, within}
use Rattle.sheet.specs.Registers.{known, registers_of}
use Rattle.sheet.specs.Commands.{defined}
use Rattle.sheet.specs.Protocol.{heard_by, chips_in, next, whole, whole_of}
use Rattle.sheet.specs.Checks.{unless, or_else, check_chips, check_length, check_bits, check_sent, fault_of, fault, marks_after, fault_in, check_bytes, check_transfer}
use Rattle.sheet.specs.Long.{begun, State, Group, heard, taken, answered, transfer_call, columns_of}
use Rattle.log_sheet.specs.Records.{Records, length_of, size_of, read_in, records_from}
use Rattle.log_sheet.specs.Logs.{seen_bytes, log_records, check_head, check_log}
use Rattle.sheet.specs.Agree.{Valid}
use Rattle.laws.proofs.Fits.{fits-of, transfer-passed}
use Rattle.laws.proofs.Rescued.{headed}
use Rattle.laws.proofs.Kept.{pcf8532-keeps}
use Rattle.laws.proofs.Lens.{few-chips-in, group-kept}
use Rattle.laws.proofs.Acknowledgers.{heard-among, last-few}
use Rattle.laws.proofs.Sums as sums
use borrow.Author.Tests.{le-leb, lt-leb}
use Rattle.lemmas.proofs.Order.{lt_or_le}
use Rattle.buslog.proofs.Widths.{Below, Small}

-- ---- refusals

-- a check's refusal, if it is one
abbrev pub Few : Check → Type 0
Few (Ok _) = Unit {0}
Few (Err r) = Small (number_of r ∷ place_of r ∷ [])

-- a test's refusal, or else the next check
first : (t : Bool) (r : Refusal) (next : Check) → Small (number_of r ∷ place_of r ∷ []) → (t ≡ true → Few next) → Few (or_else (unless t r) next)
first true r next s f = f refl
first false r next s f = s

unless-few : (t : Bool) (r : Refusal) → Small (number_of r ∷ place_of r ∷ []) → Few (unless t r)
unless-few true r s = tt
unless-few false r s = s

-- the place of a fault, of bytes from place i on
kind_few : (u : Marks) (k : Kind) (i x : ℕ) → i ≤ 99999 → Few (fault_of pcf8532 u k i x)
kind_few u Kind.Command i x h = unless-few (defined (pcf8532.command x)) (UndefinedCommand i) (omega arith)
kind_few u Kind.Data i x h = unless-few (known u) (UnknownPlace i) (omega arith)

fault-few : (u : Marks) (e : Expect) (i x : ℕ) → i ≤ 99999 → Few (fault pcf8532 u e i x)
fault-few u Control i x h = unless-few (eqb (x % 64) 0) (StrayBits i) (omega arith)
fault-few u (One k) i x h = kind_few u k i x h
fault-few u (All k) i x h = kind_few u k i x h

either : (a b : Check) → Few a → Few b → Few (or_else a b)
either (Ok _) b fa fb = fb
either (Err r) b fa fb = fa

faults-few : (u : Marks) (e : Expect) (i : ℕ) (xs : List ℕ) → i + length xs ≤ 99999 → Few (fault_in pcf8532 false u e i xs)
unfolding fault_in
faults-few u e i [] h = tt
faults-few u e i (x ∷ xs) h = either (fault pcf8532 u e i x) _ (fault-few u e i x (omega arith)) (faults-few (marks_after pcf8532 u e x) (next e x) (suc i) xs (omega arith))

-- each body has the bytes of what was seen
abbrev pub Begun : ℕ → List (List ℕ) → Type 0
Begun seen [] = Unit {0}
Begun seen (body ∷ bodies) = (seen ≤ length body) × Begun seen bodies

-- records of so many bytes: they have no more, and what was seen, and a tear's place is small
pub record Bounded (seen size : ℕ) (r : Records) : Type 0 where
  pub weigh : size_of r.bodies ≤ size
  pub begun : Begun seen r.bodies
  pub torn : Few r.tear

bounded : (k seen at : ℕ) (rest : List ℕ) → at + length rest ≤ 99999 → Bounded seen (length rest) (read_in k seen at rest)
unfolding read_in
bounded zero seen at rest m = record { weigh = omega arith; begun = tt; torn = tt }
bounded (suc k) seen at [] m = record { weigh = omega arith; begun = tt; torn = tt }
bounded (suc k) seen at (h ∷ []) m = record { weigh = omega arith; begun = tt; torn = omega arith }
bounded (suc k) seen at (h ∷ l ∷ rest) m =
    let size = length_of h l in
    let left = length-drop size rest in
    ⊎_elim
    (λ (e : length rest < size). rw (lt-leb size (length rest) e) (record { weigh = omega arith; begun = tt; torn = omega arith }))
    (λ (e : size ≤ length rest).
    ⊎_elim
    (λ (f : size < seen). rw (le-leb size (length rest) e, lt-leb seen size f) (record { weigh = omega arith; begun = tt; torn = omega arith }))
    (λ (f : seen ≤ size).
    let after = bounded k seen (at + 2 + size) (drop size rest) (omega arith) in
    rw (le-leb size (length rest) e, le-leb seen size f)
    (record { weigh = omega (arith, length-take size rest, after.weigh); begun = (omega (arith, length-take size rest), after.begun); torn = after.torn }))
    (lt_or_le size seen))
    (lt_or_le (length rest) size)

pub log-bounded : (log : List ℕ) → length log ≤ 65536 → Bounded (seen_bytes log) 65536 (log_records log)
unfolding records_from
log-bounded log h =
    let left = length-drop 3 log in
    let b = bounded (length (drop 3 log)) (seen_bytes log) 3 (drop 3 log) (omega arith) in
    record { weigh = omega (arith, b.weigh); begun = b.begun; torn = b.torn }

-- a log's refusal
head_few : (log : List ℕ) → Few (check_head log)
unfolding check_head check_chips
head_few log =
    first (leb (length log) 65536) LongLog _ (omega arith)
    (λ _. first (leb 3 (length log) && (eqb (get_or log 0 0) 1 || eqb (get_or log 0 0) 2)) LogHead _ (omega arith)
    (λ _. unless-few (leb (get_or log 1 0) 4 && leb (get_or log 2 0) 4) ChipCount (omega arith)))

pub log-few : (log : List ℕ) → Few (check_log log)
unfolding check_log
log-few log = by-head (check_head log) refl (head_few log)
  where
    by-head : (k : Check) → check_head log ≡ k → Few k → Few (or_else k (log_records log).tear)
    by-head (Ok _) e f = (log-bounded log (headed log e).short).torn
    by-head (Err r) e f = f

-- ---- transfers

-- an answer's six numbers: five small ones and one of one digit
abbrev pub Told : Answer → Type 0
Told a = Small (take 5 (numbers pcf8532 a)) × (get_or (numbers pcf8532 a) 5 0 < 10)

-- a group that hears a transfer of 4,096 bytes at most
heard-few : (g : Group) (bytes : List ℕ) → sums.Few 1 g.counts → length bytes < 4097
    → let h = heard pcf8532 Control (drop 1 bytes) g in last_number pcf8532 h.last ≤ 4 → Told (Ok (record { counts = h.counts; last = h.last }))
heard-few g bytes begun few last =
    let s = sums.heard-few pcf8532 Control (drop 1 bytes) g 1 begun in
    (omega (arith, s.acknowledged, s.bits, length-drop 1 bytes), omega arith)

-- in a state that no call refuses
module _ (n : Chips) (s : State) (bytes : List ℕ) (v : Valid pcf8532 n s) (short : length bytes ≤ 65536) where
  -- a refusal's place
  transfer-refused : Few (check_transfer pcf8532 n s.registers s.ram (whole bytes))
  unfolding check_transfer check_sent check_length check_bits within whole_of
  transfer-refused = rw v (lengths (ltb 0 (length bytes)) (leb (length bytes) 4096))
    where
      commands : (to : Addressed) → Few (check_bytes pcf8532 s.registers to (whole bytes))
      commands (Some g) = faults-few (registers_of g s.registers).unknown Control 1 (drop 1 bytes) (omega (arith, length-drop 1 bytes))
      commands None = tt

      lengths : (t u : Bool) → Few (or_else (or_else (or_else (unless t EmptyTransfer) (unless u LongTransfer)) (Ok tt)) (check_bytes pcf8532 s.registers (heard_by n (get_or bytes 0 0)) (whole bytes)))
      lengths true true = commands (heard_by n (get_or bytes 0 0))
      lengths true false = omega arith
      lengths false u = omega arith

  -- a taken transfer's counts
  transfer-taken : check_transfer pcf8532 n s.registers s.ram (whole bytes) ≡ Ok tt → (to : Addressed) → Told (taken pcf8532 n s.registers s.ram (whole bytes) to).result.answer
  unfolding whole_of
  transfer-taken e (Some g) =
      let f = fits-of pcf8532 n s.registers s.ram v in
      let on = begun (registers_of g s.registers) (columns_of pcf8532 n g s.ram) in
      let who = (heard pcf8532 Control (drop 1 bytes) on).last in
      heard-few on bytes (record { acknowledged = omega arith; bits = omega arith })
      (transfer-passed pcf8532 n s.registers s.ram (whole bytes) e).1.1
      (last-few pcf8532 (chips_in g n) who (few-chips-in pcf8532 n s.registers s.ram f g)
      (heard-among pcf8532 pcf8532-keeps (chips_in g n) (drop 1 bytes) Control on (group-kept pcf8532 n s.registers s.ram f g) tt))
  transfer-taken e None = (omega arith, omega arith)

  -- an answer's numbers
  pub transfer-few : Told (transfer_call pcf8532 n s.registers s.ram (whole bytes)).result.answer
  unfolding transfer_call whole_of
  transfer-few = by-check (check_transfer pcf8532 n s.registers s.ram (whole bytes)) refl transfer-refused
    where
      by-check : (k : Check) → check_transfer pcf8532 n s.registers s.ram (whole bytes) ≡ k → Few k → Told (answered k s.registers s.ram (taken pcf8532 n s.registers s.ram (whole bytes) (heard_by n (get_or bytes 0 0)))).result.answer
      by-check (Ok _) e f = transfer-taken e (heard_by n (get_or bytes 0 0))
      by-check (Err r) e f = (omega arith, omega arith)

-- of a transfer of no byte, or of the address alone, they have one digit each
pub transfer-short : (n : Chips) (s : State) (bytes : List ℕ) → Valid pcf8532 n s → length bytes < 2 → Below 0 (numbers pcf8532 (transfer_call pcf8532 n s.registers s.ram (whole bytes)).result.answer)
unfolding transfer_call check_transfer check_sent check_length check_bits within whole_of fault_in heard
transfer-short n s [] v l = rw v (omega arith)
transfer-short n s (x ∷ []) v l = rw v (by_address (heard_by n x))
  where
    by_address : (to : Addressed) → Below 0 (numbers pcf8532 (answered (check_bytes pcf8532 s.registers to (whole (x ∷ []))) s.registers s.ram (taken pcf8532 n s.registers s.ram (whole (x ∷ [])) to)).result.answer)
    by_address (Some g) = omega arith
    by_address None = omega arith
transfer-short n s (x ∷ y ∷ xs) v l = absurd (omega arith)
