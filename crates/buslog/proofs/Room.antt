-- There is room for the text of any log: ten bytes of records' lines at most for each byte of a log, 1,280 column lines of 20 and two group lines of 14; or a refusal's line.
-- Assumes nothing.
use mathlib.Core.Path.{◌≡◌, refl}
use mathlib.Core.Logic.{⊎_elim}
use mathlib.Core.Bool.{Bool, true, false, cond}
use mathlib.Core.List.{List, [], ◌∷◌, ◌++◌, map}
use Prim.Native.Nat.{ℕ, zero, suc, ◌+◌, ◌*◌, ◌/◌, ◌^◌, ◌≤◌, ◌<◌}
use native.Mathlib.Nat.{div-le_self, mod-le}
use native.Mathlib.Omega.{arith}
use lib.Count.{ones-le}
use lib.Dec.{eqb}
use lib.ListN.{length, get_or, take, drop, length-append, length-map, length-take, length-drop}
use Rattle.lemmas.proofs.Order.{lt_or_le}
use Rattle.std.specs.Prelude.{Err, None, Ok, Some}
use Rattle.sheet.specs.Results.{Answer, Shown, Check}
use Rattle.sheet.specs.declared.Chips.{Chips}
use Rattle.sheet.specs.Refusals.{number_of, place_of, numbers}
use Rattle.sheet.specs.Parts.{pcf8532}
use Rattle.sheet.specs.Registers.{backplanes, registers_of}
use Rattle.sheet.specs.Protocol.{chips_in, whole}
use Rattle.log_sheet.specs.Records.{size_of}
use Rattle.sheet.specs.Pictures.{shown, lit, picture_of, lit_in}
use Rattle.sheet.specs.Long.{State, state_after, transfer_call, columns_of, start_of, state_after_all}
use Rattle.log_sheet.specs.Logs.{log_chips, seen_bytes, log_records, transfer_in, log_transfers, check_log, line, transfer_letter, seen_letter, column_letter, group_letter, refusal_letter, transfer_line, modelled, seen_in, seen_line, record_lines, transfer_lines, column_line, column_lines, group_line, shown_at, end_lines, log_start, log_lines, text_by, text_of}
use Rattle.sheet.specs.Agree.{Valid}
use Rattle.laws.proofs.Nibbles.{Nibbles, take-nibbles, drop-nibbles}
use Rattle.laws.proofs.Fits.{fits-of}
use Rattle.agreement.proofs.Demand.{demand3}
use Rattle.laws.proofs.Kept.{pcf8532-keeps}
use Rattle.laws.proofs.Lens.{few-chips-in, length-columns}
use Rattle.records.specs.Found.{AllCounted}
use Rattle.buslog.specs.Replays.{room}
use Rattle.buslog.proofs.Widths.{line-few, line-last, line-short}
use Rattle.buslog.proofs.Numbers.{Begun, Few, Told, log-bounded, log-few, transfer-few, transfer-short}
use Rattle.buslog.proofs.Checked.{checked}
use Rattle.buslog.proofs.States.{start-valid}

-- ---- transfers

-- an answer has six numbers, five and one more
six : (a : Answer) → length (numbers pcf8532 a) ≡ 6
six (Ok t) = refl
six (Err r) = refl

and_last : (a : Answer) → numbers pcf8532 a ≡ take 5 (numbers pcf8532 a) ++ (get_or (numbers pcf8532 a) 5 0 ∷ [])
and_last (Ok t) = refl
and_last (Err r) = refl

-- ten bytes at most for each byte of the record: a line of one digit a count for a record of no byte or one, and else 40
transfer-line : (n : Chips) (i : ℕ) (s : State) (t : List ℕ) → Valid pcf8532 n s → length t ≤ 65536 → i < 100000
    → length (transfer_line i (transfer_call pcf8532 n s.registers s.ram (whole t)).result.answer) ≤ 10 * (length t + 2)
transfer-line n i s t v short h =
    let a = (transfer_call pcf8532 n s.registers s.ram (whole t)).result.answer in
    ⊎_elim (λ (l : length t < 2). omega (arith, line-short transfer_letter i (numbers pcf8532 a) h (transfer-short n s t v l) (six a)))
    (λ (l : 2 ≤ length t).
    let told = transfer-few n s t v short in
    rw (and_last a) (omega (arith, line-last transfer_letter (i ∷ take 5 (numbers pcf8532 a)) (get_or (numbers pcf8532 a) 5 0) (h, told.0) told.1, length-take 5 (numbers pcf8532 a))))
    (lt_or_le (length t) 2)

modelled-few : (a : Answer) → Told a → modelled a < 100000
modelled-few (Ok t) h = h.0.1.1.0
modelled-few (Err r) h = omega arith

seen_few : (i s m : ℕ) → i < 100000 → s < 100000 → m < 100000 → length (seen_line i s m) ≤ 20
seen_few i s m hi hs hm = one (eqb s m)
  where
    one : (t : Bool) → length (cond t [] (line seen_letter (i ∷ s ∷ m ∷ []))) ≤ 20
    one true = omega arith
    one false = omega (arith, line-few seen_letter (i ∷ s ∷ m ∷ []) (omega arith))

-- by the version
abbrev seen_by : Bool → ℕ
seen_by two = cond two 2 0

-- the bytes seen are two of the record's, and make room for their line
record-lines : (two : Bool) (n : Chips) (i : ℕ) (s : State) (body : List ℕ) → Valid pcf8532 n s → length body ≤ 65536 → i < 100000 → seen_in body < 65536
    → let seen = seen_by two in seen ≤ length body → length (record_lines seen i (seen_in body) (transfer_call pcf8532 n s.registers s.ram (transfer_in seen body)).result.answer) ≤ 10 * (length body + 2)
record-lines true n i s body v short h c two =
    let a = (transfer_call pcf8532 n s.registers s.ram (whole (drop 2 body))).result.answer in
    let less = length-drop 2 body in
    let told = transfer-few n s (drop 2 body) v (omega arith) in
    omega (arith, length-append (transfer_line i a) (seen_line i (seen_in body) (modelled a)), transfer-line n i s (drop 2 body) v (omega arith) h, seen_few i (seen_in body) (modelled a) h (omega arith) (modelled-few a told))
record-lines false n i s body v short h c two =
    let a = (transfer_call pcf8532 n s.registers s.ram (whole body)).result.answer in
    omega (arith, length-append (transfer_line i a) [], transfer-line n i s body v short h)

-- i records before these had two bytes at least
transfers-few : (two : Bool) (n : Chips) (i : ℕ) (s : State) (bodies : List (List ℕ)) → Valid pcf8532 n s → 2 * i + size_of bodies ≤ 65536 → Begun (seen_by two) bodies → AllCounted bodies
    → length (transfer_lines (seen_by two) n i s bodies) ≤ 10 * size_of bodies
unfolding transfer_lines
transfers-few two n i s [] v h b c = omega arith
transfers-few two n i s (body ∷ bodies) v h b c =
    let seen = seen_by two in
    let after = state_after pcf8532 n s (transfer_in seen body) in
    let lines = record_lines seen i (seen_in body) (transfer_call pcf8532 n s.registers s.ram (transfer_in seen body)).result.answer in
    omega (
      arith,
      length-append lines (transfer_lines seen n (suc i) after bodies),
      record-lines two n i s body v (omega arith) (omega arith) c.0 b.0,
      transfers-few two n (suc i) after bodies ((demand3 pcf8532 (omega arith) pcf8532-keeps).transfer n s (transfer_in seen body) v).valid (omega arith) b.1 c.1,
    )

-- ---- pictures

-- a column shows no more than it holds
lit-le : (m q : ℕ) (s : Shown) → lit m s q ≤ q
lit-le m q None = omega arith
lit-le m q (Some b) = omega (arith, mod-le (q / 2 ^ b) (2 ^ m), div-le_self q (2 ^ b))

picture-nibbles : (m : ℕ) (s : Shown) (ram : List ℕ) → Nibbles ram → Nibbles (map (lit m s) ram)
picture-nibbles m s [] w i = omega arith
picture-nibbles m s (q ∷ qs) w zero = omega (arith, lit-le m q s, w 0)
picture-nibbles m s (q ∷ qs) w (suc i) = picture-nibbles m s qs (λ j. w (suc j)) i

-- four elements a column
lit-few : (picture : List ℕ) → Nibbles picture → lit_in picture ≤ 4 * length picture
unfolding lit_in
lit-few [] w = omega arith
lit-few (q ∷ qs) w = omega (arith, ones-le 4 q (w 0), lit-few qs (λ j. w (suc j)))

-- a line a column
columns-few : (g c : ℕ) (picture : List ℕ) → g < 2 → c + length picture ≤ 99999 → Nibbles picture → length (column_lines g c picture) ≤ 20 * length picture
unfolding column_lines
columns-few g c [] hg h w = omega arith
columns-few g c (q ∷ qs) hg h w =
    omega (arith, length-append (column_line g c q) (column_lines g (suc c) qs), one (eqb q 0), columns-few g (suc c) qs hg (omega arith) (λ j. w (suc j)))
  where
    one : (t : Bool) → length (cond t [] (line column_letter (g ∷ c ∷ q ∷ []))) ≤ 20
    one true = omega arith
    one false = omega (arith, line-few column_letter (g ∷ c ∷ q ∷ []) (omega (arith, w 0)))

-- the lines at the end, of a state that no call refuses
module _ (n : Chips) (s : State) (v : Valid pcf8532 n s) where
  shown-nibbles : (g : ℕ) → Nibbles (shown_at n s g)
  unfolding picture_of
  shown-nibbles g =
      let r = registers_of g s.registers in
      picture-nibbles (backplanes r) (shown r 0) (columns_of pcf8532 n g s.ram) (take-nibbles (160 * chips_in g n) (drop (start_of pcf8532 n g) s.ram) (drop-nibbles (start_of pcf8532 n g) s.ram (fits-of pcf8532 n s.registers s.ram v).nibbles))

  shown-few : (g : ℕ) → length (shown_at n s g) ≤ 640
  unfolding picture_of
  shown-few g =
      let f = fits-of pcf8532 n s.registers s.ram v in
      let r = registers_of g s.registers in
      omega (arith, length-map (columns_of pcf8532 n g s.ram) (lit (backplanes r) (shown r 0)), length-columns pcf8532 n s.registers s.ram f g, few-chips-in pcf8532 n s.registers s.ram f g)

  group-few : (g : ℕ) → g < 2 → (length (column_lines g 0 (shown_at n s g)) ≤ 12800) × (length (group_line g (lit_in (shown_at n s g))) ≤ 14)
  group-few g h =
      let size = shown-few g in
      let count = lit-few (shown_at n s g) (shown-nibbles g) in
      (omega (arith, columns-few g 0 (shown_at n s g) h (omega arith) (shown-nibbles g)), omega (arith, line-few group_letter (g ∷ lit_in (shown_at n s g) ∷ []) (omega arith)))

  end-few : length (end_lines n s) ≤ 25628
  end-few =
      let columns-zero = column_lines 0 0 (shown_at n s 0) in
      let columns-one = column_lines 1 0 (shown_at n s 1) in
      let line-zero = group_line 0 (lit_in (shown_at n s 0)) in
      let line-one = group_line 1 (lit_in (shown_at n s 1)) in
      let zero-few = group-few 0 (omega arith) in
      let one-few = group-few 1 (omega arith) in
      omega (arith, length-append columns-zero (columns-one ++ (line-zero ++ line-one)), length-append columns-one (line-zero ++ line-one), length-append line-zero line-one)

-- ---- a log's text

lines_few : (log : List ℕ) → check_log log ≡ Ok tt → AllCounted (log_records log).bodies → length (log_lines (seen_bytes log) (log_chips log) (log_records log).bodies) ≤ room
lines_few log e counted =
    let c = checked log e in
    let n = log_chips log in
    let seen = seen_bytes log in
    let bodies = (log_records log).bodies in
    let v = start-valid n c.chips in
    let end = state_after_all pcf8532 n (log_start n) (log_transfers log) in
    let b = log-bounded log c.short in
    omega (
      arith,
      length-append (transfer_lines seen n 0 (log_start n) bodies) (end_lines n end),
      transfers-few (eqb (get_or log 0 0) 2) n 0 (log_start n) bodies v (omega (arith, b.weigh)) b.begun counted,
      end-few n end ((demand3 pcf8532 (omega arith) pcf8532-keeps).sequence n (log_start n) (log_transfers log) v).valid,
      b.weigh,
    )

-- the law, of a log of which what was seen is counted
pub text-few : (log : List ℕ) → (check_log log ≡ Ok tt → AllCounted (log_records log).bodies) → length (text_of log) ≤ room
unfolding text_of
text-few log counted = by-check (check_log log) refl (log-few log)
  where
    by-check : (k : Check) → check_log log ≡ k → Few k → length (text_by k (seen_bytes log) (log_chips log) (log_records log).bodies) ≤ room
    by-check (Ok _) e f = lines_few log e (counted e)
    by-check (Err r) e f = omega (arith, line-few refusal_letter (number_of r ∷ place_of r ∷ []) f)
