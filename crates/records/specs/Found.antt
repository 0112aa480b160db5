-- What a cursor finds in a log.
-- Assumes nothing.
use Rattle.std.specs.Prelude.{cond, List, [], ◌∷◌, ℕ, ◌+◌, ◌<◌, leb, length, take, drop}
use Rattle.log_sheet.specs.Records.{Records, length_of, records_from}
use Rattle.log_sheet.specs.Logs.{seen_in}
use Rattle.records.specs.declared.Record.{Record}
use Rattle.records.specs.declared.Record.TheVariants.{Body, End, Cut, Short}

-- the record at the head of what is left, which begins at a place: where its body starts, its size, and the bytes seen
unfoldable pub record_in : ℕ → ℕ → List ℕ → Record
record_in seen at [] = End
record_in seen at (h ∷ []) = Cut
record_in seen at (h ∷ l ∷ rest) = let size = length_of h l in
    cond (leb size (length rest)) (cond (leb seen size) (Body (at + 2) size (seen_in (take size rest))) Short) Cut

-- a log's records from a place on
abbrev pub records_at : ℕ → List ℕ → ℕ → Records
records_at seen log at = records_from seen at (drop at log)

-- two bytes count no more than 65,535
abbrev pub Counted : Record → Type 0
Counted (Body start size count) = count < 65536
Counted End = Unit {0}
Counted Cut = Unit {0}
Counted Short = Unit {0}

abbrev pub AllCounted : List (List ℕ) → Type 0
AllCounted [] = Unit {0}
AllCounted (body ∷ bodies) = (seen_in body < 65536) × AllCounted bodies
