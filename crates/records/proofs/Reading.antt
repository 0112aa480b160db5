-- What a cursor finds, by how much of the log is left.
-- Assumes nothing.
use mathlib.Core.Path.{◌≡◌, ap}
use mathlib.Core.List.{List, ◌∷◌}
use Prim.Native.Nat.{ℕ, ◌+◌, ◌-◌, ◌≤◌, ◌<◌}
use native.Mathlib.Omega.{arith}
use lib.ListN.{length, get_or, take, drop, length-drop, drop_of_length-le}
use borrow.Author.Tests.{le-leb, lt-leb}
use Rattle.lemmas.proofs.Lists.{next}
use Rattle.log_sheet.specs.Records.{length_of}
use Rattle.log_sheet.specs.Logs.{seen_in}
use Rattle.records.specs.declared.Record.TheVariants.{Body, End, Cut, Short}
use Rattle.records.specs.Found.{record_in}

module _ (seen : ℕ) (log : List ℕ) (at : ℕ) where
  -- past the last byte
  pub finds_end : length log ≤ at → record_in seen at (drop at log) ≡ End
  unfolding record_in
  finds_end h = rw (drop_of_length-le log h)

  -- a cut length field
  pub finds_half : length log ≡ at + 1 → record_in seen at (drop at log) ≡ Cut
  unfolding record_in
  finds_half e = rw (next log at (omega arith), drop_of_length-le log {i = at + 1} (omega arith))

  -- a length field and what follows it
  field : at + 2 ≤ length log → drop at log ≡ get_or log at 0 ∷ get_or log (at + 1) 0 ∷ drop (at + 2) log
  field h = rw (next log at (omega arith), next log (at + 1) (omega arith)) (ap (λ (k : ℕ). get_or log at 0 ∷ get_or log (at + 1) 0 ∷ drop k log) {x = at + 1 + 1} {y = at + 2} (omega arith))

  -- and fewer bytes after it than it says, or as many, of which there are too few for what was seen, or enough
  module _ (size : ℕ) (e : size ≡ length_of (get_or log at 0) (get_or log (at + 1) 0)) (h : at + 2 ≤ length log) where
    pub finds_cut : length log - at - 2 < size → record_in seen at (drop at log) ≡ Cut
    unfolding record_in
    finds_cut l = rw (field h, ← e, lt-leb size (length (drop (at + 2) log)) (omega (arith, length-drop (at + 2) log)))

    pub finds_short : size ≤ length log - at - 2 → size < seen → record_in seen at (drop at log) ≡ Short
    unfolding record_in
    finds_short l s = rw (field h, ← e, le-leb size (length (drop (at + 2) log)) (omega (arith, length-drop (at + 2) log)), lt-leb seen size s)

    pub finds_whole : size ≤ length log - at - 2 → seen ≤ size → record_in seen at (drop at log) ≡ Body (at + 2) size (seen_in (take size (drop (at + 2) log)))
    unfolding record_in
    finds_whole l s = rw (field h, ← e, le-leb size (length (drop (at + 2) log)) (omega (arith, length-drop (at + 2) log)), le-leb seen size s)
