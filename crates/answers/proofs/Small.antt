-- The first of an answer's numbers fits a byte: a refusal's is at most 27.
-- Assumes nothing.
use mathlib.Core.Path.{◌≡◌}
use mathlib.Core.List.{List}
use Prim.Native.Nat.{ℕ, ◌<◌}
use native.Mathlib.Omega.{arith}
use lib.ListN.{get_or}
use Rattle.std.specs.Prelude.{Err, Ok}
use Rattle.sheet.specs.Results.{Answer, PlainAnswer, Pictured, Rescued, Written, Check}
use Rattle.sheet.specs.declared.Refusal.{Refusal}
use Rattle.sheet.specs.declared.Refusal.TheVariants.{EmptyTransfer, LongTransfer, ChipCount, RamLength, RamByte, Register, UndefinedCommand, GroupOrPhase, OutputLength, ManyChips, ChipField, LogHead, CutRecord, LongLog, NoSymbol, UnknownPart, StrayBits, UnknownPlace, BitCount, ShortBody, RecordForm, Checksum, RecordType, AddressOutside, AddressTwice, AddressMissing, NoEnd}
use Rattle.sheet.specs.Parts.{Part}
use Rattle.sheet.specs.Refusals.{number_of, numbers, plain_numbers, picture_numbers, rescued_numbers, check_numbers, written_numbers}

small : (r : Refusal) → number_of r < 256
small EmptyTransfer = omega arith
small LongTransfer = omega arith
small ChipCount = omega arith
small RamLength = omega arith
small (RamByte at) = omega arith
small Register = omega arith
small (UndefinedCommand at) = omega arith
small GroupOrPhase = omega arith
small OutputLength = omega arith
small ManyChips = omega arith
small (ChipField at) = omega arith
small LogHead = omega arith
small (CutRecord at) = omega arith
small LongLog = omega arith
small (NoSymbol at) = omega arith
small UnknownPart = omega arith
small (StrayBits at) = omega arith
small (UnknownPlace at) = omega arith
small BitCount = omega arith
small (ShortBody at) = omega arith
small (RecordForm at) = omega arith
small (Checksum at) = omega arith
small (RecordType at) = omega arith
small (AddressOutside at) = omega arith
small (AddressTwice at) = omega arith
small (AddressMissing at) = omega arith
small NoEnd = omega arith

module _ {l : List ℕ} where
  pub answer-small : (K : Part) (a : Answer) → l ≡ numbers K a → get_or l 0 0 < 256
  answer-small K (Ok t) e = rw e (omega arith)
  answer-small K (Err r) e = rw e (small r)

  pub plain-small : (K : Part) (a : PlainAnswer) → l ≡ plain_numbers K a → get_or l 0 0 < 256
  plain-small K (Ok t) e = rw e (omega arith)
  plain-small K (Err r) e = rw e (small r)

  pub picture-small : (p : Pictured) → l ≡ picture_numbers p → get_or l 0 0 < 256
  picture-small (Ok n) e = rw e (omega arith)
  picture-small (Err r) e = rw e (small r)

  pub check-small : (k : Check) → l ≡ check_numbers k → get_or l 0 0 < 256
  check-small (Ok _) e = rw e (omega arith)
  check-small (Err r) e = rw e (small r)

  pub rescued-small : (p : Rescued) → l ≡ rescued_numbers p → get_or l 0 0 < 256
  rescued-small (Ok k) e = rw e (omega arith)
  rescued-small (Err r) e = rw e (small r)

  pub written_small : (p : Written) → l ≡ written_numbers p → get_or l 0 0 < 256
  written_small (Ok n) e = rw e (omega arith)
  written_small (Err r) e = rw e (small r)
