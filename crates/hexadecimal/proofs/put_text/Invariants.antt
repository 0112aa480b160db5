use lib.ListN.{drop}
use Rattle.image_sheet.specs.Hex.{text_of}
use Rattle.text.proofs.Writing.{Writing}
use Rattle.hexadecimal.proofs.put_text.Given as goal

abbrev pub invariant-loop-byte : goal.invariant-loop-byte
invariant-loop-byte l = Writing l.at (text_of l.bytes) l.initial.out l.place (text_of (drop l.byte-index l.bytes)) l.out
