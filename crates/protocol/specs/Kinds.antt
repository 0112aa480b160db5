-- The kind of the next byte.
use Rattle.std.specs.Prelude.{Option, None, Some}
use Rattle.sheet.specs.declared.Kind.{Kind}
use Rattle.sheet.specs.declared.Expect.{Expect}
use Rattle.sheet.specs.declared.Expect.TheVariants.{Control, One, All}

-- none of a control byte
abbrev pub kind : Expect → Option Kind
kind Control = None
kind (One k) = Some k
kind (All k) = Some k
