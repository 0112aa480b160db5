-- A run of data bytes at once (paper 01, "Where a data byte goes"): what it makes of columns, counts, registers and who acknowledged last, each by itself.
-- `laws` shows that bytes followed one by one make the same.
use Rattle.std.specs.Prelude.{ℕ, zero, suc, ◌+◌, ◌*◌, List, [], ◌∷◌}
use Rattle.sheet.specs.declared.Registers.{Registers}
use Rattle.sheet.specs.declared.Counts.{Counts}
use Rattle.sheet.specs.Results.{Acknowledger}
use Rattle.sheet.specs.Parts.{Part}
use Rattle.sheet.specs.Registers.{backplanes, bank_row}
use Rattle.sheet.specs.Places.{position, at_position}
use Rattle.sheet.specs.Data.{put_bits, width_of, counted, acknowledger}

-- byte j begins at column v + w * j
unfoldable pub put_run : ℕ → ℕ → ℕ → List ℕ → List ℕ → List ℕ
put_run m b v [] ram = ram
put_run m b v (x ∷ xs) ram = put_run m b (v + width_of m) xs (put_bits 8 m b v x ram)

-- n data bytes more
unfoldable pub counted_run : ℕ → ℕ → ℕ → ℕ → Counts → Counts
counted_run zero m v size t = t
counted_run (suc n) m v size t = counted_run n m (v + width_of m) size (counted m v size t)

-- who acknowledges the last of n data bytes; of none, who did before
unfoldable pub last_run : Part → ℕ → ℕ → ℕ → ℕ → Acknowledger → Acknowledger
last_run K zero m v size before = before
last_run K (suc n) m v size before = last_run K n m (v + width_of m) size (acknowledger K m v size)

-- ---- from where the registers point, in their mode and input bank

abbrev pub written_by : Part → Registers → List ℕ → List ℕ → List ℕ
written_by K r xs ram = put_run (backplanes r) (bank_row (backplanes r) r.i) (position K r) xs ram

abbrev pub counted_by : Part → Registers → ℕ → ℕ → Counts → Counts
counted_by K r n size t = counted_run n (backplanes r) (position K r) size t

abbrev pub last_by : Part → Registers → ℕ → ℕ → Acknowledger → Acknowledger
last_by K r n size before = last_run K n (backplanes r) (position K r) size before

abbrev pub moved_by : Part → ℕ → Registers → Registers
moved_by K n r = at_position K r (position K r + width_of (backplanes r) * n)
