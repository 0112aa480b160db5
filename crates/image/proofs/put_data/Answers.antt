-- `image::put_data` meets its contract: a record a turn; what is left gives the whole.
-- Assumes nothing.
use mathlib.Core.Path.{◌≡◌, ap}
use mathlib.Core.List.{List, ◌++◌}
use Prim.Native.Nat.{ℕ, ◌+◌, ◌-◌, ◌*◌, ◌/◌, ◌<◌}
use native.Mathlib.Omega.{arith}
use lib.ListN.{length, take, drop, length-take}
use Rattle.image_sheet.specs.Hex.{record_of, line_of}
use Rattle.text.proofs.Writing.{Writing, rest-is, turn, done, room_for}
use Rattle.imagelaws.proofs.Sizes.{lines_from, one_line, no_line}
use Rattle.image.proofs.put_data.Goals as goal

-- the record at an address is next
nearest : (ram : List ℕ) (at : ℕ) {at₀ place : ℕ} {whole out₀ out : List ℕ} → Writing at₀ whole out₀ place (lines_from ram at) out → at < length ram
    → Writing at₀ whole out₀ place (line_of (record_of 0 at (take (at + 16 - at) (drop at ram))) ++ lines_from ram (at + 16)) out
nearest ram at w h = rest-is w (one_line ram at h)

-- there is one
there : (ram : List ℕ) (i : ℕ) → i < length ram / 16 → 16 * i < length ram
there ram i h = omega (arith, h)

pub put_record-place-requires : goal.put_record-place-requires
put_record-place-requires c = let ram = c.args.ram.now in
    let at = 16 * c.loop-i.i in
    let here : at < length ram = there ram c.loop-i.i (omega arith) in
    record {
      few = omega (arith, length-take (at + 16 - at) (drop at ram));
      near = omega (arith, here, c.requires.near);
      room = room_for (line_of (record_of 0 at (take (at + 16 - at) (drop at ram)))) (lines_from ram (at + 16)) (nearest ram at c.loop-i.invariant here);
    }

pub loop-i-preserved : goal.loop-i-preserved
loop-i-preserved c = let ram = c.args.ram.now in
    let next : 16 * c.loop-i.i + 16 ≡ 16 * (c.loop-i.i + 1) = omega arith in
    rest-is (turn (nearest ram (16 * c.loop-i.i) c.loop-i.invariant (there ram c.loop-i.i (omega arith))) c.put_record-place.ensures) (ap (lines_from ram) next)

pub returns : goal.returns
returns c = done (rest-is c.loop-i.invariant (no_line c.args.ram.now (16 * c.loop-i.i) (omega (arith, c.requires.sixteens))))
