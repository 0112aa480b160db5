-- The calls as C sees them: registers and chips as bytes, answers as numbers, through the definitions of `sheet`. Assumes nothing.
use Rattle.std.specs.Prelude.{ℕ, ◌%◌, true, List, eqb, length, Option, Some, None}
use Rattle.sheet.specs.declared.Chips.{Chips}
use Rattle.sheet.specs.Refusals.{plain_numbers, picture_numbers, rescued_numbers, check_numbers, written_numbers}
use Rattle.sheet.specs.Parts.{part_of}
use Rattle.sheet.specs.Protocol.{Sent}
use Rattle.packed_sheet.specs.Packed.{power_on_packed, transfer_packed, picture_packed}
use Rattle.sheet.specs.Plain.{chip_power_on_part, chip_picture_part}
use Rattle.log_sheet.specs.Rescue.{rescue_call}
use Rattle.writer_sheet.specs.Writer.{write_rows_part}
use Rattle.writer_sheet.specs.Three.{write_three_part}
use Rattle.image_sheet.specs.Hex.{hex_write_part}
use Rattle.image_sheet.specs.Images.{hex_read_part}
use Rattle.price_sheet.specs.Price.{price_write, price_read}
use Rattle.lent.specs.Lent.{lent_call}
use Rattle.lent_long.specs.LongCalls.{Called, powered_c, after_c, Filled, said_c, seen_c}
use Rattle.wire.specs.Bytes.{both_of, chip_in, chip_bytes}

abbrev pub chips_of : ℕ → ℕ → Chips
chips_of z o = record { zero = z; one = o }

-- packed, two columns a byte (paper 02, request 6)
unfoldable pub packed_power_on_c : ℕ → Chips → List ℕ → List ℕ → List ℕ → Called
packed_power_on_c part n ram registers answer = powered_c registers ram answer (power_on_packed part n ram)

unfoldable pub packed_transfer_c : ℕ → Chips → List ℕ → List ℕ → Sent → List ℕ → Called
packed_transfer_c part n registers ram transfer answer = after_c part registers ram answer (transfer_packed part n (both_of registers) ram transfer)

unfoldable pub packed_picture_c : ℕ → Chips → List ℕ → List ℕ → ℕ → ℕ → List ℕ → List ℕ → Filled
packed_picture_c part n registers ram group phase out answer = seen_c registers out answer (picture_packed part n (both_of registers) ram group phase out)

-- ---- one buffer to write

-- a picture of one chip
unfoldable pub chip_picture_c : ℕ → List ℕ → ℕ → List ℕ → List ℕ → Filled
chip_picture_c part chip phase out answer =
    let s = chip_picture_part part (chip_in chip) phase out in
    said_c (eqb (length chip) 174) (picture_numbers s.result) s.out out answer

-- one chip, 174 bytes: taken or refused, only the registers are new
unfoldable pub chip_power_on_c : ℕ → List ℕ → List ℕ → Filled
chip_power_on_c part chip answer =
    let p = chip_power_on_part part (chip_in chip) in
    said_c (eqb (length chip) 174) (check_numbers p.check) (chip_bytes p.chip) chip answer

-- a list of chips, 174 bytes each
unfoldable pub plain_c : ℕ → List ℕ → Sent → List ℕ → Filled
plain_c part chips transfer answer =
    let s = lent_call part chips transfer in
    said_c (eqb (length chips % 174) 0) (plain_numbers (part_of part) s.answer) s.chips chips answer

-- a transfer for wanted rows
unfoldable pub write_rows_c : ℕ → Chips → List ℕ → ℕ → ℕ → ℕ → List ℕ → List ℕ → List ℕ → Filled
write_rows_c part n registers group mode bank wanted out answer =
    let s = write_rows_part part n (both_of registers) group mode bank wanted out in
    said_c (eqb (length registers) 24) (written_numbers s.result) s.out out answer

-- and for every element of a three-backplane glass
unfoldable pub write_three_c : ℕ → Chips → List ℕ → ℕ → List ℕ → List ℕ → List ℕ → Filled
write_three_c part n registers group wanted out answer =
    let s = write_three_part part n (both_of registers) group wanted out in
    said_c (eqb (length registers) 24) (written_numbers s.result) s.out out answer

-- a RAM image, written and read
unfoldable pub hex_write_c : ℕ → ℕ → List ℕ → List ℕ → List ℕ → Filled
hex_write_c part n ram out answer =
    let s = hex_write_part part n ram out in
    said_c true (written_numbers s.result) s.out out answer

unfoldable pub hex_read_c : ℕ → ℕ → List ℕ → List ℕ → List ℕ → Filled
hex_read_c part n file ram answer =
    let s = hex_read_part part n file ram in
    said_c true (written_numbers s.result) s.out ram answer

-- a price's text to data bytes, and back
unfoldable pub price_write_c : ℕ → List ℕ → List ℕ → List ℕ → Filled
price_write_c mode text out answer =
    let s = price_write mode text out in
    said_c true (written_numbers s.result) s.out out answer

unfoldable pub price_read_c : ℕ → List ℕ → List ℕ → List ℕ → Filled
price_read_c mode segments out answer =
    let s = price_read mode segments out in
    said_c true (written_numbers s.result) s.out out answer

-- what is whole of a torn log
unfoldable pub rescue_c : List ℕ → List ℕ → List ℕ → Filled
rescue_c log out answer =
    let s = rescue_call log out in
    said_c true (rescued_numbers s.result) s.out out answer

-- ---- replay

-- the bytes of the text, or 0 for too small a buffer: no text is empty
abbrev pub replay_number : Option ℕ → ℕ
replay_number (Some n) = n
replay_number None = 0
