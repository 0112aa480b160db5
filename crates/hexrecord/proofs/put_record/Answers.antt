-- `hexrecord::put_record` meets its contract: the colon, the head, the columns, the checksum and LF; what is left gives the whole line.
-- Assumes nothing.
use mathlib.Core.Path.{◌≡◌, sym, ap, ap₂, ◌∙◌}
use mathlib.Core.List.{List, [], ◌∷◌, ◌++◌}
use Prim.Native.Nat.{ℕ, ◌<◌}
use native.Mathlib.Omega.{arith}
use mir.Syntax.{w16}
use lib.ListN.{length, get_or}
use Rattle.std.specs.Int.{to_be_bytes}
use Rattle.image_sheet.specs.Hex.{text_of, head_of, record_of, line_of, checksum_of}
use Rattle.laws.proofs.Hexadecimal.{line-parts}
use Rattle.text.specs.Texts.{Puts}
use Rattle.text.proofs.Writing.{Writing, begin, rest-is, turn, last, room_for}
use Rattle.hexrecord.specs.Lines.{Room}
use Rattle.hexrecord.proofs.put_record.Goals as goal

-- the checksum and LF
abbrev end : ℕ → List ℕ
end x = text_of (x ∷ []) ++ (10 ∷ [])

-- the head of its record
abbrev head : ℕ → List ℕ → List ℕ → List ℕ
head kind place columns = length columns ∷ get_or place 0 0 ∷ get_or place 1 0 ∷ kind ∷ []

-- an address in two bytes, the high one first
head-is : (kind address : ℕ) (place columns : List ℕ) → address < 65536 → place ≡ to_be_bytes w16 address → head kind place columns ≡ head_of kind address columns
head-is kind address place columns near e = rw e (ap₂ (λ (h l : ℕ). length columns ∷ h ∷ l ∷ kind ∷ []) (omega arith) (omega arith))

module _ (at kind address sum : ℕ) (columns out place₂ : List ℕ) where
  -- so much of the line is left at a place
  abbrev Left : ℕ → List ℕ → List ℕ → Type 0
  Left place rest now = Writing at (line_of (record_of kind address columns)) out place rest now

  after-colon : {place : ℕ} {now : List ℕ} → Room at kind address columns out → place₂ ≡ to_be_bytes w16 address → sum ≡ checksum_of (head kind place₂ columns ++ columns) → Puts at (58 ∷ []) out now place
      → Left place (text_of (head kind place₂ columns) ++ (text_of columns ++ end sum)) now
  after-colon room bytes is p =
      let e = head-is kind address place₂ columns room.near bytes in
      turn {text = 58 ∷ []}
      (rest-is (begin at _ out room.room) (line-parts kind address sum columns (is ∙ ap (λ (h : List ℕ). checksum_of (h ++ columns)) e) ∙ ap (λ (h : List ℕ). (58 ∷ []) ++ (text_of h ++ (text_of columns ++ end sum))) (sym e)))
      p

  after-head : {place next : ℕ} {now then : List ℕ} → Left place (text_of (head kind place₂ columns) ++ (text_of columns ++ end sum)) now → Puts place (text_of (head kind place₂ columns)) now then next
      → Left next (text_of columns ++ end sum) then
  after-head w p = turn w p

  after-columns : {place next : ℕ} {now then : List ℕ} → Left place (text_of columns ++ end sum) now → Puts place (text_of columns) now then next → Left next (end sum) then
  after-columns w p = turn w p

  after-checksum : {place next : ℕ} {now then : List ℕ} → Left place (end sum) now → Puts place (text_of (sum ∷ [])) now then next → Left next (10 ∷ []) then
  after-checksum w p = turn w p

pub put_text-body-requires : goal.put_text-body-requires
put_text-body-requires c = let a = c.args in
    let x = c.checksum.result in
    let w = after-colon a.at a.kind a.address x a.columns.now a.out.now c.to_be_bytes.result c.requires c.to_be_bytes.ensures c.checksum.ensures c.put_byte-start.ensures in
    room_for (text_of (head a.kind c.to_be_bytes.result a.columns.now)) (text_of a.columns.now ++ end x) w

pub put_text-end-requires : goal.put_text-end-requires
put_text-end-requires c = let a = c.args in
    let x = c.checksum.result in
    let w = after-colon a.at a.kind a.address x a.columns.now a.out.now c.to_be_bytes.result c.requires c.to_be_bytes.ensures c.checksum.ensures c.put_byte-start.ensures in
    room_for (text_of a.columns.now) (end x) (after-head a.at a.kind a.address x a.columns.now a.out.now c.to_be_bytes.result w c.put_text-body.ensures)

pub put_text-over-requires : goal.put_text-over-requires
put_text-over-requires c = let a = c.args in
    let x = c.checksum.result in
    let w = after-colon a.at a.kind a.address x a.columns.now a.out.now c.to_be_bytes.result c.requires c.to_be_bytes.ensures c.checksum.ensures c.put_byte-start.ensures in
    let v = after-head a.at a.kind a.address x a.columns.now a.out.now c.to_be_bytes.result w c.put_text-body.ensures in
    room_for (text_of (x ∷ [])) (10 ∷ []) (after-columns a.at a.kind a.address x a.columns.now a.out.now c.to_be_bytes.result v c.put_text-end.ensures)

pub put_byte-requires : goal.put_byte-requires
put_byte-requires c = let a = c.args in
    let x = c.checksum.result in
    let w = after-colon a.at a.kind a.address x a.columns.now a.out.now c.to_be_bytes.result c.requires c.to_be_bytes.ensures c.checksum.ensures c.put_byte-start.ensures in
    let v = after-head a.at a.kind a.address x a.columns.now a.out.now c.to_be_bytes.result w c.put_text-body.ensures in
    let u = after-columns a.at a.kind a.address x a.columns.now a.out.now c.to_be_bytes.result v c.put_text-end.ensures in
    (after-checksum a.at a.kind a.address x a.columns.now a.out.now c.to_be_bytes.result u c.put_text-over.ensures).room

pub returns : goal.returns
returns c = let a = c.args in
    let x = c.checksum.result in
    let w = after-colon a.at a.kind a.address x a.columns.now a.out.now c.to_be_bytes.result c.requires c.to_be_bytes.ensures c.checksum.ensures c.put_byte-start.ensures in
    let v = after-head a.at a.kind a.address x a.columns.now a.out.now c.to_be_bytes.result w c.put_text-body.ensures in
    let u = after-columns a.at a.kind a.address x a.columns.now a.out.now c.to_be_bytes.result v c.put_text-end.ensures in
    last (after-checksum a.at a.kind a.address x a.columns.now a.out.now c.to_be_bytes.result u c.put_text-over.ensures) c.put_byte.ensures
