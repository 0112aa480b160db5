-- `writer::put_rows` meets its contract: the head, then the data.
-- Assumes nothing.
use mathlib.Core.Path.{◌≡◌, sym, ap, ap₂, ◌∙◌}
use mathlib.Core.List.{List, [], ◌∷◌, ◌++◌, append_assoc}
use Prim.Native.Nat.{ℕ, ◌+◌, ◌-◌, ◌≤◌, ◌*◌}
use native.Mathlib.Omega.{arith}
use lib.ListN.{length, take, drop, length-drop}
use lib.Seq.{length-take-le, drop_at}
use Rattle.lemmas.proofs.Lists.{part-rest, after_first}
use Rattle.sheet.specs.Parts.{part_of}
use Rattle.sheet.specs.Registers.{bank_row}
use Rattle.sheet.specs.Protocol.{address_of}
use Rattle.writer_sheet.specs.Writer.{each_after80, settings, set_to, bytes_for, data_from, data_of}
use Rattle.laws.proofs.Ranges.{rows_fit}
use Rattle.writer.proofs.Planes.{by_mode}
use Rattle.writer.proofs.put_rows.Goals as goal

-- the head fits, and is as long as its place
fits : (part n : ℕ) {head size : ℕ} → head ≡ 8 + 2 * length ((part_of part).pointer 0) → size ≡ 8 + 2 * length ((part_of part).pointer 0) + n → head ≤ size
fits part n e s = omega arith

-- what is left is as long as the data
left-long : (part n : ℕ) (out front : List ℕ) {head : ℕ} → head ≡ 8 + 2 * length ((part_of part).pointer 0) → length out ≡ 8 + 2 * length ((part_of part).pointer 0) + n → length front ≡ head →
    let l = front ++ drop head out in length (take (length l - head) (drop head l)) ≡ n
left-long part n out front {head} e s f =
    let l = front ++ drop head out in
    ap length (part-rest l head ∙ drop_at front (drop head out) head f)
    ∙ length-drop head out ∙ omega arith

pub gather-requires : goal.gather-requires
gather-requires c = let m = c.backplanes_of-m.ensures in
    let planes = rows_fit (set_to c.args.mode 0 c.args.registers) 0 c.requires.0.mode-in (omega arith) in
    record {
      some = rw m planes.0;
      four = rw m (omega (arith, planes.1));
      two = c.requires.0.bank-in;
      all = left-long c.args.part _ c.args.out.now c.put_head.new.out c.head_size-head.ensures c.requires.1.size (c.put_head.auto.out ∙ length-take-le c.head_size-head.result c.args.out.now (fits c.args.part _ c.head_size-head.ensures c.requires.1.size)) ∙ ap (λ (k : ℕ). bytes_for k (length c.args.wanted.now)) (sym m);
      sixteen = c.requires.1.sixteen;
      near = c.requires.1.near;
    }

pub returns : goal.returns
returns c = let a = c.args in
    let m = c.backplanes_of-m.ensures ∙ by_mode a.mode a.bank a.registers in
    let wanted = a.wanted.now in
    after_first c.put_head.new.out (drop c.head_size-head.result a.out.now) c.gather.new.out c.head_size-head.result (c.put_head.auto.out ∙ length-take-le c.head_size-head.result c.args.out.now (fits c.args.part _ c.head_size-head.ensures c.requires.1.size))
    ∙ ap₂ (λ (x y : List ℕ). x ++ y) c.put_head.ensures
    (c.gather.ensures ∙ ap₂ (λ (n k : ℕ). data_from n k (bank_row k a.bank) wanted) (left-long c.args.part _ c.args.out.now c.put_head.new.out c.head_size-head.ensures c.requires.1.size (c.put_head.auto.out ∙ length-take-le c.head_size-head.result c.args.out.now (fits c.args.part _ c.head_size-head.ensures c.requires.1.size)) ∙ ap (λ (k : ℕ). bytes_for k (length wanted)) (by_mode a.mode a.bank a.registers)) m)
    ∙ append_assoc (address_of a.group ∷ each_after80 (settings (part_of a.part) a.registers a.mode a.bank)) (0x40 ∷ []) (data_of (set_to a.mode a.bank a.registers) wanted)

pub slice_bounds-put_head-end-2 : goal.slice_bounds-put_head-end-2
slice_bounds-put_head-end-2 c = sym (length-take-le _ c.args.out.now (fits c.args.part _ c.head_size-head.ensures c.requires.1.size))

pub put_head-requires : goal.put_head-requires
put_head-requires c = (c.requires.0, length-take-le _ c.args.out.now (fits c.args.part _ c.head_size-head.ensures c.requires.1.size) ∙ c.head_size-head.ensures)
