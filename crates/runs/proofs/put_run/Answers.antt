-- `runs::put_run` meets its contract: the bytes that fit, the cut byte, and nothing of the rest.
-- Assumes nothing.
use mathlib.Core.Path.{◌≡◌, sym, ap, ap₂, ◌∙◌}
use mathlib.Core.Bool.{Bool, cond}
use mathlib.Core.List.{List}
use Prim.Native.Nat.{ℕ, ◌+◌, ◌-◌, ◌*◌, ◌/◌, ◌≤◌, min}
use native.Mathlib.Omega.{arith}
use lib.ListN.{length, take}
use lib.Seq.{length-take-le}
use Rattle.lemmas.proofs.Lists.{part-rest}
use Rattle.sheet.specs.Registers.{bank_row}
use Rattle.sheet.specs.Data.{width_of}
use Rattle.sheet.specs.Runs.{put_run}
use Rattle.packed_sheet.specs.Packed.{columns_in}
use Rattle.laws.proofs.Runs.{length_run}
use Rattle.laws.proofs.Packed.{columns-held, bytes-few}
use Rattle.runs.proofs.Split.{near, fit, edge, some_left, joined}
use Rattle.runs.proofs.put_run.Goals as goal

-- the bytes that fit into the columns left
whole_is : (packed : Bool) (ram : List ℕ) (n v m : ℕ) {w size left whole : ℕ} → w ≡ width_of m → size ≡ cond packed (2 * length ram) (length ram) → left ≡ size - v → whole ≡ min n (left / w)
    → whole ≡ min n ((length (columns_in packed ram) - v) / width_of m)
whole_is packed ram n v m ew es el e =
    e ∙ ap₂ (λ (left w : ℕ). min n (left / w)) (el ∙ ap (λ (size : ℕ). size - v) (es ∙ sym (columns-held packed ram))) ew

pub columns_held-requires : goal.columns_held-requires
columns_held-requires c = omega (arith, bytes-few c.args.packed c.args.ram.now, c.requires.few)

pub slice_bounds-whole_bytes-end : goal.slice_bounds-whole_bytes-end
slice_bounds-whole_bytes-end c = sym (length-take-le c.least-whole.result c.args.bytes.now (omega (arith, whole_is c.args.packed c.args.ram.now (length c.args.bytes.now) c.args.v c.args.m c.width-w.ensures c.columns_held.ensures c.columns_from-left.ensures c.least-whole.ensures)))

pub whole_bytes-requires : goal.whole_bytes-requires
whole_bytes-requires c = let a = c.args in
    let e : length (take c.least-whole.result a.bytes.now) ≡ c.least-whole.result = length-take-le c.least-whole.result a.bytes.now (omega (arith, whole_is c.args.packed c.args.ram.now (length c.args.bytes.now) c.args.v c.args.m c.width-w.ensures c.columns_held.ensures c.columns_from-left.ensures c.least-whole.ensures)) in (
      record { some = c.requires.some; four = c.requires.four; two = c.requires.two; fit = rw e (fit a.m (length a.bytes.now) (length (columns_in a.packed a.ram.now) - a.v) c.least-whole.result (whole_is c.args.packed c.args.ram.now (length c.args.bytes.now) c.args.v c.args.m c.width-w.ensures c.columns_held.ensures c.columns_from-left.ensures c.least-whole.ensures)); nibbles = c.requires.nibbles },
      omega (arith, bytes-few a.packed a.ram.now, c.requires.few),
    )

-- a whole byte's columns are few
near-is : (m n left : ℕ) {w whole : ℕ} → w ≡ width_of m → whole ≡ min n left → w * whole ≤ 8 * n
near-is m n left {whole = whole} ew e = rw ew (omega (arith, near m whole, e))

pub overflow_mul-w : goal.overflow_mul-w
overflow_mul-w c = omega (arith, near-is c.args.m (length c.args.bytes.now) _ c.width-w.ensures c.least-whole.ensures, c.requires.short)

pub overflow_add-v : goal.overflow_add-v
overflow_add-v c = let pre = c.requires in
    omega (arith, near-is c.args.m (length c.args.bytes.now) _ c.width-w.ensures c.least-whole.ensures, pre.short, pre.near)

pub cut_byte-requires : goal.cut_byte-requires
cut_byte-requires c = let a = c.args in
    let b = bank_row a.m a.bank in
    let long = ap length c.whole_bytes.ensures ∙ length_run a.m b a.v (take c.least-whole.result a.bytes.now) (columns_in a.packed a.ram.now) in
    record {
      some = c.requires.some;
      four = c.requires.four;
      two = c.requires.two;
      near = omega (arith, near-is c.args.m (length c.args.bytes.now) _ c.width-w.ensures c.least-whole.ensures, c.requires.short, c.requires.near);
      edge = λ h. rw (long, c.width-w.ensures) (edge a.m (length a.bytes.now) a.v (length (columns_in a.packed a.ram.now)) c.least-whole.result (whole_is c.args.packed c.args.ram.now (length c.args.bytes.now) c.args.v c.args.m c.width-w.ensures c.columns_held.ensures c.columns_from-left.ensures c.least-whole.ensures) (some_left (length a.bytes.now - c.least-whole.result) c.least-whole.result a.bytes.now h));
    }

pub returns : goal.returns
returns c = let a = c.args in
    let bytes = a.bytes.now in
    let b = bank_row a.m a.bank in
    let first = columns_in a.packed c.whole_bytes.new.ram in
    c.cut_byte.ensures
    ∙ ap₂ (λ (k : ℕ) (xs : List ℕ). put_run a.m b (a.v + k * c.least-whole.result) xs first) c.width-w.ensures (part-rest bytes c.least-whole.result)
    ∙ joined a.m b a.v c.least-whole.result bytes (columns_in a.packed a.ram.now) first (omega (arith, whole_is c.args.packed c.args.ram.now (length c.args.bytes.now) c.args.v c.args.m c.width-w.ensures c.columns_held.ensures c.columns_from-left.ensures c.least-whole.ensures)) c.whole_bytes.ensures
