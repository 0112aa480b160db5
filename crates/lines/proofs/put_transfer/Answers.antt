-- `lines::put_transfer` meets its contract: one line of six numbers.
-- Assumes nothing.
use mathlib.Core.Path.{◌≡◌, refl, sym, subst}
use mathlib.Core.List.{List, [], ◌∷◌}
use Prim.Native.Nat.{ℕ, ◌+◌, ◌≤◌}
use native.Mathlib.Omega.{arith}
use lib.ListN.{length, get_or}
use Rattle.log_sheet.specs.Logs.{transfer_letter, line}
use Rattle.text.specs.Texts.{Puts}
use borrow.Author.Rules.{rules}
use Rattle.lines.proofs.put_transfer.Goals as goal

abbrev first_six : List ℕ → List ℕ
first_six ns = get_or ns 0 0 ∷ get_or ns 1 0 ∷ get_or ns 2 0 ∷ get_or ns 3 0 ∷ get_or ns 4 0 ∷ get_or ns 5 0 ∷ []

six : (ns : List ℕ) → length ns ≡ 6 → first_six ns ≡ ns
six (a ∷ (b ∷ (c ∷ (d ∷ (e ∷ (f ∷ [])))))) h = refl
six [] h = absurd (omega arith)
six (a ∷ []) h = absurd (omega arith)
six (a ∷ (b ∷ [])) h = absurd (omega arith)
six (a ∷ (b ∷ (c ∷ []))) h = absurd (omega arith)
six (a ∷ (b ∷ (c ∷ (d ∷ [])))) h = absurd (omega arith)
six (a ∷ (b ∷ (c ∷ (d ∷ (e ∷ []))))) h = absurd (omega arith)
six (a ∷ (b ∷ (c ∷ (d ∷ (e ∷ (f ∷ (g ∷ gs))))))) h = absurd (omega arith)

pub put_line-requires : goal.put_line-requires
put_line-requires c = subst (λ (ns : List ℕ). c.args.at + length (line transfer_letter (c.args.index ∷ ns)) ≤ length c.args.out.now) (sym (six c.args.said (search rules))) c.requires

pub returns : goal.returns
returns c = subst (λ (ns : List ℕ). Puts c.args.at (line transfer_letter (c.args.index ∷ ns)) c.args.out.now c.put_line.new.out c.put_line.result) (six c.args.said (search rules)) c.put_line.ensures
