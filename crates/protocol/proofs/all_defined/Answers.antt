-- `protocol::all_defined` meets its contract: what is found and what is left give the whole.
-- Assumes nothing.
use mathlib.Core.Path.{◌≡◌, refl, sym, ap, ◌∙◌}
use mathlib.Core.Bool.{Bool, true, false, ◌&&◌}
use Prim.Native.Nat.{◌+◌}
use lib.ListN.{drop}
use Rattle.sheet.specs.Parts.{part_of}
use Rattle.protocol.specs.Left.{all_defined}
use Rattle.protocol.proofs.Commands.{all-next, all-of-none}
use Rattle.protocol.proofs.all_defined.Goals as goal

-- one more is looked at
regroup : (a b c : Bool) → ((a && b) && c) ≡ (a && (b && c))
regroup true b c = refl
regroup false b c = refl

pub loop-command-preserved : goal.loop-command-preserved
loop-command-preserved c = let a = c.args in
    let K = part_of a.part in
    let i = c.loop-command.command-index in
    ap (λ (t : Bool). (c.loop-command.found && t) && all_defined K (drop (i + 1) a.commands.now)) c.is_defined-found.ensures
    ∙ regroup c.loop-command.found _ _ ∙ ap (λ (t : Bool). c.loop-command.found && t) (sym (all-next K a.commands.now i c.loop-command-test.true)) ∙ c.loop-command.invariant

-- nothing is left
all_found : (t : Bool) → t ≡ (t && true)
all_found true = refl
all_found false = refl

pub returns : goal.returns
returns c = let a = c.args in
    all_found c.loop-command.found ∙ ap (λ (t : Bool). c.loop-command.found && t) (sym (all-of-none (part_of a.part) a.commands.now c.loop-command.command-index c.loop-command-test.false)) ∙ c.loop-command.invariant
