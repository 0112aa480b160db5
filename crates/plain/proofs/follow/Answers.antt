-- follow: each turn is a stretch of bytes that all chips answer alike.
-- Assumes nothing.
use mathlib.Core.Path.{◌≡◌, refl, ap, ◌∙◌}
use mathlib.Core.List.{List, map}
use Prim.Native.Nat.{ℕ, ◌+◌, ◌<◌, ◌≤◌}
use native.Mathlib.Omega.{arith}
use lib.ListN.{length}
use Rattle.sheet.specs.declared.Chip.{Chip}
use Rattle.turns.specs.declared.Turn.{Turn}
use Rattle.turns.specs.declared.Said.{Said}
use Rattle.turns.specs.Asking.{said_by}
use Rattle.turns.specs.Turns.{turn_past, most_in, taken_by}
use Rattle.turns.proofs.Following.{Following, ended}
use Rattle.turns.proofs.Stretches.{stretch}
use Rattle.plain.proofs.follow.Goals as goal

-- what is said in a turn: its stretch ends within the bytes, is not empty, and after it the transfer has come to the next
record Turned (cs₀ : List Chip) (bytes : List ℕ) (t₀ t : Turn) (cs : List Chip) (answer : Said) : Type 0 where
  inside : t.at + answer.count ≤ length bytes
  some : 0 < answer.count
  after : Following cs₀ bytes t₀ (turn_past bytes t answer) (map (taken_by bytes t answer.count) cs)

turned : (cs₀ : List Chip) (bytes : List ℕ) (t₀ t : Turn) (cs : List Chip) (most : ℕ) (answer : Said) → Following cs₀ bytes t₀ t cs → t.at < length bytes
    → most ≡ most_in bytes t → answer ≡ said_by t.heard most cs → Turned cs₀ bytes t₀ t cs answer
turned cs₀ bytes t₀ t cs most answer s l em ea =
    let h = stretch cs₀ bytes t₀ t cs s l in
    rw (ea ∙ ap (λ (m : ℕ). said_by t.heard m cs) em) (record { inside = h.inside; some = h.some; after = h.after })

pub loop-turn-init : goal.loop-turn-init
loop-turn-init c = record { ready = c.requires; same = refl; left = refl }

pub take_all-requires : goal.take_all-requires
take_all-requires c = (turned c.args.chips.now c.args.bytes.now c.args.start c.loop-turn.turn c.loop-turn.chips _ _ c.loop-turn.invariant c.loop-turn-test.true c.most_in-most.ensures c.ask_all-said.ensures).inside

pub next-turn-requires : goal.next-turn-requires
next-turn-requires c =
    ((turned c.args.chips.now c.args.bytes.now c.args.start c.loop-turn.turn c.loop-turn.chips _ _ c.loop-turn.invariant c.loop-turn-test.true c.most_in-most.ensures c.ask_all-said.ensures).inside, c.loop-turn.invariant.ready.counted)

pub loop-turn-smaller : goal.loop-turn-smaller
loop-turn-smaller c =
    let h = turned c.args.chips.now c.args.bytes.now c.args.start c.loop-turn.turn c.loop-turn.chips _ _ c.loop-turn.invariant c.loop-turn-test.true c.most_in-most.ensures c.ask_all-said.ensures in
    let e : c.next-turn.result.at ≡ c.loop-turn.turn.at + c.ask_all-said.result.count = ap (λ (t : Turn). t.at) c.next-turn.ensures in
    omega (arith, h.some, e)

pub loop-turn-preserved : goal.loop-turn-preserved
loop-turn-preserved c =
    let h = turned c.args.chips.now c.args.bytes.now c.args.start c.loop-turn.turn c.loop-turn.chips _ _ c.loop-turn.invariant c.loop-turn-test.true c.most_in-most.ensures c.ask_all-said.ensures in
    rw (c.next-turn.ensures, c.take_all.ensures) h.after

pub returns : goal.returns
returns c =
    let e = ended c.args.chips.now c.args.bytes.now c.args.start c.loop-turn.turn c.loop-turn.chips c.loop-turn.invariant c.loop-turn-test.false in
    record { value = e.0; chips_after = e.1 }
