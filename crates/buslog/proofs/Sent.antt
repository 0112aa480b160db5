-- A transfer sent over lent registers, from a state that no call refuses: it is the transfer of the registers, and leaves such a state.
-- Assumes nothing.
use mathlib.Core.Path.{◌≡◌, ap, ◌∙◌}
use mathlib.Core.List.{List}
use Prim.Native.Nat.{ℕ}
use native.Mathlib.Omega.{arith}
use lib.ListN.{length}
use Rattle.sheet.specs.declared.Chips.{Chips}
use Rattle.std.specs.Prelude.{Ok}
use Rattle.sheet.specs.Parts.{pcf8532}
use Rattle.sheet.specs.Protocol.{heard_by, Sent, address_byte}
use Rattle.sheet.specs.Checks.{or_else, check_sent, check_bytes, check_state, check_transfer}
use Rattle.sheet.specs.Long.{After, State, state_of, answered, taken, transfer_call}
use Rattle.laws.proofs.Fits.{fits-of}
use Rattle.laws.proofs.Kept.{pcf8532-keeps}
use Rattle.agreement.proofs.Demand.{demand3}
use Rattle.wire.specs.Bytes.{both_of, both_bytes}
use Rattle.wire.proofs.Given.{both_forth}
use Rattle.lent_long.specs.LongCalls.{LentAfter, Sendable, sent_c}

module _ {n : Chips} {l ram : List ℕ} {after : LentAfter} (t : Sent) (s : Sendable pcf8532 n l ram) (e : after ≡ sent_c pcf8532 n l ram t) where
  -- of a state that passes only the transfer is left to check
  abbrev call : After
  call = transfer_call pcf8532 n (both_of l) ram t

  left_to_check : answered (or_else (check_sent t) (check_bytes pcf8532 (both_of l) (heard_by n (address_byte t)) t)) (both_of l) ram (taken pcf8532 n (both_of l) ram t (heard_by n (address_byte t))) ≡ call
  unfolding transfer_call check_transfer
  left_to_check = rw s.state

  -- it passes after the transfer too
  passes : check_state pcf8532 n call.result.registers call.ram ≡ Ok tt
  passes = ((demand3 pcf8532 (omega arith) pcf8532-keeps).transfer n (state_of (both_of l) ram) t s.state).valid

  -- so the bytes hold the registers
  registers-held : both_of after.registers ≡ call.result.registers
  registers-held =
      let f = fits-of pcf8532 n call.result.registers call.ram passes in
      ap both_of (λ j. (e j).registers) ∙ ap (λ (a : After). both_of (both_bytes a.result.registers)) left_to_check
      ∙ both_forth call.result.registers
      (omega (arith, f.zero_in.p-in), omega (arith, f.zero_in.a_in))
      (omega (arith, f.one_in.p-in), omega (arith, f.one_in.a_in))

  ram-held : after.ram ≡ call.ram
  ram-held = (λ j. (e j).ram) ∙ ap (λ (a : After). a.ram) left_to_check

  pub told : ◌≡◌ {A = After} (record { result = record { answer = after.answer; registers = both_of after.registers }; ram = after.ram }) call
  told = let answer = (λ j. (e j).answer) ∙ ap (λ (a : After). a.result.answer) left_to_check in
      λ j. record { result = record { answer = answer j; registers = registers-held j }; ram = ram-held j }

  pub again : Sendable pcf8532 n after.registers after.ram
  again = record {
    size = ap length (λ j. (e j).registers);
    state = ap (λ (u : State). check_state pcf8532 n u.registers u.ram) (λ j. state_of (registers-held j) (ram-held j)) ∙ passes;
  }
