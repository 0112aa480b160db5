-- A writer's call, by what its checks answer: refused, no bytes at all, too short an output, or the transfer.
-- Assumes nothing.
use mathlib.Core.Path.{◌≡◌, refl, sym, ap, ◌∙◌}
use mathlib.Core.List.{List, [], ◌++◌}
use Prim.Native.Nat.{ℕ, ◌≤◌, ◌<◌}
use native.Mathlib.Omega.{arith}
use lib.ListN.{length, drop}
use borrow.Author.Tests.{le-leb, lt-leb}
use Rattle.std.specs.Prelude.{Err, Ok}
use Rattle.sheet.specs.Results.{Written, Check}
use Rattle.sheet.specs.declared.Refusal.{Refusal}
use Rattle.sheet.specs.declared.Refusal.TheVariants.{OutputLength}
use Rattle.sheet.specs.Checks.{or_else, check_part}
use Rattle.sheet.specs.Refusals.{written_numbers}
use Rattle.sheet.specs.Written.{check_room, WrittenAfter, written_by, written_part}
use Rattle.laws.proofs.First.{then-refused, then-passed}

-- a result with the output, and so its numbers
pub numbered : {a b : WrittenAfter} → a ≡ b → (a ≡ b) × (written_numbers a.result ≡ written_numbers b.result)
numbered e = (e, ap (λ (k : WrittenAfter). written_numbers k.result) e)

module _ (part : ℕ) (wants : Check) (transfer out : List ℕ) where
  pub refuses : (x : Refusal) → or_else (check_part part) wants ≡ Err x → record { result = Err x; out = out } ≡ written_part part wants transfer out
  refuses x e = ap (λ (k : Check). written_by k transfer out) (then-refused (check_part part) wants (check_room transfer (length out)) x e)

  by-room : (k : Check) → or_else (check_part part) wants ≡ Ok tt → check_room transfer (length out) ≡ k → written_by k transfer out ≡ written_part part wants transfer out
  by-room k e room = ap (λ (k : Check). written_by k transfer out) (then-passed (check_part part) wants (check_room transfer (length out)) k e (sym room))

  pub too_short : or_else (check_part part) wants ≡ Ok tt → length out < length transfer → record { result = Err OutputLength; out = out } ≡ written_part part wants transfer out
  too_short e l = by-room (Err OutputLength) e (rw (lt-leb (length transfer) (length out) l) refl)

  pub written : or_else (check_part part) wants ≡ Ok tt → length transfer ≤ length out
      → record { result = Ok (length transfer); out = transfer ++ drop (length transfer) out } ≡ written_part part wants transfer out
  written e l = by-room (Ok tt) e (rw (le-leb (length transfer) (length out) l) refl)

  pub none : or_else (check_part part) wants ≡ Ok tt → transfer ≡ [] → record { result = Ok 0; out = out } ≡ written_part part wants transfer out
  none e is =
      let empty : length transfer ≡ 0 = ap length is in
      ap (λ (l : List ℕ). record { result = Ok (length l); out = l ++ drop (length l) out }) (sym is) ∙ written e (omega arith)
