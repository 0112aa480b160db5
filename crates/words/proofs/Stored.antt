-- The bytes of a number copied into a part of a buffer are its columns, stored one after the other.
-- Assumes nothing.
use mathlib.Core.Path.{◌≡◌, refl, sym, ap₂, ◌∙◌}
use mathlib.Core.List.{List}
use Prim.Native.Nat.{ℕ, zero, suc, ◌+◌, ◌-◌, ◌≤◌, ◌<◌}
use native.Mathlib.Nat.{div-one}
use native.Mathlib.Omega.{arith}
use lib.ListN.{length, get_or, set, take}
use lib.Seq.{paste, paste-zero, paste-suc}
use mir.Syntax.{w32}
use borrow.Rule.Slice.PartMut.{put_mid}
use Rattle.std.specs.Int.{to_le_bytes}
use Rattle.std.proofs.lemmas.Slice.{put_mid-paste}
use Rattle.words.specs.Fields.{column_of, laid}

pasted : (n w at : ℕ) (ram bytes : List ℕ) → at + n ≤ length ram → n ≤ length bytes → ((j : ℕ) → j < n → get_or bytes j 0 ≡ column_of w j)
    → paste ram at bytes n ≡ laid n w at ram
unfolding laid
pasted zero w at ram bytes room size e = sym (paste-zero ram at bytes)
pasted (suc n) w at ram bytes room size e =
    sym (paste-suc ram at bytes n 0 (omega arith) (omega arith))
    ∙ ap₂ (λ (l : List ℕ) (q : ℕ). set l (at + n) q) (pasted n w at ram bytes (omega arith) (omega arith) (λ j h. e j (omega arith))) (e n (omega arith))

-- as many of its bytes as it has columns
byte-column : (w j : ℕ) → j < 4 → get_or (to_le_bytes w32 w) j 0 ≡ column_of w j
unfolding column_of
byte-column w zero h = rw (div-one w) refl
byte-column w (suc zero) h = refl
byte-column w (suc (suc zero)) h = refl
byte-column w (suc (suc (suc zero))) h = refl
byte-column w (suc (suc (suc (suc j)))) h = absurd (omega (arith, h))

first-two : (w j : ℕ) → j < 2 → get_or (take 2 (to_le_bytes w32 w)) j 0 ≡ column_of w j
first-two w zero h = byte-column w 0 (omega arith)
first-two w (suc zero) h = byte-column w 1 (omega arith)
first-two w (suc (suc j)) h = absurd (omega (arith, h))

pub stored-four : (w at : ℕ) (ram bytes : List ℕ) → at + 4 ≤ length ram → bytes ≡ to_le_bytes w32 w → put_mid at (at + 4 - at) ram bytes ≡ laid 4 w at ram
stored-four w at ram bytes room e =
    put_mid-paste at (at + 4 - at) ram bytes (to_le_bytes w32 w) 4 e (omega arith) refl ∙ pasted 4 w at ram (to_le_bytes w32 w) room (omega arith) (byte-column w)

pub stored-two : (w at : ℕ) (ram bytes : List ℕ) → at + 2 ≤ length ram → bytes ≡ take 2 (to_le_bytes w32 w) → put_mid at (at + 2 - at) ram bytes ≡ laid 2 w at ram
stored-two w at ram bytes room e =
    put_mid-paste at (at + 2 - at) ram bytes (take 2 (to_le_bytes w32 w)) 2 e (omega arith) refl ∙ pasted 2 w at ram (take 2 (to_le_bytes w32 w)) room (omega arith) (first-two w)
