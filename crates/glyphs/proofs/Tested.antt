-- The bytes that the tables give are those of the paper's letters, and the entries those of the bytes: computed tests, every symbol in every mode, and every byte.
-- Assumes nothing.
use mathlib.Core.Path.{◌≡◌, sym, ap, subst, ◌∙◌}
use mathlib.Core.Bool.{Bool, true, ◌&&◌}
use Prim.Native.Nat.{ℕ, ◌<◌}
use mathlib.Core.List.{List}
use lib.Dec.{T, eqb, eqb→eq, leb, leb→le}
use lib.ListN.{get_or}
use borrow.Author.Tests.{ltb-true}
use Rattle.lemmas.proofs.Tests.{all, all-at, and_left, and_right}
use Rattle.price_sheet.specs.declared.Symbol.{Symbol}
use Rattle.price_sheet.specs.declared.Symbol.TheVariants.{Digit, Pointed, Space, Minus, LongMinus}
use Rattle.price_sheet.specs.Price.{is_symbol, segments_of, byte_of, shown}
use Rattle.glyphs.specs.Tables.{order_of, pushed, arranged, bytes_in, byte_in, byte_by, slot_of, Slot, Picked, code_in, code_of, Entry}

abbrev same : ℕ → Symbol → Bool
same mode s = eqb (byte_by (bytes_in (order_of mode)) s) (byte_of mode s)

abbrev digits : ℕ → Bool
digits mode = all 10 (λ n. same mode (Digit n) && same mode (Pointed n))

abbrev others : ℕ → Bool
others mode = same mode Space && (same mode Minus && same mode LongMinus)

tested : (mode : ℕ) → mode < 4 → T (digits mode && others mode)
unfolding pushed arranged byte_in byte_by byte_of segments_of
tested mode h = all-at 4 (λ m. digits m && others m) tt mode h

module _ (mode : ℕ) (h : mode < 4) where
  digit : (n : ℕ) → n < 10 → T (same mode (Digit n) && same mode (Pointed n))
  digit n l = all-at 10 (λ k. same mode (Digit k) && same mode (Pointed k)) (and_left (digits mode) (others mode) (tested mode h)) n l

  other : T (others mode)
  other = and_right (digits mode) (others mode) (tested mode h)

  test : (s : Symbol) → is_symbol s ≡ true → T (same mode s)
  test (Digit n) e = and_left (same mode (Digit n)) (same mode (Pointed n)) (digit n (ltb-true n 10 e))
  test (Pointed n) e = and_right (same mode (Digit n)) (same mode (Pointed n)) (digit n (ltb-true n 10 e))
  test Space e = and_left (same mode Space) (same mode Minus && same mode LongMinus) other
  test Minus e = and_left (same mode Minus) (same mode LongMinus) (and_right (same mode Space) (same mode Minus && same mode LongMinus) other)
  test LongMinus e = and_right (same mode Minus) (same mode LongMinus) (and_right (same mode Space) (same mode Minus && same mode LongMinus) other)

  pub byte-is : (s : Symbol) → is_symbol s ≡ true → byte_by (bytes_in (order_of mode)) s ≡ byte_of mode s
  byte-is s e = eqb→eq (byte_by (bytes_in (order_of mode)) s) (byte_of mode s) (test s e)

-- ---- and back

-- a byte's entry among those of a mode
abbrev told : List ℕ → ℕ → ℕ → ℕ → Bool
told entries factor mode x = let entry = get_or entries (slot_of x factor) 0 in eqb (code_in entry x) (code_of (shown mode x)) && leb 256 entry

abbrev pub Told : List ℕ → ℕ → ℕ → Type 0
Told entries factor mode = T (all 256 (told entries factor mode))

pub entry_is : {entries : List ℕ} {factor slot entry x : ℕ} (mode : ℕ) → Slot x factor slot → Picked entries slot entry → Told entries factor mode → x < 256 → Entry mode x entry
entry_is {entries} {factor} {x = x} mode s p t h =
    let found = get_or entries (slot_of x factor) 0 in
    let both = all-at 256 (told entries factor mode) t x h in
    subst (Entry mode x) (sym (p.is ∙ ap (λ (k : ℕ). get_or entries k 0) s.is))
    (record {
      code = eqb→eq (code_in found x) (code_of (shown mode x)) (and_left (eqb (code_in found x) (code_of (shown mode x))) (leb 256 found) both);
      some = leb→le 256 found (and_right (eqb (code_in found x) (code_of (shown mode x))) (leb 256 found) both);
    })
