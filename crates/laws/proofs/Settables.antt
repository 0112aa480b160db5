-- Both parts' commands set what a writer sends: mode, bank, device and pointer.
-- Assumes nothing.
use mathlib.Core.Path.{◌≡◌, refl, sym, ap, ap₂, ◌∙◌}
use mathlib.Core.Bool.{true}
use mathlib.Core.List.{List}
use Prim.Native.Nat.{ℕ, ◌+◌, ◌-◌, ◌*◌, ◌/◌, ◌%◌, ◌<◌}
use native.Mathlib.Omega.{arith}
use Rattle.sheet.specs.declared.Command.TheVariants.{PointerHigh, PointerLow, Pointer, ModeSet, DeviceSelect, BankSelect}
use Rattle.sheet.specs.Parts.{within, Range, command_in, pcf8532_ranges, pcf8532, pca85133_ranges, pca85133, part_of}
use Rattle.sheet.specs.Registers.{at_place, with_marks}
use Rattle.writer_sheet.specs.Puts.{Settable}
use Rattle.laws.proofs.Stretches.{whole, told, stretch}
use Rattle.laws.proofs.Named.{of-both}

-- a table with the mode-set of both sheets, and one with their bank-select
mode-in : (ts : List Range) → whole ts 0xC0 0xCF ≡ true → ((x : ℕ) → told ts 0xC0 x ≡ ModeSet (record { e = x / 8 % 2; b = x / 4 % 2; m = x % 4 }))
    → (e b m : ℕ) → e < 2 → b < 2 → m < 4 → command_in ts (0xC0 + 8 * e + 4 * b + m) ≡ ModeSet (record { e = e; b = b; m = m })
mode-in ts w is e b m le lb lm =
    let x : ℕ = 0xC0 + 8 * e + 4 * b + m in
    let ee : x / 8 % 2 ≡ e = omega arith in
    let eb : x / 4 % 2 ≡ b = omega arith in
    let em : x % 4 ≡ m = omega arith in
    sym (stretch ts 0xC0 0xCF x (omega arith) (omega arith) w) ∙ is x ∙ (λ i. ModeSet (record { e = ee i; b = eb i; m = em i }))

bank-in : (ts : List Range) → whole ts 0xF8 0xFB ≡ true → ((x : ℕ) → told ts 0xF8 x ≡ BankSelect (x / 2 % 2) (x % 2))
    → (i o : ℕ) → i < 2 → o < 2 → command_in ts (0xF8 + 2 * i + o) ≡ BankSelect i o
bank-in ts w is i o li lo =
    let x : ℕ = 0xF8 + 2 * i + o in
    sym (stretch ts 0xF8 0xFB x (omega arith) (omega arith) w) ∙ is x ∙ ap₂ BankSelect (omega arith) (omega arith)

device-in : (ts : List Range) (limit : ℕ) → whole ts 0xE0 (0xDF + limit) ≡ true → ((x : ℕ) → told ts 0xE0 x ≡ DeviceSelect (x % limit)) → ((n : ℕ) → n < limit → (0xE0 + n) % limit ≡ n)
    → (n : ℕ) → n < limit → command_in ts (0xE0 + n) ≡ DeviceSelect n
device-in ts limit w is rest n h = sym (stretch ts 0xE0 (0xDF + limit) (0xE0 + n) (omega arith) (omega arith) w) ∙ is (0xE0 + n) ∙ ap DeviceSelect (rest n h)

-- ---- the PCF8532: pointer high ends at 09, so that 16 × 9 + 15 is its last column

high : (p : ℕ) → p < 160 → pcf8532.command (p / 16) ≡ PointerHigh (p / 16)
unfolding within
high p h = sym (stretch pcf8532_ranges 0 9 (p / 16) (omega arith) (omega arith) refl) ∙ ap PointerHigh (omega arith)

low : (p : ℕ) → pcf8532.command (0x40 + p % 16) ≡ PointerLow (p % 16)
unfolding within
low p = sym (stretch pcf8532_ranges 0x40 0x4F (0x40 + p % 16) (omega arith) (omega arith) refl) ∙ ap PointerLow (omega arith)

larger : Settable pcf8532
unfolding within command_in
larger = record {
  mode-set = mode-in pcf8532_ranges refl (λ x. refl);
  bank-select = bank-in pcf8532_ranges refl (λ x. refl);
  device-select = device-in pcf8532_ranges 4 refl (λ x. refl) (λ n h. omega arith);
  pointer = λ p h r. rw (high p h, low p) (ap (λ (n : ℕ). with_marks (at_place r n r.a) (record { high = 0; low = 0; device = r.unknown.device })) (omega arith));
  defined = λ p h. rw (high p h, low p);
  columns = omega arith;
}

-- ---- the PCA85133: one pointer command, its byte the column

at : (p : ℕ) → p < 80 → pca85133.command p ≡ Pointer p
unfolding within
at p h = sym (stretch pca85133_ranges 0 0x4F p (omega arith) (omega arith) refl)

smaller : Settable pca85133
unfolding within command_in
smaller = record {
  mode-set = mode-in pca85133_ranges refl (λ x. refl);
  bank-select = bank-in pca85133_ranges refl (λ x. refl);
  device-select = device-in pca85133_ranges 8 refl (λ x. refl) (λ n h. omega arith);
  pointer = λ p h r. rw (at p h);
  defined = λ p h. rw (at p h);
  columns = omega arith;
}

pub part_settable : (part : ℕ) → Settable (part_of part)
part_settable part = of-both Settable part larger smaller
