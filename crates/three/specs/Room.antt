-- What the functions that write the bytes of even columns may rely on, once the checks have passed.
use Rattle.std.specs.Prelude.{ℕ, ◌+◌, ◌*◌, ◌/◌, ◌%◌, ◌≤◌, ◌<◌, ◌≡◌, List, length}
use Rattle.sheet.specs.Parts.{Part}

-- column p of the chip whose first column is c, and an output as long as a data byte with its commands
pub record Byte (K : Part) (c p : ℕ) (out : List ℕ) : Type 0 where
  pub first : c % K.columns ≡ 0
  pub inside : p < K.columns
  pub few : c < 640
  pub room : length out ≡ 4 + 2 * length (K.pointer 0)

-- eight columns from p on of the chip whose first column is c, and an output as long as their bytes
pub record Four (K : Part) (c p : ℕ) (wanted out : List ℕ) : Type 0 where
  pub first : c % K.columns ≡ 0
  pub inside : p + 8 ≤ K.columns
  pub there : c + K.columns ≤ length wanted
  pub few : length wanted ≤ 640
  pub room : length out ≡ (4 + 2 * length (K.pointer 0)) * 4

-- a chip's columns from c on, and an output as long as their bytes
pub record Chip (K : Part) (c : ℕ) (wanted out : List ℕ) : Type 0 where
  pub first : c % K.columns ≡ 0
  pub there : c + K.columns ≤ length wanted
  pub few : length wanted ≤ 640
  pub room : length out ≡ (4 + 2 * length (K.pointer 0)) * (K.columns / 2)

-- the columns of a group's chips, and an output as long as their bytes
pub record Pairs (K : Part) (wanted out : List ℕ) : Type 0 where
  pub there : length wanted ≤ K.columns * K.limit
  pub chips : length wanted % K.columns ≡ 0
  pub room : length out ≡ (4 + 2 * length (K.pointer 0)) * (length wanted / 2)

-- and as the transfer
pub record Three (K : Part) (wanted out : List ℕ) : Type 0 where
  pub there : length wanted ≤ K.columns * K.limit
  pub chips : length wanted % K.columns ≡ 0
  pub room : length out ≡ 3 + (4 + 2 * length (K.pointer 0)) * (length wanted / 2)
