-- The rescue of torn logs (paper 02, request 11), computed: the worked log whole and cut, both versions, and each refusal.
use Rattle.std.specs.Prelude.{ℕ, Bool, true, ◌&&◌, List, [], ◌∷◌, ◌++◌, T, take, replicate}
use Rattle.sheet.specs.Refusals.{rescued_numbers}
use Rattle.sheet.specs.Checks.{check_chips}
use Rattle.log_sheet.specs.Records.{read_in, records_from}
use Rattle.log_sheet.specs.Logs.{check_head}
use Rattle.log_sheet.specs.Rescue.{check_rescue, rescue_call}
use Rattle.sheet.specs.Starred.{same}
use Rattle.log_sheet.specs.Worked.{worked_log, seen_log}

-- a log, the bytes of the output, all 99; the answer's numbers, and what the output holds then
pub record Torn : Type 0 where
  pub log : List ℕ
  pub size : ℕ
  pub numbers : List ℕ
  pub out : List ℕ

abbrev torn : List ℕ → ℕ → List ℕ → List ℕ → Torn
torn log size numbers out = record { log = log; size = size; numbers = numbers; out = out }

-- an output that is not touched
abbrev stays : ℕ → List ℕ
stays n = replicate n 99

abbrev pub every : List Torn → Bool
every [] = true
every (t ∷ ts) = let a = rescue_call t.log (stays t.size) in same (rescued_numbers a.result) t.numbers && (same a.out t.out && every ts)

abbrev pub table : List Torn
table =
    -- sound, into an output as long and one that is longer; a head alone
    torn worked_log 22 (0 ∷ 0 ∷ 3 ∷ 22 ∷ 0 ∷ 22 ∷ []) worked_log ∷ torn seen_log 30 (0 ∷ 0 ∷ 3 ∷ 28 ∷ 0 ∷ 28 ∷ []) (seen_log ++ stays 2)
    ∷ torn (1 ∷ 4 ∷ 4 ∷ []) 3 (0 ∷ 0 ∷ 0 ∷ 3 ∷ 0 ∷ 3 ∷ []) (1 ∷ 4 ∷ 4 ∷ [])
    -- cut in a body, before it, in a length field
    ∷ torn (take 21 worked_log) 21 (0 ∷ 0 ∷ 2 ∷ 19 ∷ 2 ∷ 19 ∷ []) (take 19 worked_log ++ stays 2) ∷ torn (take 16 worked_log) 16 (0 ∷ 0 ∷ 1 ∷ 14 ∷ 2 ∷ 14 ∷ []) (take 14 worked_log ++ stays 2)
    ∷ torn (take 4 worked_log) 9 (0 ∷ 0 ∷ 0 ∷ 3 ∷ 1 ∷ 3 ∷ []) (take 3 worked_log ++ stays 6)
    -- an empty record is whole in version 1, and a tear in version 2, as one of a byte is, whatever stands behind it
    ∷ torn (1 ∷ 0 ∷ 0 ∷ 0 ∷ 0 ∷ []) 5 (0 ∷ 0 ∷ 1 ∷ 5 ∷ 0 ∷ 5 ∷ []) (1 ∷ 0 ∷ 0 ∷ 0 ∷ 0 ∷ []) ∷ torn (2 ∷ 0 ∷ 0 ∷ 0 ∷ 0 ∷ []) 5 (0 ∷ 0 ∷ 0 ∷ 3 ∷ 2 ∷ 3 ∷ []) (2 ∷ 0 ∷ 0 ∷ 99 ∷ 99 ∷ [])
    ∷ torn (2 ∷ 0 ∷ 0 ∷ 0 ∷ 2 ∷ 0 ∷ 0 ∷ 0 ∷ 1 ∷ 7 ∷ 0 ∷ 2 ∷ 0 ∷ 0 ∷ []) 14 (0 ∷ 0 ∷ 1 ∷ 7 ∷ 7 ∷ 7 ∷ []) (2 ∷ 0 ∷ 0 ∷ 0 ∷ 2 ∷ 0 ∷ 0 ∷ stays 7)
    -- 12, 3, 9, in this order: nothing is written
    ∷ torn (1 ∷ 5 ∷ []) 1 (12 ∷ 0 ∷ 0 ∷ 0 ∷ 0 ∷ 0 ∷ []) (stays 1) ∷ torn (3 ∷ 5 ∷ 0 ∷ []) 2 (12 ∷ 0 ∷ 0 ∷ 0 ∷ 0 ∷ 0 ∷ []) (stays 2)
    ∷ torn (1 ∷ 5 ∷ 0 ∷ []) 2 (3 ∷ 0 ∷ 0 ∷ 0 ∷ 0 ∷ 0 ∷ []) (stays 2) ∷ torn (take 21 worked_log) 20 (9 ∷ 0 ∷ 0 ∷ 0 ∷ 0 ∷ 0 ∷ []) (stays 20)
    ∷ []

pub rescuing : T (every table)
unfolding rescue_call check_rescue check_head check_chips records_from read_in
rescuing = tt
