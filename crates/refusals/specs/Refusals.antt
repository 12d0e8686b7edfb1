-- The numbers of the refusals, each as the papers give it. Assumes nothing.
use Rattle.std.specs.Prelude.{ℕ, Result, Ok, Err}
use Rattle.refusals.specs.declared.Refusal.{Refusal}

abbrev pub number_of : Refusal → ℕ
number_of Refusal.ArrayLength = 1
number_of Refusal.RegisterLength = 2
number_of Refusal.InputLength = 3
number_of Refusal.BitCount = 4
number_of Refusal.OutputLength = 5
number_of Refusal.Record = 6
number_of Refusal.Duration = 7
number_of Refusal.Pace = 8
number_of Refusal.Account = 9
number_of Refusal.HexRecord = 12
number_of Refusal.HexChecksum = 13
number_of Refusal.HexType = 14
number_of Refusal.HexOutside = 15
number_of Refusal.HexEnd = 16
number_of Refusal.HexRoom = 17
number_of Refusal.HexLength = 18

-- of what came of a call, a report or a text: 0 says that it is not refused
abbrev pub number_in : {A : Type 0} → Result A Refusal → ℕ
number_in (Ok a) = 0
number_in (Err refusal) = number_of refusal
