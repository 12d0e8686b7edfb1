-- A refusal's number tells which refusal it is, so that a number in an answer gives the refusal; and no refusal has the number that says
-- that words stand for nothing. Assumes nothing.
use Prim.Native.Nat.{ℕ}
use mathlib.Core.Logic.{◌≢◌}
use mathlib.Core.List.{[], ◌∷◌}
use mathlib.Core.Path.{◌≡◌, refl}
use native.Mathlib.Omega.{arith}
use lib.ListN.{get_or}
use Rattle.std.specs.Prelude.{Result, Ok, Err}
use Rattle.numbers.proofs.Tells.{tells}
use Rattle.refusals.specs.declared.Refusal.{Refusal}
use Rattle.refusals.specs.declared.Refusal.TheVariants.{ArrayLength, RegisterLength, InputLength, BitCount}
use Rattle.refusals.specs.declared.Refusal.TheVariants.{OutputLength, Record, Duration, Pace, Account, HexRecord}
use Rattle.refusals.specs.declared.Refusal.TheVariants.{HexChecksum, HexType, HexOutside, HexEnd, HexRoom, HexLength}
use Rattle.refusals.specs.Refusals.{number_of, number_in}

-- the refusal of a number; 0 is none, and 10 and 11 are still to come, so their places have another's
unfoldable refusal_at : ℕ → Refusal
refusal_at n =
    get_or
    (Pace ∷ ArrayLength ∷ RegisterLength ∷ InputLength ∷ BitCount ∷ OutputLength ∷ Record ∷ Duration ∷ Pace ∷ Account ∷ Pace ∷ Pace ∷ HexRecord ∷ HexChecksum ∷ HexType ∷ HexOutside ∷ HexEnd ∷ HexRoom ∷ HexLength ∷ [])
    n Pace

back : (r : Refusal) → refusal_at (number_of r) ≡ r
unfolding refusal_at
back ArrayLength = refl
back RegisterLength = refl
back InputLength = refl
back BitCount = refl
back OutputLength = refl
back Record = refl
back Duration = refl
back Pace = refl
back Account = refl
back HexRecord = refl
back HexChecksum = refl
back HexType = refl
back HexOutside = refl
back HexEnd = refl
back HexRoom = refl
back HexLength = refl

pub number_tells : (a b : Refusal) → number_of a ≡ number_of b → a ≡ b
number_tells = tells number_of refusal_at back

pub never_255 : (r : Refusal) → number_of r ≢ 255
never_255 ArrayLength e = omega arith
never_255 RegisterLength e = omega arith
never_255 InputLength e = omega arith
never_255 BitCount e = omega arith
never_255 OutputLength e = omega arith
never_255 Record e = omega arith
never_255 Duration e = omega arith
never_255 Pace e = omega arith
never_255 Account e = omega arith
never_255 HexRecord e = omega arith
never_255 HexChecksum e = omega arith
never_255 HexType e = omega arith
never_255 HexOutside e = omega arith
never_255 HexEnd e = omega arith
never_255 HexRoom e = omega arith
never_255 HexLength e = omega arith

-- nor the one that says that there is none
pub never_0 : (r : Refusal) → number_of r ≢ 0
never_0 ArrayLength e = omega arith
never_0 RegisterLength e = omega arith
never_0 InputLength e = omega arith
never_0 BitCount e = omega arith
never_0 OutputLength e = omega arith
never_0 Record e = omega arith
never_0 Duration e = omega arith
never_0 Pace e = omega arith
never_0 Account e = omega arith
never_0 HexRecord e = omega arith
never_0 HexChecksum e = omega arith
never_0 HexType e = omega arith
never_0 HexOutside e = omega arith
never_0 HexEnd e = omega arith
never_0 HexRoom e = omega arith
never_0 HexLength e = omega arith

-- and so of what came of a call: its number is not the one that says that words stand for nothing
pub in_never_255 : {A : Type 0} (came : Result A Refusal) → number_in came ≢ 255
in_never_255 (Ok a) e = omega arith
in_never_255 (Err refusal) e = never_255 refusal e
