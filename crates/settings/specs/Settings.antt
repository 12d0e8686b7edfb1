-- The settings record: eight durations in ticks, at places that the kind of operation gives. Assumes nothing.
use Rattle.std.specs.Prelude.{ℕ, Bool, false, ◌||◌, List, [], ◌∷◌, ltb, eqb, get_or}
use Rattle.settings.specs.declared.Settings.{Settings}
use Rattle.settings.specs.declared.Kind.{Kind}
use Rattle.settings.specs.declared.Kind.TheVariants.{ByteProgram, LongerProgram, PageErase, SmallErase, LargeErase}
use Rattle.settings.specs.declared.Kind.TheVariants.{ChipErase, OtpProgram, StatusWrite}

-- the most ticks that an operation may take
abbrev pub longest : ℕ
longest = 60000000

-- the place of each kind, in document 01's order
abbrev pub place_of : Kind → ℕ
place_of ByteProgram = 0
place_of LongerProgram = 1
place_of PageErase = 2
place_of SmallErase = 3
place_of LargeErase = 4
place_of ChipErase = 5
place_of OtpProgram = 6
place_of StatusWrite = 7

abbrev pub duration_of : Settings → Kind → ℕ
duration_of s kind = get_or s.ticks (place_of kind) 0

-- a duration that no operation may have: none at all, or too long
abbrev pub unfair : ℕ → Bool
unfair ticks = eqb ticks 0 || ltb longest ticks

-- refusal 7: one of the eight is such a duration
unfoldable pub any_unfair : List ℕ → Bool
any_unfair [] = false
any_unfair (t ∷ ts) = unfair t || any_unfair ts

-- the typical times of the sheet's section 13.5, a tick being a microsecond
abbrev pub typical : Settings
typical = record { ticks = 12 ∷ 2000 ∷ 7000 ∷ 50000 ∷ 400000 ∷ 1600000 ∷ 400 ∷ 20000 ∷ [] }
