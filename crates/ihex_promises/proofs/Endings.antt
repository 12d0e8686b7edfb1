-- The lines of a text: where they end, and that the lines which are joined are those that are found. Assumes nothing.
use Prim.Native.Nat.{ℕ}
use mathlib.Core.Bool.{Bool, true, false, cond, ◌&&◌, ◌||◌, true≢false, false≢true}
use mathlib.Core.List.{List, [], ◌∷◌, ◌++◌}
use mathlib.Core.Logic.{◌≢◌}
use mathlib.Core.Path.{◌≡◌, refl, ap, ◌∙◌}
use lib.Dec.{eqb}
use lib.ListN.{get_or}
use Rattle.ihex_layout.specs.Layout.{line_feed, carriage_return}
use Rattle.ihex_write.specs.Writer.{joined}
use Rattle.ihex_read.specs.Reader.{headed, behind, lines_in}
use Rattle.ihex_promises.specs.Promises.{plain}

-- what a plain line says of its first character and of the others
plain_parts : (c : ℕ) (line : List ℕ) → plain (c ∷ line) ≡ true → ((eqb c line_feed || eqb c carriage_return) ≡ false) × (plain line ≡ true)
unfolding plain
plain_parts c line p = by (eqb c line_feed || eqb c carriage_return) p
  where
    by : (b : Bool) → cond b false (plain line) ≡ true → (b ≡ false) × (plain line ≡ true)
    by true q = absurd (false≢true q)
    by false q = (refl, q)

-- a character that ends no line stands at the head of the first one
kept : (c : ℕ) (turned : Bool) (lines : List (List ℕ)) → (eqb c line_feed || eqb c carriage_return) ≡ false → behind c turned lines ≡ headed c lines
unfolding behind
kept c turned lines e = by (eqb c line_feed) (eqb c carriage_return) e
  where
    by : (b d : Bool) → (b || d) ≡ false → cond b ([] ∷ lines) (cond (d && turned) lines (headed c lines)) ≡ headed c lines
    by true d q = absurd (true≢false q)
    by false true q = absurd (true≢false q)
    by false false q = refl

-- so does the first character of a plain line
first_kept : (c : ℕ) (line text : List ℕ) → plain (c ∷ line) ≡ true → lines_in (c ∷ text) ≡ headed c (lines_in text)
unfolding lines_in
first_kept c line text p = kept c (eqb (get_or text 0 0) line_feed) (lines_in text) (plain_parts c line p).0

-- a plain line goes on to the ending that follows it
to_ending : (line rest : List ℕ) (lines : List (List ℕ)) → plain line ≡ true → lines_in rest ≡ [] ∷ lines → lines_in (line ++ rest) ≡ line ∷ lines
to_ending [] rest lines p e = e
to_ending (c ∷ line) rest lines p e = first_kept c line (line ++ rest) p ∙ ap (headed c) (to_ending line rest lines (plain_parts c line p).1 e)

-- or to the end of the text
to_end : (c : ℕ) (line : List ℕ) → plain (c ∷ line) ≡ true → lines_in (c ∷ line) ≡ (c ∷ line) ∷ []
unfolding lines_in
to_end c [] p = first_kept c [] [] p
to_end c (d ∷ line) p = first_kept c (d ∷ line) (d ∷ line) p ∙ ap (headed c) (to_end d line (plain_parts c (d ∷ line) p).1)

-- a line ends with LF or with CR LF, and the last ending may be missing
pub endings : (line text : List ℕ) → plain line ≡ true
    → (lines_in (line ++ line_feed ∷ text) ≡ line ∷ lines_in text)
    × (lines_in (line ++ carriage_return ∷ line_feed ∷ text) ≡ line ∷ lines_in text)
    × (line ≢ [] → lines_in line ≡ line ∷ [])
unfolding lines_in behind
endings line text p = (to_ending line (line_feed ∷ text) (lines_in text) p refl, to_ending line (carriage_return ∷ line_feed ∷ text) (lines_in text) p refl, by line p)
  where
    by : (line : List ℕ) → plain line ≡ true → line ≢ [] → lines_in line ≡ line ∷ []
    by [] p n = absurd (n refl)
    by (c ∷ line) p n = to_end c line p

-- every line is plain
abbrev pub Plain : List (List ℕ) → Type 0
Plain [] = Unit
Plain (line ∷ lines) = (plain line ≡ true) × Plain lines

-- the lines that are joined are those that are found
pub lines_joined : (lines : List (List ℕ)) → Plain lines → lines_in (joined lines) ≡ lines
unfolding lines_in joined
lines_joined [] p = refl
lines_joined (line ∷ lines) p = (endings line (joined lines) p.0).0 ∙ ap (λ (ls : List (List ℕ)). line ∷ ls) (lines_joined lines p.1)
