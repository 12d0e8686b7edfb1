-- A call that begins nothing may be another account's, and a refused one may be left out. Assumes nothing.
use Prim.Native.Nat.{ℕ, ◌<◌}
use Prim.Native.String.{String}
use mathlib.Core.Bool.{Bool, true, false}
use mathlib.Core.List.{List, ◌∷◌, ◌++◌}
use mathlib.Core.Logic.{◌≢◌}
use mathlib.Core.Path.{◌≡◌, refl, sym, ap, subst}
use borrow.Author.Tests.{lt-ltb}
use lib.Dec.{T}
use lib.Text.{eqt, eqt→eq}
use Rattle.runs.proofs.Laws.{left_out, exchanged}
use Rattle.device.specs.declared.Device.{Device}
use Rattle.series.specs.Turns.{Turn}
use Rattle.ledger.specs.Ledger.{Ledger, booked}
use Rattle.ledger_frame.specs.Frame.{replied}
use Rattle.ledger_series.specs.Entries.{Entry, Books, entry, reply_to, books, next, last_record, last_ledger}
use Rattle.ledger_series.proofs.Entries.{refused_stays}

-- a word that is not begun
not_begun : (word : String) → word ≢ "begun" → eqt word "begun" ≡ false
not_begun word n = by (eqt word "begun") refl
  where
    by : (b : Bool) → eqt word "begun" ≡ b → b ≡ false
    by true e = absurd (n (eqt→eq word "begun" (subst T (sym e) tt)))
    by false e = refl

module _ (turn : Turn) (account other : ℕ) (d : Device) (l : Ledger) (low : account < 256) (also : other < 256) where
  same_reply : reply_to (entry turn account) d l ≡ reply_to (entry turn other) d l
  unfolding replied
  same_reply = rw (lt-ltb account 256 low, lt-ltb other 256 also)

  same_next : (reply_to (entry turn account) d l).outcome ≢ "begun" → next (entry turn account) (books d l) ≡ next (entry turn other) (books d l)
  unfolding booked
  same_next n = rw (← same_reply, not_begun (reply_to (entry turn account) d l).outcome n)

pub whoever_polls : (before after : List Entry) (turn : Turn) (account other : ℕ) (d : Device) (l : Ledger) → account < 256 → other < 256
    → (reply_to (entry turn account) (last_record before d l) (last_ledger before d l)).outcome ≢ "begun"
    → (last_ledger (before ++ entry turn account ∷ after) d l ≡ last_ledger (before ++ entry turn other ∷ after) d l)
    × (last_record (before ++ entry turn account ∷ after) d l ≡ last_record (before ++ entry turn other ∷ after) d l)
whoever_polls before after turn account other d l low also n =
    let same =
    exchanged next before after (entry turn account) (entry turn other) (books d l)
    (same_next turn account other (last_record before d l) (last_ledger before d l) low also n) in
    (ap (λ (b : Books). b.ledger) same, ap (λ (b : Books). b.device) same)

pub refused_changes_nothing : (before after : List Entry) (e : Entry) (d : Device) (l : Ledger)
    → (reply_to e (last_record before d l) (last_ledger before d l)).refusal ≢ 0
    → (last_ledger (before ++ e ∷ after) d l ≡ last_ledger (before ++ after) d l) × (last_record (before ++ e ∷ after) d l ≡ last_record (before ++ after) d l)
refused_changes_nothing before after e d l n =
    let same = left_out next before after e (books d l) (refused_stays e (last_record before d l) (last_ledger before d l) n) in
    (ap (λ (b : Books). b.ledger) same, ap (λ (b : Books). b.device) same)
