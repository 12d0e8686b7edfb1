-- A frame through the ledger by words, and the report on an account. Words that stand for nothing are answered with
-- 255, and then nothing changes. Assumes nothing.
use Rattle.std.specs.Prelude.{ℕ, Bool, cond, ◌&&◌, List, [], ◌∷◌, length, get_or, Result as OneOf, Ok, Err}
use Rattle.refusals.specs.declared.Refusal.{Refusal}
use Rattle.refusals.specs.Refusals.{number_in}
use Rattle.part.specs.Frame.{Lent}
use Rattle.ledger.specs.declared.Reported.{Reported}
use Rattle.ledger.specs.declared.Running.{Running}
use Rattle.ledger.specs.Ledger.{Ledger, ledger, runs, closed}
use Rattle.ledger_frame.specs.Frame.{Result, frame}
use Rattle.face_words.specs.Words.{is_lent, as_lent, written_if}
use Rattle.face_frame.specs.Words as plain
use Rattle.face_frame.specs.Words.{Handed, Left, is_call, call_of}

-- the running operation, two words: its account, and what it was billed so far
abbrev pub is_running : List ℕ → Bool
is_running ws = is_lent 2 2 (length ws)

abbrev pub running_of : List ℕ → Running
running_of ws = runs (get_or ws 0 0) (get_or ws 1 0)

abbrev pub running_words : Running → List ℕ
running_words r = r.account ∷ r.billed ∷ []

-- what is handed over beside a frame's: the account, the running operation's words and the three tables
pub record Ticket : Type 0 where
  pub account : ℕ
  pub running : List ℕ
  pub totals : List ℕ
  pub most : List ℕ
  pub numbers : List ℕ

abbrev pub ticket : ℕ → List ℕ → List ℕ → List ℕ → List ℕ → Ticket
ticket account running totals most numbers =
    record { account = account; running = running; totals = totals; most = most; numbers = numbers }

abbrev pub ledger_of : Ticket → Ledger
ledger_of k = ledger k.totals k.most k.numbers (running_of k.running)

-- whether the words stand for a call
abbrev pub is_call_for : Handed → Ticket → Bool
is_call_for h k = is_call h && is_running k.running

-- what is left: a frame's, and the ledger's words
pub record LeftFor : Type 0 where
  pub frame : Left
  pub running : List ℕ
  pub totals : List ℕ
  pub most : List ℕ
  pub numbers : List ℕ

abbrev pub left_for : Left → List ℕ → List ℕ → List ℕ → List ℕ → LeftFor
left_for frame running totals most numbers =
    record { frame = frame; running = running; totals = totals; most = most; numbers = numbers }

-- the result of a frame through the ledger, as words: as many as are lent
abbrev pub told : Handed → Ticket → Result → LeftFor
told h k r =
    left_for (plain.told h (record { reply = r.reply; lent = r.lent }))
    (as_lent k.running (running_words r.ledger.running)) r.ledger.totals
    r.ledger.most r.ledger.numbers

-- words that stand for nothing: 255, and all is as it was
abbrev pub unread : Handed → Ticket → Lent → LeftFor
unread h k m = left_for (plain.unread h m) k.running k.totals k.most k.numbers

unfoldable pub faced : Handed → Ticket → Lent → LeftFor
faced h k m = cond (is_call_for h k) (told h k (frame (call_of h) m k.account (ledger_of k))) (unread h k m)

-- the three tables of a ledger
pub record Tables : Type 0 where
  pub totals : List ℕ
  pub most : List ℕ
  pub numbers : List ℕ

abbrev pub tables : List ℕ → List ℕ → List ℕ → Tables
tables totals most numbers = record { totals = totals; most = most; numbers = numbers }

abbrev pub tables_of : Ledger → Tables
tables_of l = tables l.totals l.most l.numbers

-- what the close of a month leaves: its number, the running operation's words, the tables, and those that were handed
-- out
pub record Closed : Type 0 where
  pub number : ℕ
  pub running : List ℕ
  pub tables : Tables
  pub old : Tables

abbrev pub closed_with : ℕ → List ℕ → Tables → Tables → Closed
closed_with number running tables old = record { number = number; running = running; tables = tables; old = old }

-- 255 if the running operation's words stand for nothing, and then all is as it was
unfoldable pub closing : List ℕ → Tables → Tables → Closed
closing running now old =
    let after = closed (ledger now.totals now.most now.numbers (running_of running)) in
    cond (is_running running) (closed_with 0 (as_lent running (running_words after.running)) (tables_of after) now)
    (closed_with 255 running now old)

-- the report, three words: its number, 255 if not as many are lent; they are written if it is 0
abbrev pub is_report : ℕ → Bool
is_report long = is_lent 3 3 long

abbrev pub report_number : OneOf Reported Refusal → List ℕ → ℕ
report_number r line = cond (is_report (length line)) (number_in r) 255

abbrev pub report_words : OneOf Reported Refusal → List ℕ → List ℕ
report_words (Ok r) line = written_if (is_report (length line)) (r.total ∷ r.most ∷ r.number ∷ []) line
report_words (Err refusal) line = line
