-- What a frame through the ledger by words, and the report, promise. Assumes nothing.
use Rattle.std.specs.Prelude.{ℕ, true, false, List, ◌≢◌, ◌≡◌, Result}
use Rattle.refusals.specs.declared.Refusal.{Refusal}
use Rattle.part.specs.Frame.{Lent}
use Rattle.face_words.specs.Words.{is_record, device_of}
use Rattle.face_frame.specs.Words.{Handed, call_of}
use Rattle.ledger_frame.specs.Frame.{frame}
use Rattle.ledger.specs.declared.Reported.{Reported}
use Rattle.ledger.specs.declared.Running.{Running}
use Rattle.face_ledger.specs.Words.{Ticket, Tables, closed_with, closing, is_running, running_of, running_words}
use Rattle.face_ledger.specs.Words.{ledger_of, is_call_for, unread, faced, report_number, report_words}

pub record Promises : Type 0 where
  -- a frame through the ledger is answered with 255 exactly if its words stand for nothing, and then everything is as
  -- it was
  pub bill_unread : (h : Handed) (k : Ticket) (m : Lent)
      → (is_call_for h k ≡ false → faced h k m ≡ unread h k m)
      × ((faced h k m).frame.number ≡ 255 → is_call_for h k ≡ false)
  -- with a number other than 0 it changes neither the record's words nor a lent byte nor a word of the ledger
  pub bill_kept : (h : Handed) (k : Ticket) (m : Lent) → (faced h k m).frame.number ≢ 0
      → ((faced h k m).frame.device ≡ h.device) × ((faced h k m).frame.lent ≡ m) × ((faced h k m).running ≡ k.running)
      × ((faced h k m).totals ≡ k.totals)
      × ((faced h k m).most ≡ k.most) × ((faced h k m).numbers ≡ k.numbers)
  -- the words of record and running operation that come back stand for those that come back
  pub bill_back : (h : Handed) (k : Ticket) (m : Lent) → is_call_for h k ≡ true
      → (is_record (faced h k m).frame.device ≡ true)
      × (device_of (faced h k m).frame.device ≡ (frame (call_of h) m k.account (ledger_of k)).reply.device)
      × (is_running (faced h k m).running ≡ true)
      × (running_of (faced h k m).running ≡ (frame (call_of h) m k.account (ledger_of k)).ledger.running)
  -- a month's close is answered with 255 exactly if the running operation's words stand for nothing, and then
  -- everything is as it was
  pub close_unread : (running : List ℕ) (now old : Tables)
      → (is_running running ≡ false → closing running now old ≡ closed_with 255 running now old)
      × ((closing running now old).number ≡ 255 → is_running running ≡ false)
  -- a report that is refused writes nothing
  pub report_kept : (r : Result Reported Refusal) (line : List ℕ) → report_number r line ≢ 0
      → report_words r line ≡ line
  -- the running operation that comes back as words is the one that goes in with them
  pub same_running : (r : Running) → (is_running (running_words r) ≡ true) × (running_of (running_words r) ≡ r)
