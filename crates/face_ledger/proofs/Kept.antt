-- What is not accepted changes nothing, word by word. Assumes nothing.
use Prim.Native.Nat.{ℕ}
use mathlib.Core.Bool.{Bool, true, false, cond}
use mathlib.Core.List.{List, [], ◌∷◌}
use mathlib.Core.Logic.{◌≢◌}
use mathlib.Core.Path.{◌≡◌, refl, sym, ap, ◌∙◌}
use native.Mathlib.Omega.{arith}
use lib.ListN.{length}
use Rattle.std.specs.Prelude.{Result as OneOf, Ok, Err}
use Rattle.refusals.specs.declared.Refusal.{Refusal}
use Rattle.part.specs.Frame.{Lent}
use Rattle.ledger.specs.declared.Reported.{Reported}
use Rattle.ledger.specs.declared.Running.{Running}
use Rattle.ledger.specs.Ledger.{Ledger}
use Rattle.ledger_frame.specs.Frame.{frame}
use Rattle.ledger_frame.proofs.Frames.{refused_leaves, never_255}
use Rattle.device.specs.declared.Device.{Device}
use Rattle.face_words.specs.Words.{is_record, device_of, as_lent, packed, written_if}
use Rattle.face_words.proofs.Records.{lent_whole, written_whole, record_whole, written_back, is_record_lem, same_record}
use Rattle.face_frame.specs.Words.{Handed, call_of}
use Rattle.face_frame.proofs.Words.{record_read, enough}
use Rattle.face_ledger.specs.Words.{Ticket, LeftFor, is_running, running_of, running_words, ledger_of, is_call_for}
use Rattle.face_ledger.specs.Words.{told, unread, faced, is_report, report_number, report_words}
use Rattle.face_ledger.specs.Words.{Tables, closed_with, closing}
use Rattle.face_ledger.proofs.Words.{stands}

read : (h : Handed) (k : Ticket) (m : Lent) → is_call_for h k ≡ true → faced h k m ≡ told h k (frame (call_of h) m k.account (ledger_of k))
unfolding faced
read h k m e = rw e

passed_over : (h : Handed) (k : Ticket) (m : Lent) → is_call_for h k ≡ false → faced h k m ≡ unread h k m
unfolding faced
passed_over h k m e = rw e

pub bill_unread : (h : Handed) (k : Ticket) (m : Lent)
    → (is_call_for h k ≡ false → faced h k m ≡ unread h k m) × ((faced h k m).frame.number ≡ 255 → is_call_for h k ≡ false)
bill_unread h k m = (passed_over h k m, λ e. by (is_call_for h k) refl e)
  where
    by : (b : Bool) → is_call_for h k ≡ b → (faced h k m).frame.number ≡ 255 → is_call_for h k ≡ false
    by true r e =
        absurd (never_255 (call_of h) m k.account (ledger_of k) (sym (ap (λ (l : LeftFor). l.frame.number) (read h k m r)) ∙ e))
    by false r e = r

-- two words are those of the running operation that they stand for
two_words : (ws : List ℕ) → length ws ≡ 2 → running_words (running_of ws) ≡ ws
two_words [] e = absurd (omega arith)
two_words (a ∷ []) e = absurd (omega arith)
two_words (a ∷ b ∷ []) e = refl
two_words (a ∷ b ∷ c ∷ ws) e = absurd (omega arith)

-- and written back they are as they were
running_back : (ws : List ℕ) → is_running ws ≡ true → as_lent ws (running_words (running_of ws)) ≡ ws
running_back ws e =
    let two = lent_whole 2 (length ws) e in
    written_whole ws (running_words (running_of ws)) (sym two) ∙ two_words ws two

pub bill_kept : (h : Handed) (k : Ticket) (m : Lent) → (faced h k m).frame.number ≢ 0
    → ((faced h k m).frame.device ≡ h.device) × ((faced h k m).frame.lent ≡ m) × ((faced h k m).running ≡ k.running) × ((faced h k m).totals ≡ k.totals)
    × ((faced h k m).most ≡ k.most) × ((faced h k m).numbers ≡ k.numbers)
bill_kept h k m n = by (is_call_for h k) refl
  where
    by : (b : Bool) → is_call_for h k ≡ b
        → ((faced h k m).frame.device ≡ h.device) × ((faced h k m).frame.lent ≡ m) × ((faced h k m).running ≡ k.running) × ((faced h k m).totals ≡ k.totals)
        × ((faced h k m).most ≡ k.most) × ((faced h k m).numbers ≡ k.numbers)
    by true r =
        let right = stands h k r in
        let kept = refused_leaves (call_of h) m k.account (ledger_of k) (λ z. n (ap (λ (l : LeftFor). l.frame.number) (read h k m r) ∙ z)) in
        rw (read h k m r) (
          ap (λ (d : Device). as_lent h.device (packed d)) kept.0 ∙ written_back h.device (record_read h right.0),
          kept.1,
          ap (λ (l : Ledger). as_lent k.running (running_words l.running)) kept.2 ∙ running_back k.running right.1,
          ap (λ (l : Ledger). l.totals) kept.2,
          ap (λ (l : Ledger). l.most) kept.2,
          ap (λ (l : Ledger). l.numbers) kept.2,
        )
    by false r = rw (passed_over h k m r) (refl, refl, refl, refl, refl, refl)

-- the words that come back, as many as are lent, stand for what comes back
pub bill_back : (h : Handed) (k : Ticket) (m : Lent) → is_call_for h k ≡ true
    → (is_record (faced h k m).frame.device ≡ true) × (device_of (faced h k m).frame.device ≡ (frame (call_of h) m k.account (ledger_of k)).reply.device)
    × (is_running (faced h k m).running ≡ true) × (running_of (faced h k m).running ≡ (frame (call_of h) m k.account (ledger_of k)).ledger.running)
bill_back h k m r =
    let right = stands h k r in
    let result = frame (call_of h) m k.account (ledger_of k) in
    let d = result.reply.device in
    let on = result.ledger.running in
    let record_all : as_lent h.device (packed d) ≡ packed d = record_whole h.device d (enough h right.0).0 in
    let running_all : as_lent k.running (running_words on) ≡ running_words on
    = written_whole k.running (running_words on) (sym (lent_whole 2 (length k.running) right.1)) in
    rw (read h k m r, record_all, running_all) (is_record_lem d, same_record d, refl, refl)

pub close_unread : (running : List ℕ) (now old : Tables)
    → (is_running running ≡ false → closing running now old ≡ closed_with 255 running now old)
    × ((closing running now old).number ≡ 255 → is_running running ≡ false)
unfolding closing
close_unread running now old = (left, λ e. by (is_running running) refl e)
  where
    left : is_running running ≡ false → closing running now old ≡ closed_with 255 running now old
    left r = rw r

    accepted : is_running running ≡ true → (closing running now old).number ≡ 0
    accepted r = rw r

    by : (b : Bool) → is_running running ≡ b → (closing running now old).number ≡ 255 → is_running running ≡ false
    by true r e = absurd (omega (arith, accepted r))
    by false r e = r

pub report_kept : (r : OneOf Reported Refusal) (line : List ℕ) → report_number r line ≢ 0 → report_words r line ≡ line
report_kept (Ok r) line n = by (is_report (length line)) n
  where
    by : (b : Bool) → ◌≢◌ {A = ℕ} (cond b 0 255) 0 → written_if b (r.total ∷ r.most ∷ r.number ∷ []) line ≡ line
    by true n = absurd (n refl)
    by false n = refl
report_kept (Err refusal) line n = refl

pub same_running : (r : Running) → (is_running (running_words r) ≡ true) × (running_of (running_words r) ≡ r)
same_running r = (refl, refl)
