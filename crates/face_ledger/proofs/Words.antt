-- What is known of words that stand for a call through the ledger. Assumes nothing.
use Prim.Native.Nat.{ℕ}
use mathlib.Core.Bool.{true, and-eq-true_iff}
use mathlib.Core.List.{List}
use mathlib.Core.Path.{◌≡◌, ap, ◌∙◌}
use Rattle.settings.specs.declared.Settings.{Settings}
use Rattle.device.specs.declared.Device.{Device}
use Rattle.calls.specs.declared.Signals.{Signals}
use Rattle.part.specs.Frame.{Call, Lent, Reply, call, Came, reply_of}
use Rattle.ledger.specs.declared.Running.{Running}
use Rattle.ledger.specs.Ledger.{Ledger, ledger, closed}
use Rattle.ledger_frame.specs.Frame.{frame, Meets}
use Rattle.face_words.specs.Words.{as_lent, packed, device_of, settings_of, signals_of, answer_of}
use Rattle.face_frame.specs.Words.{Handed, is_call, call_of, left}
use Rattle.face_ledger.specs.Words.{Ticket, is_running, running_of, running_words, ledger_of, is_call_for, left_for}
use Rattle.face_ledger.specs.Words.{told}
use Rattle.face_ledger.specs.Words.{Tables, tables, tables_of, closed_with, closing}

-- they stand for a call of the part, and for a running operation
pub stands : (h : Handed) (k : Ticket) → is_call_for h k ≡ true → (is_call h ≡ true) × (is_running k.running ≡ true)
stands h k right = (and-eq-true_iff (is_call h) (is_running k.running)).0 right

-- a frame's result, told as words, is the face's
pub as_told_for : (h : Handed) (k : Ticket) (m n : Lent) (d : Device) (s : Settings) (g : Signals)
    (before after : Running) (a : Came) (number : ℕ)
    (device answer running totals most numbers : List ℕ) → d ≡ device_of h.device → s ≡ settings_of h.settings → g ≡ signals_of h.signals
    → before ≡ running_of k.running
    → Meets (call d s h.input g) m k.account (ledger k.totals k.most k.numbers before) (reply_of d a) n
    (ledger totals most numbers after)
    → number ≡ (reply_of d a).refusal → device ≡ as_lent h.device (packed (reply_of d a).device)
    → answer ≡ as_lent h.answer (answer_of (reply_of d a)) → running ≡ as_lent k.running (running_words after)
    → left_for (left number device answer n) running totals most numbers ≡ told h k (frame (call_of h) m k.account (ledger_of k))
as_told_for h k m n d s g before after a number device answer running totals most numbers p q t w e x y z v =
    rw (x, y, z, v, ← p, ← q, ← t, ← w) (ap (told h k) e)

-- what is left may be named in another way
pub met_there : (c : Call) (m : Lent) (account : ℕ) (l : Ledger) (r : Reply) (n o : Lent) (k j : Ledger) → n ≡ o → k ≡ j
    → Meets c m account l r n k → Meets c m account l r o j
met_there c m account l r n o k j e f met = rw (← e, ← f) met

-- the close of a month, told as words, is the face's
pub as_closed : (running words : List ℕ) (now old : Tables) (before after : Running)
    (totals most numbers a b c : List ℕ)
    → is_running running ≡ true → before ≡ running_of running
    → ledger totals most numbers after ≡ closed (ledger now.totals now.most now.numbers before)
    → (a ≡ now.totals) × (b ≡ now.most) × (c ≡ now.numbers) → words ≡ as_lent running (running_words after)
    → closed_with 0 words (tables totals most numbers) (tables a b c) ≡ closing running now old
unfolding closing
as_closed running words now old before after totals most numbers a b c right read e out put =
    let all = e ∙ ap (λ (r : Running). closed (ledger now.totals now.most now.numbers r)) read in
    rw (right, put, out.0, out.1, out.2)
    (ap (λ (l : Ledger). closed_with 0 (as_lent running (running_words l.running)) (tables_of l) now) all)
