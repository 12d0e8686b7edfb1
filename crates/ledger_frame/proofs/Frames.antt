-- A call through the ledger, by whether the ledger is shut to it. Assumes nothing.
use Prim.Native.Nat.{ℕ, ◌+◌, ◌<◌, ◌≤◌}
use mathlib.Core.Bool.{Bool, true, false, true≢false, cond, not, ◌||◌, or-true, and-false, and-eq-true_iff}
use mathlib.Core.Path.{◌≡◌, refl, sym, ap, subst, ◌∙◌}
use mathlib.Core.Logic.{◌≢◌}
use native.Mathlib.Decide.{ℕ_discrete}
use native.Mathlib.Omega.{arith}
use borrow.Author.Tests.{ltb-true, eqb-true, ne_eqb}
use lib.Dec.{ltb, eqb}
use Rattle.device.proofs.Records.{sound_then}
use Rattle.calls.specs.declared.Lengths.{Lengths}
use Rattle.refusals.specs.Refusals.{number_in}
use Rattle.calls.proofs.Accepting.{accepted}
use Rattle.device.specs.declared.Device.{Device}
use Rattle.std.specs.Prelude.{Ok, Err}
use Rattle.part.specs.Frame as part
use Rattle.part.specs.Frame.{Call, Lent, Reply, Result, lengths_of, number_for, refused, turned_away, Came, reply_of}
use Rattle.part.proofs.Answers as answers
use Rattle.part.proofs.Answers.{refusal_is}
use Rattle.ledger.specs.Ledger.{Ledger, limit, any_above, shut, booked}
use Rattle.watch.specs.Watch.{Bounded, watched, raised}
use Rattle.watch.proofs.Bounds.{watched_tells}
use Rattle.watch.proofs.Rises.{rises}
use Rattle.ledger_frame.specs.Frame as through
use Rattle.ledger_frame.specs.Frame.{shut_out, replied, frame, Meets}

-- what is known of a ledger that is not shut
pub open_to : (account : ℕ) (l : Ledger) → shut account l ≡ false
    → (account < 256) × ((any_above l.totals ≡ false) × (any_above l.numbers ≡ false))
open_to account l e = by (ltb account 256) (any_above l.totals) (any_above l.numbers) e refl refl refl
  where
    by : (a t n : Bool) → (not a || (t || n)) ≡ false → ltb account 256 ≡ a → any_above l.totals ≡ t
        → any_above l.numbers ≡ n
        → (account < 256) × ((any_above l.totals ≡ false) × (any_above l.numbers ≡ false))
    by true false false e p q r = (ltb-true account 256 p, (q, r))
    by true true n e p q r = absurd (true≢false e)
    by true false true e p q r = absurd (true≢false e)
    by false t n e p q r = absurd (true≢false e)

-- what comes back carries the number of what came
numbered : (d : Device) (a : Came) → (reply_of d a).refusal ≡ number_in a
numbered d (Ok a) = refl
numbered d (Err refusal) = refl

-- an accepted call has no more busy ticks left than an operation may take
pub short : (c : Call) (m n : Lent) (a : Came) → part.Meets c m a n → number_in a ≡ 0
    → c.device.busy ≤ 60000000
unfolding part.frame number_for
short c m n a e z =
    let number = sym (refusal_is c (lengths_of c m)) ∙ (sym (ap (λ (r : Result). r.reply.refusal) e) ∙ (numbered c.device a ∙ z)) in
    (sound_then c.device (accepted c.device c.settings c.signals (lengths_of c m) number).sound).short

-- shut: the call is refused, and all is as it was
pub shut_frame : (c : Call) (m : Lent) (account : ℕ) (l : Ledger) (r : Reply) → shut account l ≡ true
    → r ≡ turned_away 9 c m → Meets c m account l r m l
unfolding frame replied booked part.frame part.replied
shut_frame c m account l r e p = by (ℕ_discrete (number_for c (lengths_of c m)) 0)
  where
    by : Dec (number_for c (lengths_of c m) ≡ 0) → Meets c m account l r m l
    by (yes z) = rw (p, e, z)
    by (no n) = let refused-so = ne_eqb (number_for c (lengths_of c m)) 0 n in rw (p, e, refused-so) (rw refused-so)

-- not shut: the part answers, and what it did is booked
pub open_frame : (c : Call) (m n : Lent) (a : Came) (account : ℕ) (l kept : Ledger) → shut account l ≡ false
    → part.Meets c m a n
    → kept ≡ booked c.device.busy c.signals (reply_of c.device a) account l
    → Meets c m account l (reply_of c.device a) n kept
unfolding frame replied part.frame
open_frame c m n a account l kept e f p =
    rw (e, and-false (eqb (number_for c (lengths_of c m)) 0), p)
    (ap (λ (r : Result). record {
      reply = r.reply;
      lent = r.lent;
      ledger = booked c.device.busy c.signals r.reply account l;
    }) f)

-- a refused call leaves the record, every lent byte and the ledger
pub refused_leaves : (c : Call) (m : Lent) (account : ℕ) (l : Ledger) → (frame c m account l).reply.refusal ≢ 0
    → ((frame c m account l).reply.device ≡ c.device) × ((frame c m account l).lent ≡ m) ×
    ((frame c m account l).ledger ≡ l)
unfolding frame replied booked part.frame
refused_leaves c m account l n = by (shut_out c (lengths_of c m) account l) n
  where
    by : (s : Bool) → (cond s (refused 9 c.device) (part.replied c (lengths_of c m))).refusal ≢ 0
        → let r = cond s (refused 9 c.device) (part.replied c (lengths_of c m)) in
        (r.device ≡ c.device) × (cond s m (part.frame c m).lent ≡ m) × (booked c.device.busy c.signals r account l ≡ l)
    by true n = (refl, refl, refl)
    by false n = let kept = answers.refused_leaves c m n in (
      kept.0,
      kept.1,
      rw (ne_eqb (part.replied c (lengths_of c m)).refusal 0 n),
    )

-- refusal 9 is given exactly if no other is and the ledger is shut
pub nine_exactly : (c : Call) (lengths : Lengths) (account : ℕ) (l : Ledger)
    → ((replied c lengths account l).refusal ≡ 9 → (number_for c lengths ≡ 0) × (shut account l ≡ true))
    × (number_for c lengths ≡ 0 → shut account l ≡ true → (replied c lengths account l).refusal ≡ 9)
unfolding replied
nine_exactly c lengths account l = (λ e. by (shut_out c lengths account l) refl e, λ z s. rw (z, s))
  where
    by : (b : Bool) → shut_out c lengths account l ≡ b → (cond b (refused 9 c.device) (part.replied c lengths)).refusal
        ≡ 9
        → (number_for c lengths ≡ 0) × (shut account l ≡ true)
    by true t e = let both = (and-eq-true_iff (eqb (number_for c lengths) 0) (shut account l)).0 t in
        (eqb-true (number_for c lengths) 0 both.0, both.1)
    by false t e = absurd (answers.never_9 c lengths e)

-- an accepted call has no more busy ticks left than an operation may take
short_so : (c : Call) (m : Lent) (account : ℕ) (l : Ledger) → (replied c (lengths_of c m) account l).refusal ≡ 0
    → c.device.busy ≤ 60000000
unfolding replied number_for
short_so c m account l = by (shut_out c (lengths_of c m) account l)
  where
    by : (s : Bool) → (cond s (refused 9 c.device) (part.replied c (lengths_of c m))).refusal ≡ 0
        → c.device.busy ≤ 60000000
    by true e = absurd (omega arith)
    by false e =
        (sound_then c.device
        (accepted c.device c.settings c.signals (lengths_of c m) (sym (refusal_is c (lengths_of c m)) ∙ e)).sound).short

-- a call to which the ledger is shut leaves it
shut_leaves : (c : Call) (m : Lent) (account : ℕ) (l : Ledger) → shut account l ≡ true → (frame c m account l).ledger
    ≡ l
unfolding frame
shut_leaves c m account l e =
    ap (λ (r : through.Result). r.ledger) (sym (shut_frame c m account l (turned_away 9 c m) e refl))

-- in a run: a bound that was watched says whether the ledger is shut,
pub shut_so : (bound account : ℕ) (l : Ledger) → Bounded bound l
    → not (ltb account 256) || ltb limit (watched bound l.totals l.numbers) ≡ shut account l
shut_so bound account l low = ap (λ (above : Bool). not (ltb account 256) || above) (watched_tells bound l low).0

-- and raised it is a bound of the ledger that the call leaves
pub stays_bounded : (bound : ℕ) (c : Call) (m : Lent) (account : ℕ) (l : Ledger) → Bounded bound l
    → Bounded (raised (watched bound l.totals l.numbers)) (frame c m account l).ledger
unfolding frame
stays_bounded bound c m account l low = by (ltb limit known) refl
  where
    known : ℕ
    known = watched bound l.totals l.numbers

    still : Bounded known l
    still = (watched_tells bound l low).1

    by : (b : Bool) → ltb limit known ≡ b → Bounded (cond b known (known + 60000000)) (frame c m account l).ledger
    by true e =
        let full =
        sym (shut_so bound account l low) ∙ (ap (λ (above : Bool). not (ltb account 256) || above) e ∙
        or-true (not (ltb account 256))) in
        subst (λ (k : Ledger). Bounded known k) (sym (shut_leaves c m account l full)) still
    by false e = rises known c.device.busy c.signals (replied c (lengths_of c m) account l) account l still
        (short_so c m account l)

-- and no number says that words stand for nothing
pub never_255 : (c : Call) (m : Lent) (account : ℕ) (l : Ledger) → (frame c m account l).reply.refusal ≢ 255
unfolding frame replied
never_255 c m account l = by (shut_out c (lengths_of c m) account l)
  where
    by : (s : Bool) → (cond s (refused 9 c.device) (part.replied c (lengths_of c m))).refusal ≢ 255
    by true e = omega arith
    by false e = answers.call_never_255 c (lengths_of c m) e

-- the contract admits one answer, and no other
pub one_answer : (c : Call) (m n o : Lent) (account : ℕ) (l k j : Ledger) (a b : Came)
    → Meets c m account l (reply_of c.device a) n k
    → Meets c m account l (reply_of c.device b) o j → (a ≡ b) × (n ≡ o) × (k ≡ j)
one_answer c m n o account l k j a b p q =
    let e = p ∙ sym q in (
      answers.same_reply c.device a b (ap (λ (r : through.Result). r.reply) e),
      ap (λ (r : through.Result). r.lent) e,
      ap (λ (r : through.Result). r.ledger) e,
    )

-- and of any call that met its contract, by what it left
pub kept_bounded : (bound known after : ℕ) (c : Call) (m n : Lent) (account : ℕ) (l kept : Ledger) (r : Reply)
    → Bounded bound l
    → known ≡ watched bound l.totals l.numbers → after ≡ raised known → Meets c m account l r n kept
    → Bounded after kept
kept_bounded bound known after c m n account l kept r low e f met =
    rw (f ∙ ap raised e)
    (subst (λ (k : Ledger). Bounded (raised (watched bound l.totals l.numbers)) k)
    (sym (ap (λ (x : through.Result). x.ledger) met))
    (stays_bounded bound c m account l low))
