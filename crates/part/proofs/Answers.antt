-- The contract of a frame admits one answer, and no other: number and words tell the cases apart. Assumes nothing.
use Prim.Native.Nat.{ℕ}
use Prim.Native.String.{String}
use mathlib.Core.Bool.{Bool, true, false, cond, false≢true}
use mathlib.Core.Logic.{◌≢◌}
use mathlib.Core.Path.{◌≡◌, refl, sym, ap, ◌∙◌}
use borrow.Author.Tests.{eqb-true, ne_eqb}
use lib.Dec.{eqb}
use lib.Text.{eqt}
use native.Mathlib.Omega.{arith}
use Rattle.std.specs.Prelude.{Result as OneOf, Ok, Err, Option, Some, None}
use Rattle.device.specs.declared.Device.{Device}
use Rattle.judge.specs.declared.Cause.{Cause}
use Rattle.judge.specs.declared.Cause.TheVariants.{TooFewBits, Asleep, Busy, UnknownOpcode, LatchClear}
use Rattle.judge.specs.declared.Cause.TheVariants.{ResetUnconfirmed, OffBoundary, Incomplete, Protected, Locked}
use Rattle.judge.specs.declared.Cause.TheVariants.{AlreadyProgrammed, AlreadyAwake}
use Rattle.judge.specs.declared.Outcome.{Outcome}
use Rattle.judge.specs.Causes.{words_in}
use Rattle.refusals.specs.declared.Refusal.{Refusal}
use Rattle.calls.specs.declared.Lengths.{Lengths}
use Rattle.numbers.proofs.Tells.{tells}
use Rattle.refusals.specs.Refusals.{number_in}
use Rattle.refusals.proofs.Numbers.{number_tells, never_0, in_never_255}
use Rattle.calls.specs.Refusal.{refusal_of}
use Rattle.calls.proofs.Refused.{not_the_ledgers}
use Rattle.operations.specs.declared.Range.{Range}
use Rattle.part.specs.declared.Answer.{Answer}
use Rattle.part.specs.Words.{word_of, cause_in}
use Rattle.part.specs.Frame.{Call, Lent, Reply, Result, lengths_of, number_for, judged_of, covered_by, answered}
use Rattle.part.specs.Frame.{refused, replied, frame, Came, reply_of, result_of, Meets}

-- the cause of its words, if they are a cause's, and the outcome of its word with a cause
cause_from : String → Option Cause
cause_from words =
    cond (eqt words "too few bits") (Some TooFewBits)
    (cond (eqt words "asleep") (Some Asleep)
    (cond (eqt words "busy") (Some Busy)
    (cond (eqt words "unknown opcode") (Some UnknownOpcode)
    (cond (eqt words "latch clear") (Some LatchClear)
    (cond (eqt words "reset not enabled or not confirmed") (Some ResetUnconfirmed)
    (cond (eqt words "off boundary") (Some OffBoundary)
    (cond (eqt words "incomplete") (Some Incomplete)
    (cond (eqt words "protected") (Some Protected)
    (cond (eqt words "locked") (Some Locked)
    (cond (eqt words "already programmed") (Some AlreadyProgrammed)
    (cond (eqt words "already awake") (Some AlreadyAwake)
    None)))))))))))

outcome_from : String → Option Cause → Outcome
outcome_from word (Some cause) = cond (eqt word "nothing") (Outcome.Nothing cause) (Outcome.Aborted cause)
outcome_from word None = cond (eqt word "read") Outcome.Read (cond (eqt word "control") Outcome.Control Outcome.Begun)

cause_back : (cause : Option Cause) → cause_from (words_in cause) ≡ cause
unfolding cause_from
cause_back None = refl
cause_back (Some TooFewBits) = refl
cause_back (Some Asleep) = refl
cause_back (Some Busy) = refl
cause_back (Some UnknownOpcode) = refl
cause_back (Some LatchClear) = refl
cause_back (Some ResetUnconfirmed) = refl
cause_back (Some OffBoundary) = refl
cause_back (Some Incomplete) = refl
cause_back (Some Protected) = refl
cause_back (Some Locked) = refl
cause_back (Some AlreadyProgrammed) = refl
cause_back (Some AlreadyAwake) = refl

outcome_back : (o : Outcome) → outcome_from (word_of o) (cause_in o) ≡ o
unfolding outcome_from
outcome_back (Outcome.Nothing cause) = refl
outcome_back Outcome.Read = refl
outcome_back Outcome.Control = refl
outcome_back (Outcome.Aborted cause) = refl
outcome_back Outcome.Begun = refl

pub cause_tells : (a b : Option Cause) → words_in a ≡ words_in b → a ≡ b
cause_tells = tells words_in cause_from cause_back

words_tell : (a b : Outcome) → word_of a ≡ word_of b → words_in (cause_in a) ≡ words_in (cause_in b) → a ≡ b
words_tell a b w c =
    sym (outcome_back a) ∙
    (ap (λ (word : String). outcome_from word (cause_in a)) w ∙
    (ap (outcome_from (word_of b)) (cause_tells (cause_in a) (cause_in b) c) ∙ outcome_back b))

pub begun_tells : (o : Outcome) → word_of o ≡ "begun" → o ≡ Outcome.Begun
begun_tells o e = by o (ap (λ (word : String). eqt word "begun") e)
  where
    by : (o : Outcome) → eqt (word_of o) "begun" ≡ true → o ≡ Outcome.Begun
    by (Outcome.Nothing cause) e = absurd (false≢true e)
    by Outcome.Read e = absurd (false≢true e)
    by Outcome.Control e = absurd (false≢true e)
    by (Outcome.Aborted cause) e = absurd (false≢true e)
    by Outcome.Begun e = refl

-- an answer made of its fields
made : Outcome → ℕ → ℕ → Range → Device → Answer
made outcome first driven covered device =
    record { outcome = outcome; first = first; driven = driven; covered = covered; device = device }

same_answer : (a b : Answer) → a.outcome ≡ b.outcome → a.first ≡ b.first → a.driven ≡ b.driven → a.covered ≡ b.covered
    → a.device ≡ b.device → a ≡ b
unfolding made
same_answer a b q r s t u =
    let e : made a.outcome a.first a.driven a.covered a.device ≡ made b.outcome b.first b.driven b.covered b.device = rw (q, r, s, t, u) in
    e

-- what comes of a call is told by its number and words
pub same_reply : (d : Device) (a b : Came) → reply_of d a ≡ reply_of d b → a ≡ b
same_reply d (Ok a) (Ok b) e =
    ap Ok
    (same_answer a b (words_tell a.outcome b.outcome (ap (λ (r : Reply). r.outcome) e) (ap (λ (r : Reply). r.cause) e))
    (ap (λ (r : Reply). r.first) e) (ap (λ (r : Reply). r.driven) e) (ap (λ (r : Reply). r.covered) e)
    (ap (λ (r : Reply). r.device) e))
same_reply d (Ok a) (Err t) e = absurd (never_0 t (sym (ap (λ (r : Reply). r.refusal) e)))
same_reply d (Err s) (Ok b) e = absurd (never_0 s (ap (λ (r : Reply). r.refusal) e))
same_reply d (Err s) (Err t) e = ap Err (number_tells s t (ap (λ (r : Reply). r.refusal) e))

-- there is no other answer
pub one_answer : (c : Call) (m : Lent) (a b : Came) (n o : Lent) → Meets c m a n → Meets c m b o → (a ≡ b) × (n ≡ o)
one_answer c m a b n o p q =
    let e : result_of c.device a n ≡ result_of c.device b o = p ∙ sym q in
    (same_reply c.device a b (ap (λ (r : Result). r.reply) e), ap (λ (r : Result). r.lent) e)

-- what comes back carries the number of the call
pub refusal_is : (c : Call) (lengths : Lengths) → (replied c lengths).refusal ≡ number_for c lengths
unfolding replied
refusal_is c lengths = by (eqb (number_for c lengths) 0) (eqb-true (number_for c lengths) 0)
  where
    by : (b : Bool) → (b ≡ true → number_for c lengths ≡ 0) → (cond b (answered (judged_of c) (covered_by (judged_of c) c lengths)) (refused (number_for c lengths) c.device)).refusal ≡ number_for c lengths
    by true z = sym (z refl)
    by false z = refl

-- a number that is not 0 is not that of an accepted call
pub not_accepted : (c : Call) (lengths : Lengths) → (replied c lengths).refusal ≢ 0 → eqb (number_for c lengths) 0 ≡ false
not_accepted c lengths n = ne_eqb (number_for c lengths) 0 (λ e. n (refusal_is c lengths ∙ e))

-- why a call is refused
abbrev why : Call → Lengths → OneOf (Unit {0}) Refusal
why c lengths = refusal_of c.device c.settings c.signals lengths

-- what comes of a call: why it is refused, or else the answer
came_by : OneOf (Unit {0}) Refusal → Answer → Came
came_by (Ok u) a = Ok a
came_by (Err refusal) a = Err refusal

reply_by : (w : OneOf (Unit {0}) Refusal) (d : Device) (a : Answer)
    → reply_of d (came_by w a) ≡ cond (eqb (number_in w) 0) (reply_of d (Ok a)) (refused (number_in w) d)
unfolding came_by
reply_by (Ok u) d a = refl
reply_by (Err refusal) d a = rw (ne_eqb _ _ (never_0 refusal))

-- and there is one answer
pub answer_of : Call → Lengths → Came
answer_of c lengths =
    let j = judged_of c in
    came_by (why c lengths) (made j.outcome j.first j.driven (covered_by j c lengths) j.device)

pub some_answer : (c : Call) (m : Lent) → Meets c m (answer_of c (lengths_of c m)) (frame c m).lent
unfolding answer_of made frame replied number_for
some_answer c m =
    ap (λ (r : Reply). record { reply = r; lent = (frame c m).lent })
    (reply_by (why c (lengths_of c m)) c.device
    (made (judged_of c).outcome (judged_of c).first (judged_of c).driven (covered_by (judged_of c) c (lengths_of c m)) (judged_of c).device))

-- a refused call leaves the record and every lent byte
pub refused_leaves : (c : Call) (m : Lent) → (frame c m).reply.refusal ≢ 0 → ((frame c m).reply.device ≡ c.device) × ((frame c m).lent ≡ m)
unfolding frame replied
refused_leaves c m n = let e = not_accepted c (lengths_of c m) n in (rw e, rw e)

-- the number of a call is never the ledger's
pub never_9 : (c : Call) (lengths : Lengths) → (replied c lengths).refusal ≢ 9
unfolding number_for
never_9 c lengths e = not_the_ledgers c.device c.settings c.signals lengths (told (why c lengths) (sym (refusal_is c lengths) ∙ e))
  where
    told : (w : OneOf (Unit {0}) Refusal) → number_in w ≡ 9 → w ≡ Err Refusal.Account
    told (Ok u) e = absurd (omega (arith, e))
    told (Err refusal) e = ap Err (number_tells refusal Refusal.Account e)

-- nor the one that says that words stand for nothing
pub call_never_255 : (c : Call) (lengths : Lengths) → (replied c lengths).refusal ≢ 255
unfolding number_for
call_never_255 c lengths e = in_never_255 (why c lengths) (sym (refusal_is c lengths) ∙ e)
