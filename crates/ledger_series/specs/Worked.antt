-- Series through a ledger, worked by hand with the typical durations: what comes back, and what record and ledger are
-- in the end. To compute them, judging is opened. Assumes nothing.
use Rattle.std.specs.Prelude.{ℕ, ◌*◌, Bool, true, false, List, [], ◌∷◌, map, ◌≡◌, length, replicate, set}
use Rattle.std.specs.Prelude.{Ok, Err}
use Rattle.device.specs.declared.Device.{Device}
use Rattle.device.specs.declared.Mode.TheVariants.{Awake}
use Rattle.settings.specs.Settings.{typical}
use Rattle.refusals.specs.declared.Refusal.{Refusal}
use Rattle.ledger.specs.Ledger.{Ledger, ledger, runs, nobody, empty, closed, reported}
use Rattle.ledger_series.specs.Entries.{Entry, Done, entry, calls, last_record, last_ledger}

-- a record with so many busy ticks left, awake and with no flag up
abbrev busy : ℕ → Device
busy ticks = record { bpl = false; bp0 = false; wel = false; rste = false; used = false; mode = Awake; busy = ticks }

-- a frame of whole bytes with WP high, for an account, so many ticks after the call before; each position takes so many
abbrev slow : ℕ → ℕ → ℕ → List ℕ → Entry
slow pace account elapsed input =
    entry
    (record {
      settings = typical;
      input = input;
      signals = record { bits = 8 * length input; wp = true; elapsed = elapsed; pace = pace };
      array = 131072;
      register = 128;
      output = length input;
    })
    account

abbrev sent : ℕ → ℕ → List ℕ → Entry
sent account elapsed input = slow 0 account elapsed input

-- a write enable that is lent so many bytes of output
abbrev given : ℕ → ℕ → Entry
given output account =
    entry
    (record {
      settings = typical;
      input = 0x06 ∷ [];
      signals = record { bits = 8; wp = true; elapsed = 0; pace = 0 };
      array = 131072;
      register = 128;
      output = output;
    })
    account

-- a status read of 11 bits, so many ticks a position
abbrev partial : ℕ → ℕ → Entry
partial pace account =
    entry
    (record {
      settings = typical;
      input = 0x05 ∷ 0x00 ∷ [];
      signals = record { bits = 11; wp = true; elapsed = 0; pace = pace };
      array = 131072;
      register = 128;
      output = 2;
    })
    account

abbrev poll : ℕ → ℕ → Entry
poll account elapsed = sent account elapsed (0x05 ∷ 0x00 ∷ [])

abbrev zeros : List ℕ
zeros = replicate 256 0

-- Account 7 erases the chip, 1,600,000 ticks, and hands over; account 12 polls until it is done, and after.
abbrev polled_by_another : List Entry
polled_by_another =
    sent 7 0 (0x06 ∷ []) ∷
    sent 7 0 (0xC7 ∷ []) ∷
    poll 12 1000000 ∷
    poll 12 599999 ∷
    poll 12 1 ∷
    poll 12 5000 ∷
    []

-- Account 7 tries it without a write enable, and account 12 polls.
abbrev never_latched : List Entry
never_latched = sent 7 0 (0xC7 ∷ []) ∷ poll 12 1000000 ∷ sent 7 0 (0xC7 ∷ []) ∷ poll 12 1000000 ∷ []

-- Account 3 sets RSTE and erases 4 KiB, 50,000 ticks. Account 9 sends a reset that is refused, at 1,001 ticks a
-- position, and then one that is not: 100 ticks before it and 5 at each of its two positions are account 3's. What
-- passes then is nobody's. Account 9 programs a byte, 12 ticks, of which 5 pass.
abbrev stopped_by_a_reset : List Entry
stopped_by_a_reset =
    sent 3 0 (0x06 ∷ []) ∷
    sent 3 0 (0x31 ∷ 0x10 ∷ []) ∷
    sent 3 0 (0x06 ∷ []) ∷
    sent 3 0 (0x20 ∷ 0x00 ∷ 0x10 ∷ 0x00 ∷ []) ∷
    slow 1001 9 70 (0xF0 ∷ 0xD0 ∷ []) ∷
    slow 5 9 100 (0xF0 ∷ 0xD0 ∷ []) ∷
    poll 9 90000 ∷
    sent 9 0 (0x06 ∷ []) ∷
    slow 100 9 7 (0x02 ∷ 0x00 ∷ 0x00 ∷ 0x00 ∷ 0x5A ∷ []) ∷
    poll 3 5 ∷
    []

-- 20 ticks are left in the first record: 15 and then the other 5 pass and are nobody's, though account 4 calls. Of its
-- program 2 are billed.
abbrev first_record : List Entry
first_record = poll 4 15 ∷ sent 4 10 (0x06 ∷ []) ∷ sent 4 0 (0x02 ∷ 0x00 ∷ 0x00 ∷ 0x00 ∷ 0x5A ∷ []) ∷ poll 5 2 ∷ []

-- A status write, 20,000 ticks, and an OTP program, 400, are operations; a write of status byte 2 is none.
abbrev two_operations : List Entry
two_operations =
    sent 255 0 (0x06 ∷ []) ∷
    sent 255 0 (0x01 ∷ 0x00 ∷ []) ∷
    poll 0 20000 ∷
    sent 255 0 (0x06 ∷ []) ∷
    sent 255 0 (0x9B ∷ 0x00 ∷ 0x00 ∷ 0x00 ∷ 0x11 ∷ []) ∷
    sent 0 400 (0x06 ∷ []) ∷
    sent 0 0 (0x31 ∷ 0x10 ∷ []) ∷
    []

-- the numbers that come back
abbrev answered : List Entry → Device → Ledger → List ℕ
answered es d l = map (λ (c : Done). c.reply.refusal) (calls es d l)

-- a ledger in which one account's total, or its number, is this
abbrev total_of : ℕ → ℕ → Ledger
total_of account ticks = ledger (set zeros account ticks) zeros zeros nobody

abbrev number_of : ℕ → ℕ → Ledger
number_of account n = ledger zeros zeros (set zeros account n) nobody

-- A write enable for account 7, then one for account 256: 0, or 9 where the ledger is shut, and always 9.
abbrev two_calls : List Entry
two_calls = given 1 7 ∷ given 1 256 ∷ []

-- a record with WEL 1, and one with WEL 0
abbrev latched : Bool → Device
latched wel = record { bpl = false; bp0 = false; wel = wel; rste = false; used = false; mode = Awake; busy = 0 }

-- Account 0 erases a page, 7,000 ticks, and polls past its end: 9,000 ticks pass, 7,000 are billed. A program that is
-- aborted begins nothing. It programs two bytes, 2,000 ticks, and one byte, 12: the largest bill stays 7,000.
abbrev past_the_end : List Entry
past_the_end =
    sent 0 0 (0x06 ∷ []) ∷
    sent 0 0 (0x81 ∷ 0x00 ∷ 0x00 ∷ 0x00 ∷ []) ∷
    poll 9 9000 ∷
    sent 0 0 (0x06 ∷ []) ∷
    sent 0 0 (0x02 ∷ 0x00 ∷ 0x00 ∷ 0x00 ∷ []) ∷
    poll 9 50 ∷
    sent 0 0 (0x06 ∷ []) ∷
    sent 0 0 (0x02 ∷ 0x00 ∷ 0x00 ∷ 0x00 ∷ 0x11 ∷ 0x22 ∷ []) ∷
    sent 0 3000 (0x06 ∷ []) ∷
    sent 0 0 (0x02 ∷ 0x00 ∷ 0x00 ∷ 0x00 ∷ 0x11 ∷ []) ∷
    poll 0 20 ∷
    []

-- In an hour that account 12 began with a bill of 700, account 5's operation runs, billed 30 so far, and 100 ticks are
-- left. Account 12 polls with 11 bits at 4 ticks a position: 8 ticks. It programs one byte when all has passed: 92 more
-- are account 5's, and 12 its own.
abbrev a_running_one : Ledger
a_running_one =
    ledger (set (set zeros 5 40) 12 700) (set (set zeros 5 30) 12 700) (set (set zeros 5 2) 12 1) (runs 5 30)

abbrev over_the_border : List Entry
over_the_border =
    partial 4 12 ∷ sent 12 500 (0x06 ∷ []) ∷ sent 12 0 (0x02 ∷ 0x00 ∷ 0x00 ∷ 0x00 ∷ 0x5A ∷ []) ∷ poll 12 12 ∷ []

pub record Worked : Type 0 where
  -- refusal 9, after all others: a total or a number above the limit, whoever's, and an account that there is not; the
  -- ledger stays
  pub at_the_limit : answered two_calls (latched false) (total_of 255 9000000000000000000) ≡ 0 ∷ 9 ∷ []
  pub total_above : answered two_calls (latched false) (total_of 254 9000000000000000001) ≡ 9 ∷ 9 ∷ []
  pub first_above : answered two_calls (latched false) (total_of 0 9000000000000000001) ≡ 9 ∷ 9 ∷ []
  pub last_above : answered two_calls (latched false) (total_of 255 18446744073709551615) ≡ 9 ∷ 9 ∷ []
  pub number_at_the_limit : answered two_calls (latched false) (number_of 0 9000000000000000000) ≡ 0 ∷ 9 ∷ []
  pub number_above : answered two_calls (latched false) (number_of 255 9000000000000000001) ≡ 9 ∷ 9 ∷ []
  pub most_is_free : answered two_calls (latched false) (ledger zeros (set zeros 3 18446744073709551615) zeros nobody)
      ≡ 0 ∷ 9 ∷ []
  pub others_first : answered (given 0 7 ∷ given 0 256 ∷ given 1 255 ∷ []) (latched false)
      (total_of 1 9000000000000000001) ≡ 5 ∷ 5 ∷ 9 ∷ []
  pub shut_out : map (λ (c : Done). c.reply) (calls (given 1 256 ∷ []) (latched false) empty)
      ≡ record {
        refusal = 9;
        outcome = "nothing";
        cause = "none";
        first = 0;
        driven = 0;
        covered = record { from = 0; to = 0 };
        device = latched
            false;
      } ∷ []
  pub not_latched : last_record two_calls (latched false) (total_of 0 9000000000000000001) ≡ latched false
  pub latched_once : last_record two_calls (latched false) (number_of 0 9000000000000000000) ≡ latched true
  pub stays_above : last_ledger two_calls (latched false) (total_of 0 9000000000000000001)
      ≡ total_of 0 9000000000000000001
  -- an accepted call that begins nothing books nothing, and account 255 may call
  pub stays_at_the_limit : last_ledger (given 1 255 ∷ []) (latched false) (number_of 0 9000000000000000000)
      ≡ number_of 0 9000000000000000000
  -- what is billed ends with the operation, and the most is the largest bill
  pub past : last_ledger past_the_end (busy 0) empty
      ≡ ledger (set zeros 0 9012) (set zeros 0 7000) (set zeros 0 3) nobody
  -- from a ledger in which something runs: 40 and 100 are 140, 30 and 100 are 130
  pub border : last_ledger over_the_border (busy 100) a_running_one
      ≡ ledger (set (set zeros 5 140) 12 712) (set (set zeros 5 130) 12 700) (set (set zeros 5 2) 12 2) nobody
  pub border_partly : last_ledger (partial 4 12 ∷ []) (busy 100) a_running_one
      ≡ ledger (set (set zeros 5 48) 12 700) (set (set zeros 5 38) 12 700) (set (set zeros 5 2) 12 1) (runs 5 38)
  -- the month closed before: 100 ticks are one bill of the new month, and no operation of it
  pub new_month : last_ledger over_the_border (busy 100) (closed a_running_one)
      ≡ ledger (set (set zeros 5 100) 12 12) (set (set zeros 5 100) 12 12) (set zeros 12 1) nobody
  pub new_month_partly : last_ledger (partial 4 12 ∷ []) (busy 100) (closed a_running_one)
      ≡ ledger (set zeros 5 8) (set zeros 5 8) zeros (runs 5 8)
  pub closed_is : closed a_running_one ≡ ledger zeros zeros zeros (runs 5 0)
  -- what was billed so far stops at the largest number of 64 bits
  pub largest_number : last_ledger (poll 7 10 ∷ []) (busy 12) (ledger zeros zeros zeros (runs 9 18446744073709551611))
      ≡ ledger (set zeros 9 10) (set zeros 9 18446744073709551615) zeros (runs 9 18446744073709551615)
  -- an account over 255 is nobody, whatever stands there
  pub nobody_runs : last_ledger (poll 7 10 ∷ []) (busy 12) (ledger zeros zeros zeros (runs 256 5))
      ≡ ledger zeros zeros zeros (runs 256 5)
  -- the report on an account, and on one that there is not
  pub report : reported 7 (set zeros 7 1000012) (set zeros 7 1000000) (set zeros 7 2)
      ≡ Ok (record { total = 1000012; most = 1000000; number = 2 })
  pub report_last : reported 255 (set zeros 255 3) (set zeros 255 2) (set zeros 255 1)
      ≡ Ok (record { total = 3; most = 2; number = 1 })
  pub report_other : reported 0 (set zeros 7 1000012) (set zeros 7 1000000) (set zeros 7 2)
      ≡ Ok (record { total = 0; most = 0; number = 0 })
  pub no_report : reported 256 (set zeros 7 1000012) (set zeros 7 1000000) (set zeros 7 2)
      ≡ Err Refusal.Account
  pub first_million : last_ledger (sent 7 0 (0x06 ∷ []) ∷ sent 7 0 (0xC7 ∷ []) ∷ poll 12 1000000 ∷ []) (busy 0) empty
      ≡ ledger (set zeros 7 1000000) (set zeros 7 1000000) (set zeros 7 1) (runs 7 1000000)
  pub all_day : last_ledger polled_by_another (busy 0) empty
      ≡ ledger (set zeros 7 1600000) (set zeros 7 1600000) (set zeros 7 1) nobody
  pub nothing : last_ledger never_latched (busy 0) empty ≡ empty
  pub reset : last_ledger stopped_by_a_reset (busy 0) empty
      ≡ ledger (set (set zeros 3 110) 9 5) (set (set zeros 3 110) 9 5) (set (set zeros 3 1) 9 1) (runs 9 5)
  pub nobodys : last_ledger first_record (busy 20) empty
      ≡ ledger (set zeros 4 2) (set zeros 4 2) (set zeros 4 1) (runs 4 2)
  pub both : last_ledger two_operations (busy 0) empty
      ≡ ledger (set zeros 255 20400) (set zeros 255 20000) (set zeros 255 2) nobody
