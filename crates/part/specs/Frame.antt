-- One call, one chip-select frame: what comes back and what the lent memories then hold, from what is handed in.
-- Assumes nothing.
use Rattle.std.specs.Prelude.{ℕ, Bool, cond, List, ◌≡◌, eqb, length, get_or, Result as OneOf, Ok, Err}
use Prim.Native.String.{String}
use Rattle.cells.specs.Each.{each, stored}
use Rattle.cells.specs.Range.{range}
use Rattle.device.specs.declared.Device.{Device}
use Rattle.settings.specs.declared.Settings.{Settings}
use Rattle.judge.specs.declared.Facts.{Facts}
use Rattle.judge.specs.declared.Judged.{Judged}
use Rattle.device.specs.Device.{is_busy, passed}
use Rattle.judge.specs.Causes.{words_in}
use Rattle.judge.specs.Judging.{judged}
use Rattle.calls.specs.declared.Lengths.{Lengths}
use Rattle.refusals.specs.declared.Refusal.{Refusal}
use Rattle.refusals.specs.Refusals.{number_of, number_in}
use Rattle.calls.specs.Address.{address_of}
use Rattle.calls.specs.Refusal.{bytes_for, refusal_of}
use Rattle.calls.specs.declared.Signals.{Signals}
use Rattle.calls.specs.declared as handed
use Rattle.part.specs.declared.Answer.{Answer}
use Rattle.part.specs.Words.{word_of, cause_in}
use Rattle.output.specs.Time.{standing}
use Rattle.operations.specs.declared.Range.{Range}
use Rattle.operations.specs.Operations.{cell_of, on_array, on_register, nowhere, range_of}
use Rattle.output.specs.Output.{store, read_at}

-- what a call is handed, beside the memories: the record, the settings, the input bytes, and the bits clocked, WP's
-- level, the ticks elapsed and the ticks per byte position
pub record Call : Type 0 where
  pub device : Device
  pub settings : Settings
  pub input : List ℕ
  pub signals : Signals

abbrev pub call : Device → Settings → List ℕ → Signals → Call
call device settings input signals = record { device = device; settings = settings; input = input; signals = signals }

-- the memories that it is lent
pub record Lent : Type 0 where
  pub array : List ℕ
  pub register : List ℕ
  pub output : List ℕ

abbrev pub lent : List ℕ → List ℕ → List ℕ → Lent
lent array register output = record { array = array; register = register; output = output }

-- what comes back, by the papers' number and words, with the range of the array that the call covered
pub record Reply : Type 0 where
  pub refusal : ℕ
  pub outcome : String
  pub cause : String
  pub first : ℕ
  pub driven : ℕ
  pub covered : Range
  pub device : Device

-- the result of a call: what comes back, and what the memories then hold
pub record Result : Type 0 where
  pub reply : Reply
  pub lent : Lent

abbrev pub lengths_of : Call → Lent → Lengths
lengths_of c m =
    record {
      array = length m.array;
      register = length m.register;
      input = length c.input;
      output = length
          m.output;
    }

-- the number of its refusal; 0 if there is none
unfoldable pub number_for : Call → Lengths → ℕ
number_for c lengths = number_in (refusal_of c.device c.settings c.signals lengths)

-- time passes first: the record at the frame's first bit
abbrev pub timed : Call → Device
timed c = passed c.device c.signals.elapsed

-- at the first bit of each position: every position before it has taken its ticks
abbrev pub stands_at : Call → ℕ → Device
stands_at c = standing (timed c) c.signals.pace

-- and at the rise: every position has, a partial last one too
abbrev pub risen : Call → Device
risen c = stands_at c (bytes_for c.signals.bits)

-- what judging needs to know is taken from the frame; whether the part is busy, at the first bit
abbrev pub facts_for : List ℕ → Signals → Bool → Facts
facts_for input signals busy =
    record {
      code = get_or input 0 0;
      second = get_or input 1 0;
      address = address_of input;
      bytes = length input;
      bits = signals.bits;
      wp = signals.wp;
      busy = busy;
    }

abbrev pub facts_of : Call → Facts
facts_of c = facts_for c.input c.signals (is_busy (timed c))

-- then the frame is judged, and does what it does at the rise
unfoldable pub judged_of : Call → Judged
judged_of c = judged (risen c) c.settings (facts_of c)

-- the range of the array that an accepted call covers
abbrev pub covered_by : Judged → Call → Lengths → Range
covered_by j c lengths = range_of (on_array j.action lengths.array c.input)

-- what comes back from an accepted call
abbrev pub answered : Judged → Range → Reply
answered j covered =
    record {
      refusal = 0;
      outcome = word_of j.outcome;
      cause = words_in (cause_in j.outcome);
      first = j.first;
      driven = j.driven;
      covered = covered;
      device
          = j.device;
    }

-- and from a refused one: its number, the record untouched, no cause, nothing driven, nothing covered
abbrev pub refused : ℕ → Device → Reply
refused number d =
    record {
      refusal = number;
      outcome = "nothing";
      cause = "none";
      first = 0;
      driven = 0;
      covered = nowhere;
      device = d;
    }

-- from a call that somebody above the part turns away, for a refusal of their own: the part's comes first. Of the
-- memories only the lengths bear on it
abbrev pub turned_away_by : ℕ → Call → Lengths → Reply
turned_away_by number c lengths =
    refused (cond (eqb (number_for c lengths) 0) number (number_for c lengths)) c.device

abbrev pub turned_away : ℕ → Call → Lent → Reply
turned_away number c m = turned_away_by number c (lengths_of c m)

-- what comes back: of the memories only the lengths bear on it
unfoldable pub replied : Call → Lengths → Reply
replied c lengths =
    cond (eqb (number_for c lengths) 0) (answered (judged_of c) (covered_by (judged_of c) c lengths))
    (refused (number_for c lengths) c.device)

-- what the memories then hold, by what was judged and how the record stood: the operations took effect, and of the
-- output the first n bytes are written
abbrev pub array_after : Judged → Call → Lent → List ℕ
array_after j c m = each (cell_of (on_array j.action (length m.array) c.input)) m.array

abbrev pub register_after : Judged → Call → Lent → List ℕ
register_after j c m = each (cell_of (on_register j.action c.input)) m.register

abbrev pub output_after : Judged → (ℕ → Device) → Call → Lent → List ℕ
output_after j stand c m =
    each
    (stored (range 0 (length c.input))
    (read_at j stand c.signals.wp c.signals.bits (store m.array) (store m.register) c.input))
    m.output

abbrev pub lent_by : Judged → (ℕ → Device) → Call → Lent → Lent
lent_by j stand c m = lent (array_after j c m) (register_after j c m) (output_after j stand c m)

abbrev pub lent_after : Call → Lent → Lent
lent_after c m = lent_by (judged_of c) (stands_at c) c m

-- an accepted call
abbrev pub served : Call → Lent → Result
served c m = record { reply = answered (judged_of c) (covered_by (judged_of c) c (lengths_of c m)); lent = lent_after c m }

-- one frame; a refused call leaves every byte that was lent as it was
unfoldable pub frame : Call → Lent → Result
frame c m =
    record {
      reply = replied c (lengths_of c m);
      lent = cond (eqb (number_for c (lengths_of c m)) 0) (lent_after c m) m;
    }

-- what the code is handed and lent
abbrev pub call_of : handed.Call.Call → Call
call_of c = call c.device c.settings c.input.now c.signals

abbrev pub lent_of : handed.Lent.Lent → Lent
lent_of m = lent m.array.now m.register.now m.output.now

-- what comes of a call of the code: its answer, or why it is refused
abbrev pub Came : Type 0
Came = OneOf Answer Refusal

-- by the papers' number and words; a refused call leaves the record d with its caller
abbrev pub reply_of : Device → Came → Reply
reply_of d (Ok a) =
    record {
      refusal = 0;
      outcome = word_of a.outcome;
      cause = words_in (cause_in a.outcome);
      first = a.first;
      driven = a.driven;
      covered = a.covered;
      device = a.device;
    }
reply_of d (Err refusal) = refused (number_of refusal) d

abbrev pub result_of : Device → Came → Lent → Result
result_of d came m = record { reply = reply_of d came; lent = m }

-- the contract of a call: what comes of it and what it leaves of the lent memories are the frame's
abbrev pub Meets : Call → Lent → Came → Lent → Type 0
Meets c before came after = result_of c.device came after ≡ frame c before
