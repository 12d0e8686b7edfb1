-- Words to write worked rows with. A record is said in full, so that no definition of a step has a part in it. Assumes
-- nothing.
use Rattle.std.specs.Prelude.{ℕ, zero, suc, ◌+◌, ◌-◌, ◌*◌, ◌%◌, Bool, true, false, List, [], ◌∷◌, ◌++◌, map, length}
use Rattle.std.specs.Prelude.{replicate}
use Prim.Native.String.{String}
use Rattle.device.specs.declared.Device.{Device}
use Rattle.device.specs.declared.Mode.{Mode}
use Rattle.device.specs.declared.Mode.TheVariants.{Awake}
use Rattle.settings.specs.Settings.{typical}
use Rattle.operations.specs.declared.Range.{Range}
use Rattle.operations.specs.Operations.{span, nowhere}
use Rattle.worked.specs.Worked.{Sent, Came, Exchange, Piece, Content, Row, canary}

-- a record: BPL, BP0, WEL, RSTE, the OTP-used mark, the mode and the busy ticks
abbrev pub held : Bool → Bool → Bool → Bool → Bool → Mode → ℕ → Device
held bpl bp0 wel rste used mode busy =
    record { bpl = bpl; bp0 = bp0; wel = wel; rste = rste; used = used; mode = mode; busy = busy }

-- BPL, BP0, WEL and the busy ticks; RSTE and the OTP-used mark clear, awake
abbrev pub stands : Bool → Bool → Bool → ℕ → Device
stands bpl bp0 wel busy = held bpl bp0 wel false false Awake busy

-- nothing protected: idle, write-enabled, or busy
abbrev pub idle : Device
idle = stands false false false 0

abbrev pub enabled : Device
enabled = stands false false true 0

abbrev pub busy : ℕ → Device
busy ticks = stands false false false ticks

-- BPL 1 and BP0 0, the OTP-used mark and RSTE 1, and the busy ticks
abbrev pub worn : ℕ → Device
worn ticks = held true false false true true Awake ticks

-- so many bytes, each one more than the one before it, modulo 256
unfoldable pub counting : ℕ → ℕ → List ℕ
counting first zero = []
counting first (suc n) = first % 256 ∷ counting (suc first) n

-- a frame of so many bits, with WP high, that takes no time and is lent a byte more of output than it has; of whole
-- bytes; of whole bytes with WP low
abbrev pub clocked : ℕ → List ℕ → ℕ → Sent
clocked bits bytes elapsed =
    record { bytes = bytes; bits = bits; wp = true; elapsed = elapsed; pace = 0; room = length bytes + 1 }

abbrev pub whole : List ℕ → ℕ → Sent
whole bytes elapsed = clocked (8 * length bytes) bytes elapsed

-- the same frame with WP at a level, or low; with so many ticks for each of its positions; with so many bytes of output
abbrev pub levelled : Bool → Sent → Sent
levelled wp s =
    record { bytes = s.bytes; bits = s.bits; wp = wp; elapsed = s.elapsed; pace = s.pace; room = s.room }

abbrev pub pulled : Sent → Sent
pulled s = levelled false s

abbrev pub paced : ℕ → Sent → Sent
paced pace s =
    record { bytes = s.bytes; bits = s.bits; wp = s.wp; elapsed = s.elapsed; pace = pace; room = s.room }

abbrev pub given : ℕ → Sent → Sent
given room s =
    record { bytes = s.bytes; bits = s.bits; wp = s.wp; elapsed = s.elapsed; pace = s.pace; room = room }

abbrev pub low : List ℕ → ℕ → Sent
low bytes elapsed = pulled (whole bytes elapsed)

-- some frames of whole bytes, one straight after the other
abbrev pub wholes : List (List ℕ) → List Sent
wholes frames = map (λ (bytes : List ℕ). whole bytes 0) frames

-- what comes back: the number, the outcome and its cause, the driven positions, the range of the array that was
-- covered, and the record
abbrev replies : ℕ → String → String → ℕ → ℕ → Range → Device → List ℕ → Came
replies number outcome cause first driven covered d output =
    record {
      reply =
          record {
            refusal = number;
            outcome = outcome;
            cause = cause;
            first = first;
            driven = driven;
            covered = covered;
            device = d;
          };
      output = output;
    }

-- while opcode and address are clocked nothing is driven
abbrev pub header : List ℕ
header = 0xFF ∷ 0xFF ∷ 0xFF ∷ 0xFF ∷ []

-- from an accepted call that covers nothing, with the outcome and its cause; of a buffer that is no longer than the
-- frame
abbrev pub filled : String → String → ℕ → ℕ → Device → List ℕ → Came
filled outcome cause first driven d output = replies 0 outcome cause first driven nowhere d output

-- the same of a buffer whose byte after the frame's last is not written; an outcome that has no cause
abbrev pub came : String → ℕ → ℕ → Device → List ℕ → Came
came outcome first driven d output = filled outcome "none" first driven d (output ++ (canary ∷ []))

-- nothing driven, n bytes of FFh: an outcome that has no cause; nothing, or aborted, for a cause
abbrev pub quiet : String → Device → ℕ → Came
quiet outcome d n = came outcome 0 0 d (replicate n 0xFF)

abbrev pub nothing : String → Device → ℕ → Came
nothing cause d n = filled "nothing" cause 0 0 d (replicate n 0xFF ++ (canary ∷ []))

abbrev pub aborted : String → Device → ℕ → Came
aborted cause d n = filled "aborted" cause 0 0 d (replicate n 0xFF ++ (canary ∷ []))

-- an operation on the array was begun that covers the places from `from` up to `to`
abbrev pub begun : ℕ → ℕ → Device → ℕ → Came
begun from to d n = replies 0 "begun" "none" 0 0 (span from to) d (replicate n 0xFF ++ (canary ∷ []))

-- from a refused one: no cause, the record as it came in, and the bytes lent as they were: so many, or n and one more
abbrev pub spared : ℕ → Device → ℕ → Came
spared number d room = replies number "nothing" "none" 0 0 nowhere d (replicate room canary)

abbrev pub refused : ℕ → Device → ℕ → Came
refused number d n = spared number d (n + 1)

infixr 5 ◌⇒◌
abbrev pub ◌⇒◌ : Sent → Came → Exchange
◌⇒◌ sent came = record { sent = sent; came = came }

-- each of some frames is answered alike and quietly, and the record stays
unfoldable pub unmoved : (Device → ℕ → Came) → Device → List Sent → List Exchange
unmoved alike d [] = []
unmoved alike d (sent ∷ frames) = (sent ⇒ alike d (length sent.bytes)) ∷ unmoved alike d frames

-- each of some frames, of whose last byte so many bits are not clocked, is aborted for a cause and drops WEL, which 06
-- then sets again; WP is high or low
unfoldable pub aborting : String → Bool → ℕ → Device → Device → List (List ℕ) → List Exchange
aborting cause wp cut enabled dropped [] = []
aborting cause wp cut enabled dropped (bytes ∷ frames) =
    (levelled wp (clocked (8 * length bytes - cut) bytes 0) ⇒ aborted cause dropped (length bytes)) ∷
    (levelled wp (whole (0x06 ∷ []) 0) ⇒ quiet "control" enabled 1) ∷
    aborting cause wp cut enabled dropped frames

-- 79h leads to ultra-deep power-down, and each of some frames leads back
unfoldable pub rousing : Device → Device → List (List ℕ) → List Exchange
rousing awake asleep [] = []
rousing awake asleep (bytes ∷ frames) =
    (whole (0x79 ∷ []) 0 ⇒ quiet "control" asleep 1) ∷
    (whole bytes 0 ⇒ quiet "control" awake (length bytes)) ∷
    rousing awake asleep frames

-- a range that holds one value; one whose bytes count from a value on; some bytes from a place on
abbrev pub piece : ℕ → ℕ → ℕ → Piece
piece from to value = record { from = from; to = to; value = value; step = 0 }

abbrev pub rising : ℕ → ℕ → ℕ → Piece
rising from to value = record { from = from; to = to; value = value; step = 1 }

unfoldable pub bytes : ℕ → List ℕ → List Piece
bytes from [] = []
bytes from (b ∷ bs) = piece from (suc from) b ∷ bytes (suc from) bs

-- a row on the whole array with the typical times; the user's half of the register holds FFh, the factory's 80h and on,
-- and both stay
abbrev pub row : Device → ℕ → List Exchange → List Piece → Row
row d holds exchanges after =
    record {
      settings = typical;
      device = d;
      array = record { size = 131072; holds = holds; pieces = [] };
      register = record { size = 128; holds = 0xFF; pieces = rising 64 128 0x80 ∷ [] };
      exchanges = exchanges;
      array_after = after;
      register_after = [];
    }

-- the same row with other durations; on an array of another size; with an array that holds pieces at first
abbrev pub lasting : List ℕ → Row → Row
lasting ticks r =
    record {
      settings = record { ticks = ticks };
      device = r.device;
      array = r.array;
      register = r.register;
      exchanges = r.exchanges;
      array_after = r.array_after;
      register_after = r.register_after;
    }

abbrev arrayed : Content → Row → Row
arrayed array r =
    record {
      settings = r.settings;
      device = r.device;
      array = array;
      register = r.register;
      exchanges = r.exchanges;
      array_after = r.array_after;
      register_after = r.register_after;
    }

abbrev pub sized : ℕ → Row → Row
sized size r = arrayed (record { size = size; holds = r.array.holds; pieces = r.array.pieces }) r

abbrev pub holding : List Piece → Row → Row
holding pieces r = arrayed (record { size = r.array.size; holds = r.array.holds; pieces = pieces }) r

-- with a register of so many bytes that holds pieces at first, and other pieces afterwards
abbrev pub registered : ℕ → List Piece → List Piece → Row → Row
registered size pieces after r =
    record {
      settings = r.settings;
      device = r.device;
      array = r.array;
      register = record { size = size; holds = 0xFF; pieces = pieces };
      exchanges = r.exchanges;
      array_after = r.array_after;
      register_after = after;
    }
