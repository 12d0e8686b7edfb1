-- The session: a frame, its line, and the four of them. Assumes nothing.
use Rattle.std.specs.Prelude.{ℕ, ◌+◌, ◌*◌, ◌/◌, ◌%◌, true, cond, List, [], ◌∷◌, ◌++◌, ltb, length, take}
use Rattle.std.specs.List.{flat_map}
use Rattle.device.specs.declared.Device.{Device}
use Rattle.device.specs.Status.{status_one}
use Rattle.settings.specs.declared.Settings.{Settings}
use Rattle.part.specs.Frame.{Lent, Result, call, frame}

-- the letter of a digit: 0 to 9 from 30h on, A to F from 41h on
abbrev pub digit_of : ℕ → ℕ
digit_of value = cond (ltb value 10) (0x30 + value) (0x37 + value)

-- a frame of whole bytes, WP high, that takes no time
abbrev pub turn_of : Device → Settings → List ℕ → ℕ → Lent → Result
turn_of d s input elapsed m =
    frame (call d s input (record { bits = 8 * length input; wp = true; elapsed = elapsed; pace = 0 })) m

-- a byte in a line: its two digits, and a blank behind them
abbrev pub shown : ℕ → List ℕ
shown byte = digit_of (byte / 16) ∷ digit_of (byte % 16) ∷ 0x20 ∷ []

-- a line: the bytes of a frame, "> ", what the output reads, "ST ", status byte 1, and the end of the line
abbrev pub line : List ℕ → List ℕ → ℕ → List ℕ
line input output status =
    flat_map shown input ++ (0x3E ∷ 0x20 ∷ []) ++ flat_map shown output ++ (0x53 ∷ 0x54 ∷ 0x20 ∷ []) ++
    (digit_of (status / 16) ∷ digit_of (status % 16) ∷ 0x0A ∷ [])

-- the line of such a frame, which tells what the output then reads and status byte 1 with WP high
abbrev pub line_of : Device → Settings → List ℕ → ℕ → Lent → List ℕ
line_of d s input elapsed m =
    let done = turn_of d s input elapsed m in
    line input (take (length input) done.lent.output) (status_one done.reply.device true)

-- a write enable, a program that wraps in its page, a poll while it is busy, and a read that goes on into the next page
abbrev pub enable : List ℕ
enable = 0x06 ∷ []

abbrev pub program : List ℕ
program = 0x02 ∷ 0x00 ∷ 0x00 ∷ 0xFE ∷ 0x11 ∷ 0x22 ∷ 0x33 ∷ []

abbrev pub poll : List ℕ
poll = 0x05 ∷ 0x00 ∷ 0x00 ∷ []

abbrev pub read : List ℕ
read = 0x03 ∷ 0x00 ∷ 0x00 ∷ 0xFE ∷ 0x00 ∷ 0x00 ∷ 0x00 ∷ []

-- their lines, each of the frame on what the one before it left
unfoldable pub session : Device → Settings → Lent → List ℕ
session d s m =
    let enabled = turn_of d s enable 0 m in
    let busy = turn_of enabled.reply.device s program 1 enabled.lent in
    let polled = turn_of busy.reply.device s poll 1 busy.lent in
    line_of d s enable 0 m ++
    (line_of enabled.reply.device s program 1 enabled.lent ++
    (line_of busy.reply.device s poll 1 busy.lent ++ line_of polled.reply.device s read 2000 polled.lent))
