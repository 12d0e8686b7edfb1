-- The table of opcodes: of each the fewest bytes that it needs, the first position that a read drives and the most
-- positions that it drives, whether it needs a byte boundary, the latch, whether a busy part answers it, whether one in
-- deep power-down does, and what it does. Assumes nothing.
use Rattle.std.specs.Prelude.{ℕ, ◌^◌, ◌-◌, Bool, true, false, cond, List, [], ◌∷◌, eqb}
use Rattle.opcodes.specs.declared.Row.{Row}
use Rattle.opcodes.specs.declared.Command.{Command}
use Rattle.opcodes.specs.declared.Command.TheVariants.{Unlisted, Reads, Orders, Works}
use Rattle.opcodes.specs.declared.Source.TheVariants.{Array, Register, Status, Identity, Legacy}
use Rattle.opcodes.specs.declared.Order.TheVariants.{Enable, Disable, DeepPowerDown, UltraDeepPowerDown, Resume}
use Rattle.opcodes.specs.declared.Order.TheVariants.{Reset}
use Rattle.opcodes.specs.declared.Region.TheVariants.{Page, Small, Large, Chip}
use Rattle.opcodes.specs.declared.Work.TheVariants.{Program, Erase, Otp, WriteStatus, WriteStatusTwo}

abbrev row : ℕ → ℕ → ℕ → ℕ → Bool → Bool → Bool → Bool → Command → Row
row code bytes first most boundary latch busy asleep command =
    record {
      code = code;
      bytes = bytes;
      first = first;
      most = most;
      boundary = boundary;
      latch = latch;
      busy = busy;
      asleep = asleep;
      command = command;
    }

-- as many positions as the frame has: none that is accepted has more
abbrev endless : ℕ
endless = 2 ^ 16 - 1

unfoldable pub rows : List Row
rows =
    --  code bytes first most boundary latch busy asleep
    row 0x03 1 4 endless false false false false (Reads Array) ∷
    row 0x0B 1 5 endless false false false false (Reads Array) ∷
    row 0x77 1 6 endless false false false false (Reads Register) ∷
    row 0x05 1 1 endless false false true false (Reads Status) ∷
    row 0x9F 1 1 4 false false false false (Reads Identity) ∷
    row 0x15 1 1 2 false false false false (Reads Legacy) ∷
    row 0x06 1 0 0 true false false false (Orders Enable) ∷
    row 0x04 1 0 0 true false false false (Orders Disable) ∷
    row 0xB9 1 0 0 true false false false (Orders DeepPowerDown) ∷
    row 0x79 1 0 0 true false false false (Orders UltraDeepPowerDown) ∷
    row 0xAB 1 0 0 false false false true (Orders Resume) ∷
    row 0xF0 2 0 0 true false true false (Orders Reset) ∷
    row 0x02 5 0 0 true true false false (Works Program) ∷
    row 0x81 4 0 0 true true false false (Works (Erase Page)) ∷
    row 0x20 4 0 0 true true false false (Works (Erase Small)) ∷
    row 0x52 4 0 0 true true false false (Works (Erase Large)) ∷
    row 0xD8 4 0 0 true true false false (Works (Erase Large)) ∷
    row 0x60 1 0 0 true true false false (Works (Erase Chip)) ∷
    row 0xC7 1 0 0 true true false false (Works (Erase Chip)) ∷
    row 0x62 1 0 0 true true false false (Works (Erase Chip)) ∷
    row 0x9B 5 0 0 true true false false (Works Otp) ∷
    row 0x01 2 0 0 true true false false (Works WriteStatus) ∷
    row 0x31 2 0 0 true true false false (Works WriteStatusTwo) ∷
    []

-- an opcode that is not listed
abbrev pub unlisted : ℕ → Row
unlisted code = row code 1 0 0 false false false false Unlisted

-- the first row of the list with that opcode
unfoldable pub lookup : List Row → ℕ → Row
lookup [] code = unlisted code
lookup (r ∷ rs) code = cond (eqb r.code code) r (lookup rs code)

unfoldable pub row_of : ℕ → Row
row_of code = lookup rows code
