-- What each row of the table keeps to, by what its opcode does. Assumes nothing.
use Rattle.std.specs.Prelude.{ℕ, Bool, true, false, cond, not, ◌&&◌, leb, eqb}
use Rattle.std.specs.Bool.{beq}
use Rattle.opcodes.specs.declared.Row.{Row}
use Rattle.opcodes.specs.declared.Command.{Command}
use Rattle.opcodes.specs.declared.Command.TheVariants.{Unlisted, Reads, Orders, Works}
use Rattle.opcodes.specs.declared.Order.{Order}
use Rattle.opcodes.specs.declared.Source.{Source}
use Rattle.opcodes.specs.declared.Source.TheVariants.{Array, Register, Status, Identity, Legacy}
use Rattle.opcodes.specs.Kinds.{resetting, resuming, resumes}

-- it drives no position
abbrev silent : Row → Bool
silent r = eqb r.most 0

-- of the reads a busy part answers that of the status
abbrev pub read_while_busy : Source → Bool
read_while_busy Array = false
read_while_busy Register = false
read_while_busy Status = true
read_while_busy Identity = false
read_while_busy Legacy = false

-- of the control commands the reset
abbrev pub ordered_while_busy : Order → Bool
ordered_while_busy order = resetting order

-- a part that is awake ignores a resume, whatever its bits; every other control command needs a boundary
abbrev pub ordered_on_boundary : Order → Bool
ordered_on_boundary order = not (resuming order)

-- and no byte but its opcode; a reset one that confirms it
abbrev pub ordered_bytes : Order → ℕ
ordered_bytes order = cond (resetting order) 2 1

abbrev pub rule_of : Command → Row → Bool
-- an opcode that is not listed has no effect of its own
rule_of Unlisted r = not r.latch && not r.busy && silent r
-- reads need no boundary, no latch and none of their own minimum; data follows the opcode
rule_of (Reads source) r =
    not r.boundary && not r.latch && beq r.busy (read_while_busy source) && eqb r.bytes 1 &&
    leb 1 r.first
-- a control command needs no latch
rule_of (Orders order) r =
    beq r.boundary (ordered_on_boundary order) && not r.latch &&
    beq r.busy (ordered_while_busy order) && eqb r.bytes (ordered_bytes order) && silent r
-- whatever changes a memory or the protection needs the latch and a boundary, and a busy part ignores it
rule_of (Works work) r = r.boundary && r.latch && not r.busy && silent r

abbrev pub rule : Row → Bool
rule r = rule_of r.command r

-- a part in deep power-down answers one command, which resumes
abbrev pub sleep_rule : Row → Bool
sleep_rule r = beq r.asleep (resumes r.command)
