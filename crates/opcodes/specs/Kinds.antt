-- The commands that rules speak of by themselves. Assumes nothing.
use Rattle.std.specs.Prelude.{Bool, true, false}
use Rattle.opcodes.specs.declared.Command.{Command}
use Rattle.opcodes.specs.declared.Command.TheVariants.{Unlisted, Reads, Orders, Works}
use Rattle.opcodes.specs.declared.Order.{Order}
use Rattle.opcodes.specs.declared.Order.TheVariants.{Enable, Disable, DeepPowerDown, UltraDeepPowerDown, Resume}
use Rattle.opcodes.specs.declared.Order.TheVariants.{Reset}
use Rattle.opcodes.specs.declared.Work.{Work}
use Rattle.opcodes.specs.declared.Work.TheVariants.{Program, Erase, Otp, WriteStatus, WriteStatusTwo}

-- an opcode that is not listed
abbrev pub is_unlisted : Command → Bool
is_unlisted Unlisted = true
is_unlisted (Reads source) = false
is_unlisted (Orders order) = false
is_unlisted (Works work) = false

-- F0h
abbrev pub resetting : Order → Bool
resetting Enable = false
resetting Disable = false
resetting DeepPowerDown = false
resetting UltraDeepPowerDown = false
resetting Resume = false
resetting Reset = true

abbrev pub is_reset : Command → Bool
is_reset Unlisted = false
is_reset (Reads source) = false
is_reset (Orders order) = resetting order
is_reset (Works work) = false

-- ABh
abbrev pub resuming : Order → Bool
resuming Enable = false
resuming Disable = false
resuming DeepPowerDown = false
resuming UltraDeepPowerDown = false
resuming Resume = true
resuming Reset = false

abbrev pub resumes : Command → Bool
resumes Unlisted = false
resumes (Reads source) = false
resumes (Orders order) = resuming order
resumes (Works work) = false

-- a program or an erase of the array
abbrev pub works_on_array : Work → Bool
works_on_array Program = true
works_on_array (Erase region) = true
works_on_array Otp = false
works_on_array WriteStatus = false
works_on_array WriteStatusTwo = false

abbrev pub means_array : Command → Bool
means_array Unlisted = false
means_array (Reads source) = false
means_array (Orders order) = false
means_array (Works work) = works_on_array work

-- 01h
abbrev pub writes_status : Work → Bool
writes_status Program = false
writes_status (Erase region) = false
writes_status Otp = false
writes_status WriteStatus = true
writes_status WriteStatusTwo = false

abbrev pub means_status : Command → Bool
means_status Unlisted = false
means_status (Reads source) = false
means_status (Orders order) = false
means_status (Works work) = writes_status work

-- 9Bh
abbrev pub programs_once : Work → Bool
programs_once Program = false
programs_once (Erase region) = false
programs_once Otp = true
programs_once WriteStatus = false
programs_once WriteStatusTwo = false

abbrev pub means_once : Command → Bool
means_once Unlisted = false
means_once (Reads source) = false
means_once (Orders order) = false
means_once (Works work) = programs_once work
