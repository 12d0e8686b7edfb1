-- A series worked by hand, on 131,072 bytes that hold F7h at first: two programs, an erase, three refused calls, a
-- reset and a program, with what demand 3 says of it. Assumes nothing.
use Rattle.std.specs.Prelude.{ℕ, ◌*◌, true, List, [], ◌∷◌, map, ◌≢◌, ◌≡◌, length, get_or, take, replicate}
use Rattle.settings.specs.Settings.{typical}
use Rattle.operations.specs.Operations.{program, erase}
use Rattle.part.specs.Frame.{Result}
use Rattle.series.specs.Series.{Step, State, results, end}
use Rattle.operations.specs.Bytes.{applied, since, bytes_at}
use Rattle.series.specs.Promises.{effects}
use Rattle.worked.specs.Worked.{blank}
use Rattle.worked.specs.Words.{idle}

-- a call with WP high and the typical times, whose frame takes no time, so many ticks after the call before, that is
-- lent so many bytes of array, register and output
abbrev lends : ℕ → ℕ → ℕ → ℕ → List ℕ → Step
lends array register output elapsed input =
    record {
      turn =
          record {
            settings = typical;
            input = input;
            signals = record { bits = 8 * length input; wp = true; elapsed = elapsed; pace = 0 };
            array = array;
            register = register;
            output = output;
          };
      buffer = replicate output 0;
      behind = record { array = λ k. 0; register = λ k. 0; output = λ k. 0 };
    }

-- one that is lent the memories whole, and as much output as it has bytes
abbrev whole : ℕ → List ℕ → Step
whole elapsed input = lends 131072 128 (length input) elapsed input

abbrev pub steps : List Step
steps =
    -- RSTE becomes 1
    whole 0 (0x06 ∷ []) ∷
    whole 0 (0x31 ∷ 0x10 ∷ []) ∷
    -- 001000h is programmed, 12 ticks
    whole 0 (0x06 ∷ []) ∷
    whole 0 (0x02 ∷ 0x00 ∷ 0x10 ∷ 0x00 ∷ 0x3C ∷ []) ∷
    -- 002000h is programmed
    whole 12 (0x06 ∷ []) ∷
    whole 0 (0x02 ∷ 0x00 ∷ 0x20 ∷ 0x00 ∷ 0x0F ∷ []) ∷
    -- the 4 KiB from 001000h on are erased, 50,000 ticks
    whole 12 (0x06 ∷ []) ∷
    whole 0 (0x20 ∷ 0x00 ∷ 0x10 ∷ 0x00 ∷ []) ∷
    -- a write enable with a byte of the array missing, of the register, of the output: refused, and its ticks are not
    -- counted
    lends 131071 128 1 60000 (0x06 ∷ []) ∷
    lends 131072 127 1 60000 (0x06 ∷ []) ∷
    lends 131072 128 0 60000 (0x06 ∷ []) ∷
    -- so the part is still busy, and does not hear one
    whole 100 (0x06 ∷ []) ∷
    -- a reset stops the erase
    whole 0 (0xF0 ∷ 0xD0 ∷ []) ∷
    -- 002000h is programmed once more
    whole 0 (0x06 ∷ []) ∷
    whole 0 (0x02 ∷ 0x00 ∷ 0x20 ∷ 0x00 ∷ 0xA5 ∷ []) ∷
    []

abbrev pub begins : State
begins = record { device = idle; array = blank 131072 0xF7; register = blank 128 0xFF }

pub record Example : Type 0 where
  pub refusals : map (λ (r : Result). r.reply.refusal) (results steps begins)
      ≡ 0 ∷ 0 ∷ 0 ∷ 0 ∷ 0 ∷ 0 ∷ 0 ∷ 0 ∷ 1 ∷ 2 ∷ 5 ∷ 0 ∷ 0 ∷ 0 ∷ 0 ∷ []
  pub outcomes : map (λ (r : Result). r.reply.outcome) (results steps begins)
      ≡ "control" ∷ "control" ∷ "control" ∷ "begun" ∷ "control" ∷ "begun" ∷ "control" ∷ "begun" ∷ "nothing" ∷
      "nothing" ∷ "nothing" ∷ "nothing" ∷ "control" ∷ "control" ∷ "begun" ∷ []
  pub causes : map (λ (r : Result). r.reply.cause) (results steps begins)
      ≡ "none" ∷ "none" ∷ "none" ∷ "none" ∷ "none" ∷ "none" ∷ "none" ∷ "none" ∷ "none" ∷ "none" ∷ "none" ∷ "busy" ∷
      "none" ∷ "none" ∷ "none" ∷ []
  pub busy : map (λ (r : Result). r.reply.device.busy) (results steps begins)
      ≡ 0 ∷ 0 ∷ 0 ∷ 12 ∷ 0 ∷ 12 ∷ 0 ∷ 50000 ∷ 50000 ∷ 50000 ∷ 50000 ∷ 49900 ∷ 0 ∷ 0 ∷ 12 ∷ []
  pub operations : effects steps begins
      ≡ program 256 0x1000 0 (0x3C ∷ []) ∷ program 256 0x2000 0 (0x0F ∷ []) ∷ erase 0x1000 0x2000 ∷
      program 256 0x2000 0 (0xA5 ∷ []) ∷ []
  -- the bytes programmed since the last erase that covered the place
  pub programmed : (bytes_at (since (effects steps begins) 0x1000) 0x1000 ≡ [])
      × (bytes_at (since (effects steps begins) 0x2000) 0x2000 ≡ 0x0F ∷ 0xA5 ∷ [])
      × (bytes_at (since (effects steps begins) 0x2001) 0x2001 ≡ [])
  -- erased, whatever was programmed there before
  pub erased : get_or (end steps begins).array 0x1000 0 ≡ 0xFF
  -- F7h AND 0Fh AND A5h
  pub anded : get_or (end steps begins).array 0x2000 0 ≡ 0x05
  -- neither erased nor programmed
  pub kept : get_or (end steps begins).array 0x0FFF 0 ≡ 0xF7

-- What no run of the code leaves after this series.
pub record ShutOut (u : State) : Type 0 where
  -- the array as it was: what a part leaves that does nothing
  pub idle : u.array ≢ begins.array
  -- what a part leaves that serves the calls up to the first operation, and nothing afterwards
  pub first_only : u.array ≢ (end (take 4 steps) begins).array
  -- what a part leaves that forgets one operation, the second
  pub forgetful : u.array ≢ applied
      (program 256 0x1000 0 (0x3C ∷ []) ∷ erase 0x1000 0x2000 ∷ program 256 0x2000 0 (0xA5 ∷ []) ∷ []) begins.array
  -- what two programs leave that changed places across the erase, the first and the last
  pub exchanged_across : u.array
      ≢ applied (program 256 0x2000 0 (0xA5 ∷ []) ∷ program 256 0x2000 0 (0x0F ∷ []) ∷ erase 0x1000 0x2000 ∷
      program 256 0x1000 0 (0x3C ∷ []) ∷ []) begins.array
  -- F7h AND 3Ch where the erase came after the program
  pub across_the_erase : get_or u.array 0x1000 0 ≢ 0x34
