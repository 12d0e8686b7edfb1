-- A worked example: frames with what must come out, and what must stand in the record and the memories afterwards.
-- Assumes nothing.
use Rattle.std.specs.Prelude.{ℕ, ◌+◌, ◌-◌, ◌*◌, ◌%◌, Bool, cond, List, [], ◌∷◌, map, ◌≡◌, replicate}
use Rattle.cells.specs.Each.{Cell, each}
use Rattle.cells.specs.Range.{range}
use Rattle.device.specs.declared.Device.{Device}
use Rattle.settings.specs.declared.Settings.{Settings}
use Rattle.part.specs.Frame.{Reply, Result}
use Rattle.series.specs.Series.{Step, State, results, end}

-- a frame as it is sent: its bytes, the bits clocked, whether WP is high, the ticks elapsed, the ticks per byte
-- position; and how long an output buffer is lent with it
pub record Sent : Type 0 where
  pub bytes : List ℕ
  pub bits : ℕ
  pub wp : Bool
  pub elapsed : ℕ
  pub pace : ℕ
  pub room : ℕ

-- what comes back, and what the output buffer then holds
pub record Came : Type 0 where
  pub reply : Reply
  pub output : List ℕ

pub record Exchange : Type 0 where
  pub sent : Sent
  pub came : Came

-- a range of places: the first holds the value, and each other one a step more than the one before it, modulo 256
pub record Piece : Type 0 where
  pub from : ℕ
  pub to : ℕ
  pub value : ℕ
  pub step : ℕ

-- what a memory holds at first: so many bytes of one value, and in some ranges other values
pub record Content : Type 0 where
  pub size : ℕ
  pub holds : ℕ
  pub pieces : List Piece

-- A row of the table: the settings, the first record, what array and register hold at first, the frames with their
-- replies, and the ranges of array and register that hold something else afterwards.
pub record Row : Type 0 where
  pub settings : Settings
  pub device : Device
  pub array : Content
  pub register : Content
  pub exchanges : List Exchange
  pub array_after : List Piece
  pub register_after : List Piece

-- a memory that holds one byte everywhere
unfoldable pub blank : ℕ → ℕ → List ℕ
blank size byte = replicate size byte

-- each output buffer that is lent holds this everywhere
abbrev pub canary : ℕ
canary = 0x5A

abbrev pub step_of : Settings → ℕ → ℕ → Exchange → Step
step_of settings array register e =
    record {
      turn =
          record {
            settings = settings;
            input = e.sent.bytes;
            signals = record
                { bits = e.sent.bits; wp = e.sent.wp; elapsed = e.sent.elapsed; pace = e.sent.pace };
            array = array;
            register = register;
            output = e.sent.room;
          };
      buffer = replicate e.sent.room canary;
      behind = record { array = λ k. canary; register = λ k. canary; output = λ k. canary };
    }

abbrev pub steps_of : Row → List Step
steps_of r = map (step_of r.settings r.array.size r.register.size) r.exchanges

-- each place of a piece holds its value; every other place holds what it held
unfoldable pub painted : List Piece → Cell
painted [] k x = x
painted (p ∷ ps) k x = cond (range p.from p.to k) ((p.value + p.step * (k - p.from)) % 256) (painted ps k x)

abbrev pub content_of : Content → List ℕ
content_of c = each (painted c.pieces) (blank c.size c.holds)

abbrev pub start_of : Row → State
start_of r = record { device = r.device; array = content_of r.array; register = content_of r.register }

abbrev pub came_of : Result → Came
came_of r = record { reply = r.reply; output = r.lent.output }

-- the statement of a row: every reply is as it says, and so is every byte of the array and of the register
pub record Worked (r : Row) : Type 0 where
  pub replies : map came_of (results (steps_of r) (start_of r)) ≡ map (λ (e : Exchange). e.came) r.exchanges
  pub array : (end (steps_of r) (start_of r)).array ≡ each (painted r.array_after) (content_of r.array)
  pub register : (end (steps_of r) (start_of r)).register ≡ each (painted r.register_after) (content_of r.register)

-- it holds of each row of a table
unfoldable pub EachWorked : List Row → Type 0
EachWorked [] = Unit
EachWorked (r ∷ rs) = Worked r × EachWorked rs
