-- Demand 3, sentence by sentence: what holds of any series of calls, refused calls and resets among them. To read it:
-- ss are steps, ts are their turns, t and u are what stands before or after them, d is a record, k a place of the
-- array, xs an array. Assumes nothing.
use Rattle.std.specs.Prelude.{ℕ, ◌<◌, ◌≤◌, true, false, cond, List, [], ◌∷◌, ◌++◌, map, ◌≢◌, ◌≡◌, length, get_or}
use Rattle.device.specs.declared.Device.{Device}
use Rattle.device.specs.Device.{awake, unsound}
use Rattle.operations.specs.Operations.{Operation}
use Rattle.calls.specs.declared.Lengths.{Lengths}
use Rattle.part.specs.Frame.{Call, Reply, Result, Meets, call, lent, refused, replied, frame}
use Rattle.part.specs.Effect.{takes_effect, operation_of}
use Rattle.series.specs.Turns.{Turn, reply_to, replies, operations, last_record}
use Rattle.series.specs.Series.{Step, State, Made, turns_of, lent_to, left, results, end, made_of, Ran}
use Rattle.operations.specs.Bytes.{Program, applied, since, bytes_at, and_all, start_at, program_of, all_work}

-- the operations that took effect in a series of steps
abbrev pub effects : List Step → State → List Operation
effects ss t = operations (turns_of ss) t.device

-- the result of a refused call: its number, with the record and the lent bytes as they were
abbrev pub as_refused : Step → State → Result
as_refused s t = record { reply = refused (reply_to s.turn t.device).refusal t.device; lent = lent_to s t }

pub record Promises : Type 0 where
  -- One call after the other: each is given the record that the last one returned, with its own settings, frame, level,
  -- ticks and lengths; it answers by them, and adds to the operations the one that its opcode asks for, if demand 2's
  -- rule lets that take effect.
  pub one_after_the_other : (t : Turn) (ts : List Turn) (d : Device) (c : Call) (l : Lengths) → c
      ≡ call d t.settings t.input t.signals
      → l ≡ record { array = t.array; register = t.register; input = length t.input; output = t.output }
      → (replies (t ∷ ts) d ≡ replied c l ∷ replies ts (replied c l).device)
      × (last_record (t ∷ ts) d ≡ last_record ts (replied c l).device)
      × (operations (t ∷ ts) d
      ≡ cond (takes_effect c l) (operation_of c l ∷ []) [] ++ operations ts (replied c l).device)
  -- On memories each call is a frame, on what the last one left;
  pub frame_by_frame : (s : Step) (ss : List Step) (t : State) (c : Call) → c
      ≡ call t.device s.turn.settings s.turn.input s.turn.signals
      → (results (s ∷ ss) t ≡ frame c (lent_to s t) ∷ results ss (left (frame c (lent_to s t)) t))
      × (end (s ∷ ss) t ≡ end ss (left (frame c (lent_to s t)) t))
  -- and a run of the code is a call that meets its contract, and a run on what it left.
  pub call_by_call : (s : Step) (ss : List Step) (t u : State) (a : Made) (rest : List Made) (c : Call)
      → c ≡ call t.device s.turn.settings s.turn.input s.turn.signals → Ran (s ∷ ss) t (a ∷ rest) u
      → Meets c (lent_to s t) a.answer a.lent × Ran ss (left (made_of a) t) rest u
  -- A call that is lent its memories whole is lent what they hold,
  pub lent_whole : (s : Step) (t : State) → s.turn.array ≡ length t.array → s.turn.register
      ≡ length t.register
      → s.turn.output ≡ length s.buffer → lent_to s t ≡ lent t.array t.register s.buffer
  -- and they hold afterwards what it left, with the record that it returned.
  pub left_whole : (r : Result) (t : State) → length r.lent.array ≡ length t.array → length r.lent.register
      ≡ length t.register
      → left r t ≡ record { device = r.reply.device; array = r.lent.array; register = r.lent.register }
  -- What the code returns and leaves is what the series says, call by call, and so are its last record, array and
  -- register;
  pub as_the_code_does : (ss : List Step) (t u : State) (cs : List Made) → Ran ss t cs u
      → (map made_of cs ≡ results ss t) × (u ≡ end ss t)
  -- and for each series there are answers that meet the contract of the code, so this is no empty promise.
  pub can_be_run : (ss : List Step) (t : State) → (cs : List Made) × Ran ss t cs (end ss t)
  -- Never from stored bytes: the answers and the last record are computed from the turns and the first record alone,
  pub as_computed : (ss : List Step) (t : State)
      → (map (λ (r : Result). r.reply) (results ss t) ≡ replies (turns_of ss) t.device)
      × ((end ss t).device ≡ last_record (turns_of ss) t.device)
  -- so two series with the same turns and first record answer alike and carry out the same operations, whatever their
  -- memories hold.
  pub never_from_stored_bytes : (ss also : List Step) (t u : State) → turns_of ss ≡ turns_of also → t.device ≡ u.device
      → (map (λ (r : Result). r.reply) (results ss t) ≡ map (λ (r : Result). r.reply) (results also u))
      × ((end ss t).device ≡ (end also u).device)
      × (effects ss t ≡ effects also u)
  -- What takes effect is a program or an erase, and is reported as begun;
  pub each_works : (ts : List Turn) (d : Device) → all_work (operations ts d) ≡ true
  pub each_reported : (t : Turn) (d : Device) → operations (t ∷ []) d ≢ []
      → map (λ (r : Reply). r.outcome) (replies (t ∷ []) d) ≡ "begun" ∷ []
  -- the array after the series is the array before it with the operations that took effect carried out in order.
  pub as_carried_out : (ss : List Step) (t : State) → (end ss t).array ≡ applied (effects ss t) t.array
  -- Each byte afterwards is the AND of all bytes programmed at it since the last erase that covered it, starting from
  -- FFh, or from its first content if none covered it.
  pub and_since_the_last_erase : (ss : List Step) (t : State) (k : ℕ) → k < length t.array
      → get_or (end ss t).array k 0
      ≡ and_all (start_at (effects ss t) k (get_or t.array k 0)) (bytes_at (since (effects ss t) k) k)
  -- Two programs with no erase between them, so with none or with programs only, may change places.
  pub change_places : (before after : List Operation) (between : List Program) (p q : Program) (xs : List ℕ)
      → applied (before ++ program_of p ∷ map program_of between ++ program_of q ∷ after) xs
      ≡ applied (before ++ program_of q ∷ map program_of between ++ program_of p ∷ after) xs
  -- So two series on arrays that hold the same at first leave the same, if two such programs changed places among what
  -- took effect.
  pub series_change_places : (ss also : List Step) (t u : State) (before after : List Operation)
      (between : List Program) (p q : Program) → t.array ≡ u.array
      → effects ss t ≡ before ++ program_of p ∷ map program_of between ++ program_of q ∷ after
      → effects also u ≡ before ++ program_of q ∷ map program_of between ++ program_of p ∷ after
      → (end ss t).array ≡ (end also u).array
  -- An operation carried out twice in a row does what it does once.
  pub twice_is_once : (before after : List Operation) (o : Operation) (xs : List ℕ)
      → applied (before ++ o ∷ o ∷ after) xs ≡ applied (before ++ o ∷ after) xs
  -- So does a series in which it took effect twice in a row.
  pub series_twice_is_once : (ss also : List Step) (t u : State) (before after : List Operation) (o : Operation)
      → t.array ≡ u.array
      → effects ss t ≡ before ++ o ∷ o ∷ after → effects also u ≡ before ++ o ∷ after → (end ss t).array
      ≡ (end also u).array
  -- A refused call changes nothing but its own answer: without it the series has the same operations, the same end, and
  -- the same results before and after it.
  pub refused_changes_nothing : (before after : List Step) (s : Step) (t : State)
      → (reply_to s.turn (end before t).device).refusal ≢ 0
      → (effects (before ++ s ∷ after) t ≡ effects (before ++ after) t)
      × (end (before ++ s ∷ after) t ≡ end (before ++ after) t)
      × (results (before ++ after) t ≡ results before t ++ results after (end before t))
      × (results (before ++ s ∷ after) t
      ≡ results before t ++ as_refused s (end before t) ∷ results after (end before t))
  -- A reset, carried out or not, takes no change back: array and register stay, and whatever comes after it, the
  -- operations before it stand.
  pub reset_takes_nothing_back : (before after : List Step) (s : Step) (t : State) → get_or s.turn.input 0 0 ≡ 0xF0
      → ((end (before ++ s ∷ []) t).array ≡ (end before t).array)
      × ((end (before ++ s ∷ []) t).register ≡ (end before t).register)
      × (effects (before ++ s ∷ after) t ≡ effects before t ++ effects after (end (before ++ s ∷ []) t))
  -- From a record that is accepted a series returns one that is: at most 60,000,000 busy ticks, and none unless the
  -- part is awake.
  pub stays_sound : (ts : List Turn) (d : Device) → unsound d ≡ false
      → ((last_record ts d).busy ≤ 60000000) × (awake (last_record ts d).mode ≡ false → (last_record ts d).busy ≡ 0)
