-- The worked series is as demand 3 says: its answers and operations by computing on its turns, its bytes by the promises.
-- Assumes nothing.
use Prim.Native.Nat.{ℕ, ◌<◌}
use mathlib.Core.List.{List, map, map-map}
use mathlib.Core.Logic.{◌≢◌}
use mathlib.Core.Path.{◌≡◌, refl, sym, ap, ◌∙◌}
use native.Mathlib.Omega.{arith}
use lib.ListN.{get_or, take}
use Rattle.runs.specs.Run as run
use Rattle.cells.specs.Each.{over}
use Rattle.pages.specs.Page.{covered, last}
use Rattle.cells.proofs.Places.{get_or-each}
use Rattle.opcodes.specs.Rows.{row_of, rows, lookup}
use Rattle.judge.specs.Causes.{cause_of}
use Rattle.judge.specs.Judging.{judged, ended}
use Rattle.settings.specs.Settings.{any_unfair}
use Rattle.calls.specs.Refusal.{refusal_of}
use Rattle.operations.specs.Operations.{Operation}
use Rattle.part.specs.Frame.{Reply, Result, judged_of, number_for, replied}
use Rattle.series.specs.Turns.{replies}
use Rattle.series.specs.Series.{Step, State, Made, turns_of, results, end, Ran}
use Rattle.operations.specs.Bytes.{applied, through, erased_in, since, bytes_at}
use Rattle.series.specs.Promises.{effects}
use Rattle.operations.proofs.Applied.{applied_each}
use Rattle.series.proofs.Promises.{promises}
use Rattle.worked.specs.Example.{Example, ShutOut, steps, begins}
use Rattle.worked.proofs.Told.{length-blank, get_or-blank}

-- a field of each answer
told : {A : Type 0} (field : Reply → A) → map (λ (r : Result). field r.reply) (results steps begins) ≡ map field (replies (turns_of steps) begins.device)
told field = sym (map-map field (λ (r : Result). r.reply) (results steps begins)) ∙ ap (map field) (promises.as_computed steps begins).0

-- the byte at a place after a list of operations
byte_after : (os : List Operation) (k : ℕ) → k < 131072 → get_or (applied os begins.array) k 0 ≡ through os k 0xF7
byte_after os k l =
    ap (λ (xs : List ℕ). get_or xs k 0) (applied_each os begins.array) ∙
    (get_or-each (through os) begins.array k 0 (omega (arith, length-blank 131072 0xF7)) ∙ ap (through os k) (get_or-blank 131072 0xF7 k l))

-- and after a series
byte : (ss : List Step) (k : ℕ) → k < 131072 → get_or (end ss begins).array k 0 ≡ through (effects ss begins) k 0xF7
byte ss k l = ap (λ (xs : List ℕ). get_or xs k 0) (promises.as_carried_out ss begins) ∙ byte_after (effects ss begins) k l

pub example : Example
unfolding run.gathered replied number_for refusal_of any_unfair judged_of judged ended cause_of row_of rows lookup through
    over covered last erased_in since bytes_at
example =
    record {
      refusals = told (λ (r : Reply). r.refusal);
      outcomes = told (λ (r : Reply). r.outcome);
      causes = told (λ (r : Reply). r.cause);
      busy = told (λ (r : Reply). r.device.busy);
      operations = refl;
      programmed = (refl, refl, refl);
      erased = byte steps 0x1000 (omega arith);
      anded = byte steps 0x2000 (omega arith);
      kept = byte steps 0x0FFF (omega arith);
    }

-- one byte tells an array from that of a run
differs : (u : State) (xs : List ℕ) (k x y : ℕ) → u ≡ end steps begins → get_or (end steps begins).array k 0 ≡ x → get_or xs k 0 ≡ y → x ≢ y → u.array ≢ xs
differs u xs k x y e a b n same =
    n (sym a ∙ (ap (λ (t : State). get_or t.array k 0) (sym e) ∙ (ap (λ (ys : List ℕ). get_or ys k 0) same ∙ b)))

pub shut_out : (u : State) (cs : List Made) → Ran steps begins cs u → ShutOut u
unfolding run.gathered replied number_for refusal_of any_unfair judged_of judged ended cause_of row_of rows lookup through
    over covered last
shut_out u cs r =
    let e = (promises.as_the_code_does steps begins u cs r).1 in
    record {
      idle = differs u begins.array 0x2000 0x05 0xF7 e example.anded (get_or-blank 131072 0xF7 0x2000 (omega arith)) (omega arith);
      first_only = differs u (end (take 4 steps) begins).array 0x2000 0x05 0xF7 e example.anded (byte (take 4 steps) 0x2000 (omega arith)) (omega arith);
      forgetful = differs u _ 0x2000 0x05 0xA5 e example.anded (byte_after _ 0x2000 (omega arith)) (omega arith);
      exchanged_across = differs u _ 0x1000 0xFF 0x3C e example.erased (byte_after _ 0x1000 (omega arith)) (omega arith);
      across_the_erase = λ a. absurd (omega (arith, sym a ∙ (ap (λ (t : State). get_or t.array 0x1000 0) e ∙ example.erased)));
    }
