-- The worked table holds: each row by computing its replies and its operations, and the whole table by two computed tests.
-- Assumes nothing.
use Prim.Native.Nat.{ℕ, ◌<◌}
use mathlib.Core.Bool.{true, ◌&&◌, and-eq-true_iff}
use mathlib.Core.List.{List, [], ◌∷◌, map, tail}
use mathlib.Core.Path.{◌≡◌, refl, sym, ap, ◌∙◌}
use borrow.Author.Tests.{leb-true}
use lib.Dec.{leb}
use lib.ListN.{get_or, length-replicate}
use Rattle.runs.specs.Run as run
use Rattle.cells.specs.Each.{each, each_from, over}
use Rattle.pages.specs.Page.{covered, last}
use Rattle.opcodes.specs.Rows.{row_of, rows, lookup}
use Rattle.judge.specs.Causes.{cause_of}
use Rattle.judge.specs.Judging.{judged, ended}
use Rattle.settings.specs.Settings.{any_unfair}
use Rattle.calls.specs.Refusal.{refusal_of}
use Rattle.output.specs.Output.{read_at}
use Rattle.part.specs.Frame.{judged_of, number_for, replied}
use Rattle.series.specs.Series.{State, results, end}
use Rattle.operations.specs.Bytes.{through}
use Rattle.worked.specs.Worked.{Exchange, Came, Row, Worked, EachWorked, Piece, Content, canary, step_of, steps_of}
use Rattle.worked.specs.Worked.{start_of, came_of, painted, content_of}
use Rattle.worked.specs.Table.{table}
use Rattle.worked.specs.Further.{further}
use Rattle.worked.specs.Polls.{polls}
use Rattle.worked.specs.Words.{unmoved, aborting, rousing, counting, bytes}
use Rattle.worked.specs.Flags.{flags}
use Rattle.worked.specs.Modes.{modes}
use Rattle.worked.specs.Data.{data_rows}
use Rattle.worked.specs.Reads.{read_rows}
use Rattle.worked.specs.Refused.{refused_rows}
use Rattle.worked.specs.Causes.{each_aborted, cause_rows}
use Rattle.worked.specs.Rows.{Rows}
use Rattle.worked.proofs.Computed.{Told, scene_of, replies_of, wanted_of, fitting_in, fitting, all_fitting}
use Rattle.worked.proofs.Computed.{everywhere, halved, agrees, steady_operations, steady_piece, steady_pieces}
use Rattle.worked.proofs.Computed.{steady_for, one_side, apart, inside, came_told, next, end_told}
use Rattle.worked.proofs.Told.{memory_of, begins_content, painted_told}
use Rattle.worked.proofs.Runs.{AllWhole, state_of, all_told_lem, end_told_lem, end_content}

start_told : (r : Row) → start_of r ≡ state_of (scene_of r)
start_told r = rw (begins_content r.array, begins_content r.register)

-- its steps lend their memories whole
row_whole : (r : Row) (es : List Exchange)
    → AllWhole r.array.size r.register.size (map (step_of r.settings r.array.size r.register.size) es)
unfolding AllWhole
row_whole r [] = tt
row_whole r (e ∷ es) = (
  record { array = refl; register = refl; output = sym (length-replicate {A = ℕ} e.sent.room canary) },
  row_whole r es,
)

-- what fits has a place, and at the end of a series it is as the pieces say
module _ (t : Told) (c : Content) (ps : List Piece) (f : fitting_in c t.done ps ≡ true) where
  sized : (leb 1 c.size ≡ true) × ((leb c.size 262144 && agrees t.done ps c) ≡ true)
  unfolding fitting_in
  sized = (and-eq-true_iff (leb 1 c.size) (leb c.size 262144 && agrees t.done ps c)).0 f

  has_a_place : 0 < c.size
  has_a_place = leb-true 1 c.size sized.0

  as_painted : t.content ≡ c → memory_of t ≡ each (painted ps) (content_of c)
  as_painted e =
      let w = (and-eq-true_iff (leb c.size 262144) (agrees t.done ps c)).0 sized.1 in
      painted_told t ps (rw e (leb-true c.size 262144 w.0)) (rw e w.1) ∙
      ap (λ (d : Content). each (painted ps) (content_of d)) e

row_holds : (r : Row) → replies_of r ≡ wanted_of r → fitting r ≡ true → Worked r
unfolding replies_of wanted_of fitting
row_holds r e f =
    let scene = scene_of r in
    let final = end_told (steps_of r) (scene_of r) in
    let both =
    (and-eq-true_iff (fitting_in r.array final.array.done r.array_after)
    (fitting_in r.register final.register.done r.register_after)).0 f in
    let has = has_a_place final.array r.array r.array_after both.0 in
    let holds = has_a_place final.register r.register r.register_after both.1 in
    let ended : end (steps_of r) (start_of r) ≡ state_of final = ap (end (steps_of r)) (start_told r) ∙ end_told_lem (steps_of r) scene in
    record {
      replies =
          ap (λ (t : State). map came_of (results (steps_of r) t)) (start_told r) ∙
          (all_told_lem (steps_of r) scene has holds (row_whole r r.exchanges) ∙ e);
      array =
          ap (λ (t : State). t.array) ended ∙
          as_painted final.array r.array r.array_after both.0 (end_content (steps_of r) scene).0;
      register =
          ap (λ (t : State). t.register) ended ∙
          as_painted final.register r.register r.register_after both.1 (end_content (steps_of r) scene).1;
    }

each_holds : (rs : List Row) → map replies_of rs ≡ map wanted_of rs → all_fitting rs ≡ true → EachWorked rs
unfolding EachWorked all_fitting
each_holds [] e f = tt
each_holds (r ∷ rs) e f =
    let w : (fitting r ≡ true) × (all_fitting rs ≡ true) = (and-eq-true_iff (fitting r) (all_fitting rs)).0 f in
    (row_holds r (ap (λ (l : List (List Came)). get_or l 0 []) e) w.0, each_holds rs (ap tail e) w.1)

-- the tables in three parts, each within the prover's limit of steps
most_hold : EachWorked table × EachWorked further × EachWorked polls × EachWorked flags × EachWorked read_rows
    × EachWorked refused_rows
unfolding table further polls flags read_rows refused_rows unmoved counting
    replies_of wanted_of fitting_in fitting all_fitting agrees everywhere halved steady_operations steady_piece steady_pieces
    steady_for one_side apart inside through painted run.end run.gathered came_told next replied number_for refusal_of
    any_unfair judged_of judged ended cause_of row_of rows lookup read_at each each_from over covered last
most_hold = (
  each_holds table refl refl,
  each_holds further refl refl,
  each_holds polls refl refl,
  each_holds flags refl refl,
  each_holds read_rows refl refl,
  each_holds refused_rows refl refl,
)

data_hold : EachWorked data_rows
unfolding data_rows unmoved aborting counting bytes
    replies_of wanted_of fitting_in fitting all_fitting agrees everywhere halved steady_operations steady_piece steady_pieces
    steady_for one_side apart inside through painted run.end run.gathered came_told next replied number_for refusal_of
    any_unfair judged_of judged ended cause_of row_of rows lookup read_at each each_from over covered last
data_hold = each_holds data_rows refl refl

causes_hold : EachWorked modes × EachWorked cause_rows
unfolding modes cause_rows unmoved rousing each_aborted counting
    replies_of wanted_of fitting_in fitting all_fitting agrees everywhere halved steady_operations steady_piece steady_pieces
    steady_for one_side apart inside through painted run.end run.gathered came_told next replied number_for refusal_of
    any_unfair judged_of judged ended cause_of row_of rows lookup read_at each each_from over covered last
causes_hold = (each_holds modes refl refl, each_holds cause_rows refl refl)

pub all_rows : Rows
all_rows =
    record {
      worked_table = most_hold.0;
      worked_further = most_hold.1;
      worked_polls = most_hold.2;
      worked_flags = most_hold.3;
      worked_modes = causes_hold.0;
      worked_data = data_hold;
      worked_reads = most_hold.4;
      worked_refused = most_hold.5;
      worked_causes = causes_hold.1;
    }
