-- The law of a row.
use Rattle.std.proofs.Common.{◌≡◌, ℕ, ◌+◌, List, [], ◌∷◌, ◌++◌, Option, Some, None, is_some, cond, length, get_or, ap, ◌∙◌, refl, length-append, arith}
use Rattle.std.proofs.lemmas.Bool.Decides.{nat_tests}
use Rattle.std.proofs.lemmas.List.{get_or-append-add}
use Rattle.calls.specs.declared.Call.{Call}
use Rattle.calls.specs.declared.Call.TheVariants.{Offer, Release, Hold, LetGo, End, Tick}
use Rattle.calls.specs.declared.Got.{Got}
use Rattle.calls.specs.declared.Got.TheVariants.{Task}
use Rattle.calls.specs.declared.Answer.{Answer}
use Rattle.calls.specs.declared.Answer.TheVariants.{Done, Refused, Ticked}
use Rattle.calls.specs.Events.{Event}
use Rattle.calls.specs.Jobs.{Job, job_of, end_age}
use Rattle.timeline.specs.Rows.{passed, passed_in, added, cells, left_of, task_mark, task_cell, RowOf, ShowsEnds}
use Rattle.timeline.proofs.Cells.{cells_split}

added_length : (cell : Got → ℕ) (call : Call) (answer : Answer) → length (added cell call answer) ≡ passed_in call answer
added_length cell (Offer k u) answer = refl
added_length cell (Release i u) answer = refl
added_length cell (Hold i u) answer = refl
added_length cell (LetGo i) answer = refl
added_length cell (End i) answer = refl
added_length cell Tick Done = refl
added_length cell Tick (Refused e) = refl
added_length cell Tick (Ticked got) = refl

cells_length : (cell : List Event → Got → ℕ) (before log : List Event) → length (cells cell before log) ≡ passed log
cells_length cell before [] = refl
cells_length cell before (e ∷ log) = length-append (added (cell before) e.call e.answer) (cells cell (before ++ (e ∷ [])) log) ∙ (λ j. added_length (cell before) e.call e.answer j + cells_length cell (before ++ (e ∷ [])) log j)

-- the cell of a tick that passed, with these calls before it
at_tick : (cell : List Event → Got → ℕ) (before rest : List Event) (got : Got) → get_or (cells cell [] (before ++ (record { call = Tick; answer = Ticked got } ∷ rest))) (passed before) 0 ≡ cell before got
at_tick cell before rest got =
    let tick : Event = record { call = Tick; answer = Ticked got } in
    let front = cells cell [] before in
    let back = cell before got ∷ cells cell (before ++ (tick ∷ [])) rest in
    let here : passed before ≡ length front + 0 = omega (arith, cells_length cell [] before) in
    (λ j. get_or (cells_split cell [] before (tick ∷ rest) j) (here j) 0) ∙ get_or-append-add front back 0 0

pub row_law : (cell : List Event → Got → ℕ) (log : List Event) (row : List ℕ) → row ≡ cells cell [] log → RowOf cell log row
row_law cell log row is = record {
  many = ap length is ∙ cells_length cell [] log;
  each = λ before rest got cut. ap (λ r. get_or r (passed before) 0) (is ∙ ap (cells cell []) cut) ∙ at_tick cell before rest got;
}

-- a task that gets a unit: its job ends at some age just if that is the last unit
task_cell_of : (i : ℕ) (job : Option Job) (a : Option ℕ) → a ≡ end_age job → task_mark i (left_of job) (Task i a) ≡ cond (is_some a) 33 35
task_cell_of i None a is = grind (arith, nat_tests)
task_cell_of i (Some j) a is = grind (arith, nat_tests)

pub shows_ends : (i : ℕ) (log : List Event) (row : List ℕ) → RowOf (task_cell i) log row → ShowsEnds i log row
shows_ends i log row law bound late before rest a cut = law.each before rest (Task i a) cut ∙ task_cell_of i (job_of i before) a (late.ended before rest i a cut).0
