-- The guarantee: whatever calls are made on a run of an accepted plan, its log keeps both rules.
use Rattle.std.specs.Prelude.{List}
use Rattle.calls.specs.Events.{Event}
use Rattle.calls.specs.Rules.{NeverLate, NeverMore}
use Rattle.calls.specs.States.{Plan, Accepted, State, Fits, Fresh}
use Rattle.calls.specs.Steps.{Leads}

abbrev pub Guaranteed : Type 0
Guaranteed = (p : Plan) → Accepted p → (s t : State) (log : List Event) → Fresh s → Fits p s → Leads p s log t → NeverLate p.bound log × NeverMore p.bank.demand p.tasks.demand log
