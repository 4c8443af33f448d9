-- The line of an answer, of which the line feed is left out.
use Rattle.std.specs.Prelude.{ℕ, List, ◌++◌, codes, decimal, Option, Some, None}
use Rattle.refusal.specs.Table.{row}
use Rattle.refusal.specs.declared.Refusal.{Refusal}
use Rattle.listing.specs.Texts.{layer_name}
use Rattle.calls.specs.declared.Answer.{Answer}
use Rattle.calls.specs.declared.Answer.TheVariants.{Done, Refused, Ticked}
use Rattle.calls.specs.declared.Got.{Got}
use Rattle.calls.specs.declared.Got.TheVariants.{Nobody, Part, Task}

-- the number of the fault, the name of its layer, the line and the task
abbrev pub refusal_text : Refusal → List ℕ
refusal_text r = codes "refused " ++ (decimal (row r.fault).number ++ (codes " " ++ (layer_name (row r.fault).layer ++ (codes " " ++ (decimal r.line ++ (codes " task " ++ decimal r.task))))))

-- that a job ended, if one did, and its age
abbrev pub ended_text : Option ℕ → List ℕ
ended_text None = codes ""
ended_text (Some age) = codes " ended " ++ decimal age

-- who got the unit of a tick
abbrev pub got_text : Got → List ℕ
got_text Nobody = codes "tick nobody"
got_text (Part k) = codes "tick part " ++ decimal k
got_text (Task i a) = codes "tick task " ++ (decimal i ++ ended_text a)

abbrev pub answer_text : Answer → List ℕ
answer_text Done = codes "done"
answer_text (Refused r) = refusal_text r
answer_text (Ticked got) = got_text got
