use Rattle.std.proofs.Common.{◌≡◌, ℕ, ◌≤◌, take, drop}
use Rattle.guarantee.specs.Playing.{Played}
use Rattle.guarantee.proofs.play.Given as goal

-- the calls so far were made, and the answers from here on are as they were
abbrev pub invariant-loop-place : goal.invariant-loop-place
invariant-loop-place g l = record {
  played : Played g.G.Source.allowed g.G.Gate.moves (take l.place l.calls) (take l.place l.answers) l.initial.run l.run;
  rest : (k : ℕ) → l.place ≤ k → drop k l.answers ≡ drop k l.initial.answers;
}
