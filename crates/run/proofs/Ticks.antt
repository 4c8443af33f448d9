-- The jobs of a run, aged one after another.
use Rattle.std.proofs.Common.{◌≡◌, ℕ, ◌+◌, ◌<◌, List, ◌++◌, map, length, get_or, take, drop, set, ap, arith, length-append, length-drop}
use Rattle.std.proofs.lemmas.List.{get_or_default, length-map, length-take-le}
use Rattle.std.proofs.lemmas.List.Edits.{map_over_more}
use Rattle.run.specs.States.{no_job}
use Rattle.run.specs.Steps.{older}
use Rattle.run.specs.declared.state.Job.{Job}

-- the jobs are aged one after another: job i of those that a loop has come to
pub ages_on : (xs ys : List Job) (i : ℕ) → i < length xs → ys ≡ map older (take i xs) ++ drop i xs → set ys i (older (get_or ys i no_job)) ≡ map older (take (i + 1) xs) ++ drop (i + 1) xs
ages_on xs ys i h e = map_over_more older xs ys i (get_or ys i no_job) h e (get_or_default ys i no_job (get_or ys i no_job) long)
  where
    long : i < length ys
    long = omega (arith, ap length e, length-append (map older (take i xs)) (drop i xs), length-map (take i xs) older, length-take-le i xs (omega arith), length-drop i xs)
