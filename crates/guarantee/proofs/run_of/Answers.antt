use Rattle.guarantee.proofs.Promising.{bounds_are, parts_told, tasks_are, played_begun, parts_taken, plan_kept, plan_modelled}
use Rattle.guarantee.proofs.run_of.Goals as goal

pub returns-clause-bounds : goal.returns-clause-bounds
returns-clause-bounds g c = bounds_are g.G.Source.work g.G.Source.allowed g.G.Gate.moves c.args.judged c.args.calls.now c.play.new.answers c.start-run.result c.play.new.run c.start-run.ensures.started c.play.ensures.played

pub returns-clause-parts : goal.returns-clause-parts
returns-clause-parts g c = parts_told g.G.Source.work g.G.Source.allowed g.G.Gate.moves c.args.judged c.args.calls.now c.play.new.answers c.start-run.result c.play.new.run c.start-run.ensures.started c.play.ensures.played

pub returns-clause-played : goal.returns-clause-played
returns-clause-played g c = played_begun g.G.Source.work g.G.Source.allowed g.G.Gate.moves c.args.judged c.args.calls.now c.play.new.answers c.start-run.result c.play.new.run c.start-run.ensures.started c.play.ensures.played

pub returns-clause-all_parts : goal.returns-clause-all_parts
returns-clause-all_parts g c ok = parts_taken g.G.Source.work g.G.Source.allowed g.G.Gate.moves c.args.judged c.args.calls.now c.play.new.answers c.start-run.result c.play.new.run c.start-run.ensures.started c.play.ensures.played g.met.G.Source.sound g.met.G.Gate.driven c.start-run.ensures.by_judge ok

pub returns-clause-guaranteed : goal.returns-clause-guaranteed
returns-clause-guaranteed g c ok = plan_kept g.G.Source.work g.G.Source.allowed g.G.Gate.moves c.args.judged c.args.calls.now c.play.new.answers c.start-run.result c.play.new.run c.start-run.ensures.started c.play.ensures.played g.met.G.Source.sound g.met.G.Gate.driven c.start-run.ensures.by_judge ok

pub returns-clause-stepped : goal.returns-clause-stepped
returns-clause-stepped g c ok = plan_modelled g.G.Source.work g.G.Source.allowed g.G.Gate.moves c.args.judged c.args.calls.now c.play.new.answers c.start-run.result c.play.new.run c.start-run.ensures.started c.play.ensures.played g.met.G.Source.sound g.met.G.Gate.driven c.start-run.ensures.by_judge ok

pub returns-clause-tasks : goal.returns-clause-tasks
returns-clause-tasks g c = tasks_are g.G.Source.work g.G.Source.allowed g.G.Gate.moves c.args.judged c.args.calls.now c.play.new.answers c.start-run.result c.play.new.run c.start-run.ensures.started c.play.ensures.played c.start-run.ensures.by_judge
