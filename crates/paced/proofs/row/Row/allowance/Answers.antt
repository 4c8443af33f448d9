use Rattle.std.proofs.Common.{sym, ◌∙◌}
use Rattle.std.proofs.lemmas.Bool.{cond-true}
use Rattle.paced.specs.Rows.{allowance_one}
use Rattle.paced.proofs.row.Row.allowance.Goals as goal

pub returns-then-is_open : goal.returns-then-is_open
returns-then-is_open c = sym (allowance_one c.args.self.now c.requires ∙ cond-true _ _ _ (sym c.is_open.ensures ∙ c.if-is_open.true))
