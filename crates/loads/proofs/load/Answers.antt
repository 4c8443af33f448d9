use Prim.Native.Nat.{◌*◌}
use mathlib.Core.Path.{◌≡◌, sym, subst}
use borrow.Author.Rules.{rules}
use Rattle.loads.specs.Share.{load_of, RoundedUp}
use Rattle.loads.proofs.Rounding.{rounds_up}
use Rattle.loads.proofs.load.Goals as goal

pub returns : goal.returns
returns c =
    let value : c.rounded_up.result ≡ load_of c.args.units c.args.ticks = search rules in
    record { value = value; rounded = λ some. subst (RoundedUp (10000 * c.args.units) c.args.ticks) (sym value) (rounds_up (10000 * c.args.units) c.args.ticks some) }
