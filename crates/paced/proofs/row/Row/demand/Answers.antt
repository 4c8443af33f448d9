use Rattle.std.proofs.Common.{◌≡◌, ◌+◌, ◌*◌, ◌/◌, ◌%◌, ◌≤◌, length, sym, ap, ◌∙◌, arith}
use Rattle.cycles.specs.Round.{sum}
use Rattle.paced.specs.Runs.{at, largest}
use Rattle.paced.specs.Pace.{demand, arrivals, coming}
use Rattle.paced.proofs.Runs.{front_sum, front_largest}
use Rattle.paced.specs.Rows.{demand_none, demand_split, arrivals_in}
use Rattle.paced.proofs.row.Row.demand.Goals as goal

pub returns-then-ticks-eq0 : goal.returns-then-ticks-eq0
returns-then-ticks-eq0 c = sym (ap (demand c.args.self.now) c.if-ticks-eq0.true ∙ demand_none c.args.self.now)

pub returns : goal.returns
returns c =
    let r = c.args.self.now in
    let short : r.count ≤ length r.costs = omega arith in
    let n = coming r c.args.ticks in
    let come : arrivals r 0 c.args.ticks ≡ n = arrivals_in r c.args.ticks c.if-ticks-eq0.false in
    let counted : c.arrivals-come.result ≡ n = c.arrivals-come.ensures in
    let rounds : c.from.result ≡ n / r.count = c.from.ensures ∙ ap (λ m. m / r.count) counted in
    let round : c.from-2.result ≡ sum (at r.costs) r.count = c.from-2.ensures ∙ c.whole.ensures ∙ front_sum r.costs r.count short in
    let rest : c.from-3.result ≡ largest r.count r.costs (n % r.count) = c.from-3.ensures ∙ c.largest_part.ensures ∙ front_largest r.costs r.count short (c.arrivals-come.result % r.count) ∙ ap (λ m. largest r.count r.costs (m % r.count)) counted in
    (λ i. rounds i * round i + rest i) ∙ ap (λ k. k / r.count * sum (at r.costs) r.count + largest r.count r.costs (k % r.count)) (sym come) ∙ sym (demand_split r c.args.ticks c.requires.fit)
