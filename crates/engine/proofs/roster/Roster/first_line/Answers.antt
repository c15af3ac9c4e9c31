use Rattle.std.proofs.Common.{◌≡◌, ◌-◌, is_some, sym, ap, ◌∙◌, arith}
use Rattle.std.proofs.lemmas.Option.{MatchOption-at_some}
use Rattle.engine.specs.Answers.{written}
use Rattle.engine.specs.Tables.{rest}
use Rattle.engine.specs.Turns.{Leads}
use Rattle.engine.specs.Ways.{way_of}
use Rattle.engine.proofs.Traces.{first_best_from, none_best, some_start, start_total}
use Rattle.engine.proofs.Written.{written_whole}
use Rattle.engine.proofs.roster.Roster.first_line.Goals as goal
use Rattle.engine.proofs.roster.Roster.first_line.Goals.{After-chooses, After-unwrap-goal}

-- is none the join?
chosen : (g : _) (c : After-chooses g) → g.M.Choosing.picks g.M.Measure.ring.none c.weigh-total.result ≡ c.chooses.result
chosen g c = ap (λ x. g.M.Choosing.picks x c.weigh-total.result) (sym (c.NONE.ensures ∙ g.met.M.Measure.none_of_ring)) ∙ sym c.chooses.ensures

-- the start cell leads to the total
leads : (g : _) (c : After-unwrap-goal g) → Leads (λ d. g.M.Choosing.picks (rest g.M.Measure.ring (way_of c.args.self.now) d (c.args.self.now.places - 1) 0 d) c.weigh-total.result) c.unwrap-goal.result
leads g c = MatchOption-at_some _ (Leads _) c.unwrap-goal.result c.unwrap-goal.ensures c.best_start.ensures.start

pub returns-then-chooses : goal.returns-then-chooses
returns-then-chooses g c =
    let laws = g.met.M.Choosing in
    let lines = c.args.self.now in
    let here = (goal.at.returns-then-chooses g c).After-chooses in
    let none = none_best g.M.Measure.ring g.M.Choosing.picks laws.either laws.former (way_of lines) laws.lasting lines.places c.weigh-total.result lines.some lines.most c.weigh-total.ensures (chosen g here ∙ c.if-chooses.true) in
    record {
      answer = sym (ap is_some none);
      line = sym (ap (λ o. written o c.args.line.now) none);
    }

pub unwrap-goal-requires : goal.unwrap-goal-requires
unwrap-goal-requires g c =
    let laws = g.met.M.Choosing in
    let lines = c.args.self.now in
    some_start g.M.Measure.ring g.M.Choosing.picks laws.either laws.former (way_of lines) lines.places c.weigh-total.result lines.some c.weigh-total.ensures (chosen g (goal.at.unwrap-goal-requires g c).After-chooses ∙ c.if-chooses.false) c.best_start.result c.best_start.ensures.start

pub trace-requires-clause-attained : goal.trace-requires-clause-attained
trace-requires-clause-attained g c =
    let laws = g.met.M.Choosing in
    let lines = c.args.self.now in
    let here = goal.at.trace-requires-clause-attained g c in
    start_total g.M.Measure.ring g.M.Choosing.picks laws.either laws.former (way_of lines) lines.places c.weigh-total.result lines.some c.weigh-total.ensures (chosen g here.After-chooses ∙ c.if-chooses.false) c.unwrap-goal.result (leads g here.After-unwrap-goal)

pub returns : goal.returns
returns g c =
    let laws = g.met.M.Choosing in
    let lines = c.args.self.now in
    let here = goal.at.returns g c in
    let found =
    first_best_from g.M.Measure.ring g.M.Choosing.picks laws.either laws.former (way_of lines) lines.places c.weigh-total.result lines.some c.weigh-total.ensures (chosen g here.After-chooses ∙ c.if-chooses.false) c.unwrap-goal.result (leads g here.After-unwrap-goal)
    ∙ c.trace.ensures in
    record {
      answer = sym (ap is_some found);
      line = sym (ap (λ o. written o c.args.line.now) found ∙ written_whole c.trace.new.line c.args.line.now (omega arith));
    }
