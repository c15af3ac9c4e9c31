use Rattle.std.proofs.Common.{◌+◌, set, sym, ap, subst, ◌∙◌, arith, length-set}
use Rattle.std.proofs.lemmas.Option.{MatchOption-at_some}
use Rattle.engine.specs.Turns.{Leads}
use Rattle.engine.specs.Ways.{way_of}
use Rattle.engine.proofs.Traces.{Traced, some_next, traced_end, traced_start, traced_step}
use Rattle.engine.proofs.store.Store.trace.Goals as goal

pub loop-place-init : goal.loop-place-init
loop-place-init g c =
    let R = g.M.Measure.ring in
    let picks = g.M.Choosing.picks in
    let laws = g.met.M.Choosing in
    let store = c.args.self.now in
    let roster = store.roster.now in
    let begun = traced_start R picks laws.either laws.former (way_of roster) store.goal roster.places c.args.total c.requires.some c.args.line.now (omega (arith, roster.some)) c.requires.attained in
    (store.goal_is_cell, subst (λ p. Traced R picks (way_of roster) store.goal roster.places c.args.total 0 store.goal p (set c.args.line.now 0 store.goal)) (sym (c.ONE-prefix.ensures ∙ g.met.M.Measure.one_of_ring)) begun)

pub unwrap-next-requires : goal.unwrap-next-requires
unwrap-next-requires g c =
    let laws = g.met.M.Choosing in
    let store = c.args.self.now in
    let roster = store.roster.now in
    let here = c.loop-place in
    some_next g.M.Measure.ring g.M.Choosing.picks laws.either laws.former (way_of roster) store.goal roster.places c.args.total c.requires.some here.place here.cell here.prefix (omega arith) here.invariant.1.0 c.next_best.result c.next_best.ensures

pub loop-place-preserved : goal.loop-place-preserved
loop-place-preserved g c =
    let R = g.M.Measure.ring in
    let picks = g.M.Choosing.picks in
    let laws = g.met.M.Choosing in
    let store = c.args.self.now in
    let roster = store.roster.now in
    let here = c.loop-place in
    let room = length-set c.args.line.now 0 store.goal in
    let next = c.unwrap-next.result in
    let leads : Leads _ next = MatchOption-at_some _ (Leads _) next c.unwrap-next.ensures c.next_best.ensures in
    let stepped = traced_step R picks laws.either laws.former (way_of roster) store.goal roster.places c.args.total c.requires.some here.place here.cell next here.prefix here.line (omega arith) (omega arith) here.invariant.1 leads in
    (leads.small, subst (λ p. Traced R picks (way_of roster) store.goal roster.places c.args.total (here.place + 1) next p (set here.line (here.place + 1) next)) (sym (c.chain-prefix.ensures ∙ ap (R.chain here.prefix) c.step_between.ensures)) stepped)

pub returns : goal.returns
returns g c =
    let laws = g.met.M.Choosing in
    let store = c.args.self.now in
    let roster = store.roster.now in
    let here = c.loop-place in
    let room = length-set c.args.line.now 0 store.goal in
    traced_end g.M.Measure.ring g.M.Choosing.picks laws.either laws.former (way_of roster) store.goal roster.places c.args.total c.requires.some here.place here.cell here.prefix here.line (omega (arith, roster.some)) (omega arith) here.invariant.1
