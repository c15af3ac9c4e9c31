use Rattle.std.proofs.Common.{◌≡◌, ◌-◌, false, ◌<◌, ℕ, sym, ap, ◌∙◌, arith}
use Rattle.engine.specs.Words.{bit}
use Rattle.engine.specs.Tables.{sum}
use Rattle.engine.specs.Ways.{way_of}
use Rattle.engine.proofs.Rests.{by_next, rest_none, rest_onward, sum_none, sum_open, sum_shut}
use Rattle.engine.proofs.Shifts.{bit_zero}
use Rattle.engine.proofs.store.Store.onward.Goals as goal
use Rattle.engine.proofs.store.Store.onward.Goals.{else-says, then-says}

pub returns-then-word-eq0 : goal.returns-then-word-eq0
returns-then-word-eq0 g c =
    let store = c.args.self.now in
    let shut : (d : ℕ) → d < 48 → way_of store.roster.now c.args.place c.args.cell d ≡ false = λ d h. c.word-word.ensures d h ∙ ap (λ w. bit w d) c.if-word-eq0.true ∙ bit_zero d in
    c.NONE-total.ensures
    ∙ g.met.M.Measure.none_of_ring
    ∙ sym (rest_none g.M.Measure.ring (way_of store.roster.now) store.goal (store.roster.now.places - 1 - c.args.place) c.args.place c.args.cell store.goal_is_cell shut)

pub loop-next-init : goal.loop-next-init
loop-next-init g c = c.NONE-total.ensures ∙ g.met.M.Measure.none_of_ring ∙ sym (sum_none g.M.Measure.ring _)

pub loop-next-preserved : goal.loop-next-preserved
loop-next-preserved g c =
    let R = g.M.Measure.ring in
    let store = c.args.self.now in
    let way = way_of store.roster.now in
    let next = c.loop-next.next in
    let is : way c.args.place c.args.cell next ≡ c.says.result = c.word-word.ensures next (omega arith) ∙ sym c.says.ensures in
    elim c.if-says.branch [
      | then-says w ↦
          let more = sum_open R way store.goal store.roster.now.places c.args.place c.args.cell next (is ∙ w.if-says.true) in
          cc
      | else-says w ↦
          let more = sum_shut R way store.goal store.roster.now.places c.args.place c.args.cell next (is ∙ w.if-says.false) in
          cc
    ]

pub returns : goal.returns
returns g c =
    let R = g.M.Measure.ring in
    let store = c.args.self.now in
    let all : c.loop-next.next ≡ 48 = omega arith in
    c.loop-next.invariant
    ∙ ap (sum R (by_next R (way_of store.roster.now) store.goal store.roster.now.places c.args.place c.args.cell)) all
    ∙ sym (rest_onward R (way_of store.roster.now) store.goal store.roster.now.places c.args.place c.args.cell (omega arith))
