use Rattle.std.proofs.Common.{arith, length-set}
use Rattle.std.proofs.lemmas.Option.{MatchOption-at_some}
use Rattle.engine.specs.Turns.{Holds}
use Rattle.engine.specs.Ways.{way_of}
use Rattle.engine.proofs.Numberings.{numbered_end, numbered_start, numbered_step, some_turn}
use Rattle.engine.proofs.picking.Store+Number.trace_number.Goals as goal

pub loop-place-init : goal.loop-place-init
loop-place-init c =
    let store = c.args.self.now in
    let roster = store.roster.now in
    record {
      cell = store.goal_is_cell;
      number = omega arith;
      numbered = numbered_start (way_of roster) store.goal roster.places c.args.number c.args.line.now (omega (arith, roster.some)) c.requires.among;
    }

pub unwrap-turn-requires : goal.unwrap-turn-requires
unwrap-turn-requires c =
    let store = c.args.self.now in
    let roster = store.roster.now in
    let here = c.loop-place in
    some_turn (way_of roster) store.goal roster.places c.args.number here.place here.turn.cell here.turn.number (omega arith) here.invariant.numbered.0 c.next_turn.result c.next_turn.ensures

pub loop-place-preserved : goal.loop-place-preserved
loop-place-preserved c =
    let store = c.args.self.now in
    let roster = store.roster.now in
    let here = c.loop-place in
    let room = length-set c.args.line.now 0 store.goal in
    let turn = c.unwrap-turn.result in
    let holds : Holds _ here.turn.number turn = MatchOption-at_some _ (Holds _ here.turn.number) turn c.unwrap-turn.ensures c.next_turn.ensures in
    record {
      cell = holds.small;
      number = omega (arith, holds.counted, here.invariant.number);
      numbered = numbered_step (way_of roster) store.goal roster.places c.args.number here.place here.turn.cell here.turn.number turn here.line (omega arith) (omega arith) here.invariant.numbered holds;
    }

pub returns : goal.returns
returns c =
    let store = c.args.self.now in
    let roster = store.roster.now in
    let here = c.loop-place in
    let room = length-set c.args.line.now 0 store.goal in
    numbered_end (way_of roster) store.goal roster.places c.args.number here.place here.turn.cell here.turn.number here.line (omega (arith, roster.some)) (omega arith) here.invariant.numbered
