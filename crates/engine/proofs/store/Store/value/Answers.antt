use Rattle.std.proofs.Common.{sym, ◌∙◌, arith}
use Rattle.engine.specs.Ways.{way_of}
use Rattle.engine.proofs.Rests.{rest_last}
use Rattle.engine.proofs.store.Store.value.Goals as goal

pub returns-else-place-self : goal.returns-else-place-self
returns-else-place-self g c =
    let store = c.args.self.now in
    c.over_seam.ensures ∙ sym (rest_last g.M.Measure.ring (way_of store.roster.now) store.goal store.roster.now.places c.args.place c.args.cell (omega arith))
