use Rattle.std.proofs.Common.{◌≡◌, ℕ, ◌-◌, ◌<◌, false, sym, ap, ◌∙◌, arith}
use Rattle.engine.specs.Words.{bit}
use Rattle.engine.specs.Ways.{way_of}
use Rattle.engine.proofs.Rests.{rest_none}
use Rattle.engine.proofs.Shifts.{bit_zero}
use Rattle.engine.proofs.roster.Roster.weigh_start.Goals as goal

pub returns-then-word-eq0 : goal.returns-then-word-eq0
returns-then-word-eq0 g c =
    let roster = c.args.self.now in
    let start = c.args.start in
    let shut : (d : ℕ) → d < 48 → way_of roster 0 start d ≡ false = λ d h. c.word.ensures d h ∙ ap (λ w. bit w d) c.if-word-eq0.true ∙ bit_zero d in
    c.NONE.ensures ∙ g.met.M.Measure.none_of_ring ∙ sym (rest_none g.M.Measure.ring (way_of roster) start (roster.places - 1) 0 start (omega arith) shut)
