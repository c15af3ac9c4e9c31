use Rattle.std.proofs.Common.{◌-◌, is_some, sym, ap, ◌∙◌, arith}
use Rattle.std.proofs.lemmas.Option.{MatchOption-at_none, MatchOption-at_some}
use Rattle.engine.specs.Answers.{written}
use Rattle.engine.specs.Tails.{begun_by}
use Rattle.engine.specs.Turns.{Holds}
use Rattle.engine.specs.Ways.{way_of}
use Rattle.engine.proofs.Numberings.{nth_beyond, nth_start}
use Rattle.engine.proofs.Written.{written_whole}
use Rattle.engine.proofs.roster.Roster.pick_line.Goals as goal

pub returns-in_default : goal.returns-in_default
returns-in_default c =
    let lines = c.args.self.now in
    let none = nth_beyond (way_of lines) lines.places c.args.k lines.some (MatchOption-at_none _ _ c.in_default.is c.first_turn.ensures.turn) in
    record {
      answer = sym (ap is_some none);
      line = sym (ap (λ o. written o c.args.line.now) none);
    }

pub returns : goal.returns
returns c =
    let lines = c.args.self.now in
    let turn = c.in-Some.start in
    let holds : Holds (begun_by (way_of lines) (lines.places - 1)) c.args.k turn = MatchOption-at_some _ (Holds _ c.args.k) turn c.in-Some.is c.first_turn.ensures.turn in
    let found = nth_start (way_of lines) lines.places c.args.k turn lines.some holds ∙ c.trace_number.ensures in
    record {
      answer = sym (ap is_some found);
      line = sym (ap (λ o. written o c.args.line.now) found ∙ written_whole c.trace_number.new.line c.args.line.now (omega arith));
    }
