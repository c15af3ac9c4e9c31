use Rattle.std.proofs.Common.{ℕ, ◌+◌, ◌%◌, not, get_or, length, ◌∙◌, rules, tests}
use Rattle.std.proofs.lemmas.Iterator.{YieldsList-from_slice}
use Rattle.std.proofs.lemmas.Iterator.Consumers.{YieldsList-from_enumerate}
use Rattle.std.proofs.lemmas.Iterator.Search.{position_from_yields_List}
use Rattle.rules.specs.Standing.{agrees}
use Rattle.standing.specs.Asking.{asked_by}
use Rattle.standing.proofs.Looking.{pleases_agrees, denied_found}
use Rattle.standing.proofs.checking.Judged.first_denied.Goals as goal

pub returns : goal.returns
returns g c =
    let a = asked_by g.B.Book.admits g.B.Book.allows c.args.self.now.asking.now in
    let line = c.args.self.now.line.now in
    let met = c.args.meeting.now in
    position_from_yields_List (λ (p : ℕ × ℕ). not (agrees a p.0 p.1 (get_or line ((p.0 + 1) % length line) 0) met.combination)) _ _ c.position.result c.position.ensures.ran (YieldsList-from_enumerate (YieldsList-from_slice line (cc)) (cc))
    (λ x b q k. let is = pleases_agrees a met.sheet.now c.requires x.0 x.1.now (get_or line ((x.0 + 1) % length line) 0) met.combination in search (rules, tests))
    ∙ denied_found a line c.args.self.now.long met.combination
