use Rattle.std.proofs.Common.{ℕ, not, ◌∙◌, rules, tests}
use Rattle.std.proofs.lemmas.Iterator.{YieldsList-from_slice}
use Rattle.std.proofs.lemmas.Iterator.Consumers.{YieldsList-from_enumerate}
use Rattle.std.proofs.lemmas.Iterator.Search.{position_from_yields_List}
use Rattle.rules.specs.Standing.{kept_at}
use Rattle.standing.specs.Asking.{asked_by}
use Rattle.standing.proofs.Looking.{unkept_found}
use Rattle.standing.proofs.checking.Judged.first_unkept.Goals as goal

pub returns : goal.returns
returns g c =
    let a = asked_by g.B.Book.admits g.B.Book.allows c.args.self.now.asking.now in
    let line = c.args.self.now.line.now in
    position_from_yields_List (λ (p : ℕ × ℕ). not (kept_at a p.0 p.1)) _ _ c.position.result c.position.ensures.ran (YieldsList-from_enumerate (YieldsList-from_slice line (cc)) (cc)) (λ x b q k. search (rules, tests))
    ∙ unkept_found a line c.args.self.now.long
