use Rattle.std.proofs.Common.{◌<◌, length, sym, ap, ◌∙◌, arith}
use Rattle.std.proofs.lemmas.Bool.Decides.{nat_tests}
use Rattle.rules.specs.Plain.{Plain}
use Rattle.sheet.proofs.Listing.{found_listed}
use Rattle.sheet.proofs.Refused.{add_listed, add_full, add_accepted}
use Rattle.sheet.proofs.draft.Draft.to_be_added.Goals as goal

pub returns-then-is_some : goal.returns-then-is_some
returns-then-is_some c =
    let known = c.in_ok-combination.ensures in
    let found = found_listed c.deref.ensures.value c.self.view_is known.1 c.find.ensures in
    add_listed c.args.self.now c.args.setting.jv c.args.setting.entry known.0 (found ∙ sym c.if-is_some.ensures)

pub returns-then-len-ge-MOST_COMBINATIONS : goal.returns-then-len-ge-MOST_COMBINATIONS
returns-then-len-ge-MOST_COMBINATIONS c =
    let known = c.in_ok-combination.ensures in
    let found = found_listed c.deref.ensures.value c.self.view_is known.1 c.find.ensures in
    let many = ap (λ (p : Plain). length p.list) c.self.view_is in
    add_full c.args.self.now c.args.setting.jv c.args.setting.entry known.0 (found ∙ sym c.if-is_some.ensures) (grind (arith, nat_tests, many))

pub returns : goal.returns
returns c =
    let known = c.in_ok-combination.ensures in
    let found = found_listed c.deref.ensures.value c.self.view_is known.1 c.find.ensures in
    let many = ap (λ (p : Plain). length p.list) c.self.view_is in
    let few : length c.args.self.now.list < 8 = omega (arith, many) in (
      add_accepted c.args.self.now c.args.setting.jv c.args.setting.entry known.0 (found ∙ sym c.if-is_some.ensures) (grind (arith, nat_tests)),
      known.1,
      few,
    )
