use Rattle.std.proofs.Common.{ℕ, is_some, Option, sym, ap, ◌∙◌}
use Rattle.std.proofs.lemmas.Bool.{not-true}
use Rattle.rules.specs.declared.combination.Combination.{Combination}
use Rattle.rules.specs.Plain.{original, same}
use Rattle.sheet.proofs.Listing.{found_listed, found_below}
use Rattle.sheet.proofs.Refused.{drop_unlisted, drop_accepted}
use Rattle.sheet.proofs.draft.Draft.to_be_dropped.Goals as goal

pub returns-in-Some : goal.returns-in-Some
returns-in-Some c =
    let known = c.in_ok-combination.ensures in
    let found = found_listed c.deref.ensures.value c.self.view_is known.1 c.find.ensures in
    let there = found_below c.deref.ensures.value c.self.view_is known.1 c.find.ensures c.in-Some.is in (
      drop_accepted c.args.self.now c.args.setting.jv c.args.setting.entry known.0
          (found ∙ ap (λ (o : Option ℕ). is_some o) c.in-Some.is)
          (sym (ap (λ (x : Combination). same x original) known.1) ∙ not-true _ (sym c.ne.ensures ∙ c.if-ne.true)),
      there.0,
      there.1,
    )

pub returns-in_default-2 : goal.returns-in_default-2
returns-in_default-2 c =
    let known = c.in_ok-combination.ensures in
    let found = found_listed c.deref.ensures.value c.self.view_is known.1 c.find.ensures in
    drop_unlisted c.args.self.now c.args.setting.jv c.args.setting.entry known.0
    (found ∙ ap (λ (o : Option ℕ). is_some o) c.in_default.is)
