use Rattle.std.proofs.Common.{◌≡◌, vec_items, Ok, sym, ◌∙◌, arith, rules}
use Rattle.std.specs.List.{remove}
use Rattle.rules.specs.Plain.{combination_of, without, all_in_range, places_of}
use Rattle.rules.specs.Faults.{unweighed}
use Rattle.rules.proofs.Faultless.{drop_kept}
use Rattle.sheet.proofs.Refused.{in_range_without}
use Rattle.sheet.proofs.draft.Draft.drop.Goals as goal

pub returns-in_err-number-clause-course : goal.returns-in_err-number-clause-course
returns-in_err-number-clause-course c = drop_kept unweighed c.args.self.now _ _ _ _ (search rules) (search rules)

pub invariant_of-self : goal.invariant_of-self
invariant_of-self c =
    let sheet = c.args.self.now in
    let named = combination_of c.args.setting.jv c.args.setting.entry in
    let known = c.in_ok-number.ensures in
    let p = c.remove.ensures in
    let same = c.self.view_is in
    let left : vec_items c.remove.new.self ≡ without named sheet.list =
    p.items ∙ (λ i. remove (same i).list c.in_ok-number.number) ∙ known.2 in
    record {
      list_room = omega (arith, p.capacity, c.self.invariant.list_room);
      fixing_room = c.self.invariant.fixing_room;
      few = omega (arith, p.len, c.self.invariant.few);
      level = c.self.invariant.level;
      in_range =
          (λ i. all_in_range (places_of (same i)) (left i))
          ∙ in_range_without (places_of sheet) named sheet.list
          (sym (λ i. all_in_range (places_of (same i)) (same i).list) ∙ c.self.invariant.in_range);
    }

pub returns-clause-course : goal.returns-clause-course
returns-clause-course c = drop_kept unweighed c.args.self.now _ _ _ (Ok tt) (search rules) (search rules)
