use Rattle.std.proofs.Common.{◌&&◌, ltb, length, Ok, ap, ◌∙◌, arith, rules}
use Rattle.counterpoint.specs.Interval.{shift_in_range}
use Rattle.rules.specs.Plain.{Plain, all_in_range, places_of}
use Rattle.rules.specs.Faults.{unweighed}
use Rattle.rules.proofs.Faultless.{add_kept}
use Rattle.sheet.specs.Held.{plain_of}
use Rattle.sheet.proofs.Refused.{in_range_push, added_in_range}
use Rattle.sheet.proofs.draft.Draft.add.Goals as goal

pub returns-in_err-combination-clause-course : goal.returns-in_err-combination-clause-course
returns-in_err-combination-clause-course c = add_kept unweighed c.args.self.now _ _ _ _ (search rules) (search rules)

pub invariant_of-self : goal.invariant_of-self
invariant_of-self c =
    let known = c.in_ok-combination.ensures in
    let p = c.push_reserved.ensures in
    let same = c.self.view_is in
    record {
      list_room = omega (arith, p.capacity, c.self.invariant.list_room);
      fixing_room = c.self.invariant.fixing_room;
      few = omega (arith, p.len, known.2, ap (λ (q : Plain). length q.list) same);
      level = c.self.invariant.level;
      in_range =
          ap (all_in_range (places_of (plain_of c.self.inside))) p.items
          ∙ in_range_push (places_of (plain_of c.self.inside)) (plain_of c.self.inside).list c.in_ok-combination.combination c.self.invariant.in_range
          ((λ i. shift_in_range (known.1 i).jv && ltb (known.1 i).entry (places_of (same i))) ∙ added_in_range c.args.self.now c.args.setting.jv c.args.setting.entry known.0);
    }

pub returns-clause-course : goal.returns-clause-course
returns-clause-course c = add_kept unweighed c.args.self.now _ _ _ (Ok tt) (search rules) (search rules)
