use Rattle.std.proofs.Common.{◌≡◌, ℕ, ◌+◌, ◌<◌, Bool, true, false, cond, List, length, get_or, drop, Some, Option, sym, ap, ◌∙◌}
use Rattle.std.proofs.lemmas.List.{at_drop_more, at_drop_all}
use Rattle.rules.specs.Cells.{cell_lawful, wrong_from}
use Rattle.sheet.proofs.cells.wrong_cell.Goals as goal

-- the next cell decides, or what is left behind it
next : (before : Option ℕ) (place : ℕ) (cells : List ℕ) (lawful : Bool) → place < length cells → lawful ≡ cell_lawful before (get_or cells place 0) → wrong_from before place (drop place cells) ≡ cond lawful (wrong_from (Some (get_or cells place 0)) (place + 1) (drop (place + 1) cells)) (Some place)
next before place cells lawful below is =
    at_drop_more (wrong_from before place) cells place 0 below
    ∙ ap (λ (b : Bool). cond b (wrong_from (Some (get_or cells place 0)) (place + 1) (drop (place + 1) cells)) (Some place)) (sym is)

pub returns-then-not-is_lawful : goal.returns-then-not-is_lawful
returns-then-not-is_lawful c =
    let l = c.loop-place in
    let on = next l.before l.place c.args.cells.now false c.loop-place-test.true (sym c.if-not-is_lawful.true ∙ c.is_lawful.ensures) in
    sym on ∙ l.invariant

pub loop-place-preserved : goal.loop-place-preserved
loop-place-preserved c =
    let l = c.loop-place in
    let on = next l.before l.place c.args.cells.now true c.loop-place-test.true (sym c.if-not-is_lawful.false ∙ c.is_lawful.ensures) in
    sym on ∙ l.invariant

pub returns : goal.returns
returns c =
    sym (at_drop_all (wrong_from c.loop-place.before c.loop-place.place) c.args.cells.now c.loop-place.place c.loop-place-test.false)
    ∙ c.loop-place.invariant
