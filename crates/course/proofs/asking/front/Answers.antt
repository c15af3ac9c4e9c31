use Rattle.std.proofs.Common.{ℕ, min, length, take, ap, ◌∙◌, arith}
use Rattle.theme.specs.Themes.{PlainTheme}
use Rattle.course.proofs.Fronts.{take_min}
use Rattle.course.proofs.asking.front.Goals as goal

pub returns : goal.returns
returns c =
    let line = c.args.line.now in
    let places = c.len.ensures.value ∙ ap (λ (th : PlainTheme). length th.places) c.theme.ensures in
    let few = c.min-places.ensures ∙ ap (λ (n : ℕ). min n (length line)) places in
    ap (λ (n : ℕ). take n line) (omega (arith, few)) ∙ take_min _ line
