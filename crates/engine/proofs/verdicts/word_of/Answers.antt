use Rattle.std.proofs.Common.{◌≡◌, ℕ, suc, ◌+◌, ◌-◌, ◌*◌, ◌^◌, ◌<◌, sym, ap, ◌∙◌, subst, arith}
use mir.Val.{bool_byte}
use Rattle.engine.specs.Words.{bit}
use Rattle.engine.proofs.Shifts.{bit_more, word_more}
use Rattle.engine.proofs.verdicts.word_of.Goals as goal

pub loop-next-preserved : goal.loop-next-preserved
loop-next-preserved g c =
    let way = g.P.Passage.way c.args.passage.now c.args.place c.args.cell in
    let next = c.loop-next.next in
    let word = c.loop-next.word in
    let width : 48 - (next - 1) ≡ suc (48 - next) = omega arith in
    let lowest : next - 1 + 0 ≡ next - 1 = omega arith in
    let shifted : (e : ℕ) → next - 1 + suc e ≡ next + e = λ e. omega arith in
    let is : 2 * word + c.from.result ≡ 2 * word + bool_byte c.may.result = ap (λ n. 2 * word + n) c.from.ensures in
    let fits : 2 * word + c.from.result < 2 ^ suc (48 - next) =
    subst (λ n. n < 2 ^ suc (48 - next)) (sym is) (word_more c.may.result word (48 - next) c.loop-next.invariant.0) in
    let bits = bit_more c.may.result word (48 - next) (λ e. way (next - 1 + e)) (c.may.ensures ∙ ap way (sym lowest)) (λ e h. c.loop-next.invariant.1 e h ∙ ap way (sym (shifted e))) in
    (subst (λ n. 2 * word + c.from.result < 2 ^ n) (sym width) fits, λ e h. ap (λ n. bit n e) is ∙ bits e (subst (λ n. e < n) width h))
