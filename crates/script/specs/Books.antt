-- What the books that a script can name say yes to. Assumes nothing.
use Rattle.std.specs.Prelude.{Bool}
use Rattle.counterpoint.specs.declared.moments.Moment.{Moment}
use Rattle.counterpoint.specs.declared.moments.Succession.{Succession}
use Rattle.books.specs.Strict.{strict_admits, strict_allows}
use Rattle.books.specs.Free.{free_admits, free_allows}
use Rattle.books.specs.Vertical.{vertical_admits, vertical_allows}
use Rattle.script.specs.declared.book.Rules.{Rules}
use Rattle.script.specs.declared.book.Rules.TheVariants.{Strict, Free}
use Rattle.script.specs.declared.book.AnyBook.{AnyBook}
use Rattle.script.specs.declared.book.AnyBook.TheVariants.{Bare, Layered}

abbrev pub rules_admit : Rules → Moment → Bool
rules_admit Strict = strict_admits
rules_admit Free = free_admits

abbrev pub rules_allow : Rules → Succession → Bool
rules_allow Strict = strict_allows
rules_allow Free = free_allows

abbrev pub any_admits : AnyBook → Moment → Bool
any_admits (Bare rules) = rules_admit rules
any_admits (Layered layer) = vertical_admits (rules_admit layer.below) layer.shift

abbrev pub any_allows : AnyBook → Succession → Bool
any_allows (Bare rules) = rules_allow rules
any_allows (Layered layer) = vertical_allows (rules_allow layer.below) layer.shift
