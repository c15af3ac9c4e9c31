-- The words in which it is told why the engine cannot answer. Assumes nothing.
use Rattle.std.specs.Prelude.{ℕ, List, codes}
use Rattle.engine.specs.declared.unfit.Unfit.{Unfit}
use Rattle.engine.specs.declared.unfit.Unfit.TheVariants.{Line, Memory, Number, Places}

abbrev pub unfit_words : Unfit → List ℕ
unfit_words Places = codes "there are not 1 to 64 places"
unfit_words Memory = codes "there are fewer than 48 values of memory for each place"
unfit_words Line = codes "there are fewer cells in the line buffer than places"
unfit_words Number = codes "the number is over 999,999,999"
