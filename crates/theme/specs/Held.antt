-- What a theme in memory holds. Assumes nothing.
use Rattle.std.specs.Prelude.{◌≡◌, ℕ, ◌*◌, ◌≤◌, List, length, drop}
use Rattle.theme.specs.declared.reading.Head.{Head}
use Rattle.theme.specs.Pages.{count_in, bar_in}

-- the head and the rows of a page that its head fits
pub record Headed (head : Head) (rows page : List ℕ) : Type 0 where
  pub count_is : head.count ≡ count_in page
  pub bar_is : head.bar ≡ bar_in page
  pub rows_are : rows ≡ drop 9 page
  pub few : head.count ≤ 64
  pub long : length rows ≡ 11 * head.count
