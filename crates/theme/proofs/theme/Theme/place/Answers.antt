use Rattle.std.proofs.Common.{rules}
use Rattle.std.proofs.lemmas.Option.{slice_get_past, slice_get_read}
use Rattle.theme.proofs.theme.Theme.place.Goals as goal

pub returns : goal.returns
returns c = let f = c.get.ensures.lookup in search (rules, slice_get_read, slice_get_past)
