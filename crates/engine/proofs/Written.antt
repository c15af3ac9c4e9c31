-- A line that is written to a buffer. Assumes nothing.
use Rattle.std.proofs.Common.{◌≡◌, ℕ, ◌≤◌, List, ◌++◌, length, Some, ap, ◌∙◌, append-nil}
use Rattle.std.proofs.lemmas.List.{drop_all}
use Rattle.engine.specs.Answers.{written}

-- a line as long as the buffer fills it
pub written_whole : (line buffer : List ℕ) → length buffer ≤ length line → written (Some line) buffer ≡ line
written_whole line buffer long = ap (λ l. line ++ l) (drop_all (length line) buffer long) ∙ append-nil line
