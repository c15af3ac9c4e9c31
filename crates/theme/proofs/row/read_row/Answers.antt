use Rattle.std.proofs.Common.{◌∙◌}
use Rattle.std.proofs.lemmas.Result.{err_from_is_err_and}
use Rattle.theme.proofs.Rows.{stops_at_frame, stops_at_key, mark_decides, place_read}
use Rattle.theme.proofs.row.read_row.Goals as goal

pub returns-in_err-check_frame : goal.returns-in_err-check_frame
returns-in_err-check_frame c =
    let p = err_from_is_err_and c.from_residual.result c.from_residual.ensures.1 in
    rw (p.1, p.2) (stops_at_frame c.args.place c.args.before c.args.row.now _ c.in_err-check_frame.ensures)

pub returns-in_err-key : goal.returns-in_err-key
returns-in_err-key c =
    let p = err_from_is_err_and c.from_residual-in_err-key.result c.from_residual-in_err-key.ensures.1 in
    rw (p.1, p.2) (stops_at_key c.args.place c.args.before c.args.row.now _ c.in_ok-check_frame.ensures c.in_err-key.ensures)

pub returns-in_err-mark : goal.returns-in_err-mark
returns-in_err-mark c =
    let p = err_from_is_err_and c.from_residual-in_err-mark.result c.from_residual-in_err-mark.ensures.1 in
    let k = c.in_ok-key.ensures in
    rw (p.1, p.2) (mark_decides c.args.place c.args.before c.args.row.now _ c.in_ok-check_frame.ensures k.0 k.1 ∙ c.in_err-mark.ensures)

pub returns : goal.returns
returns c =
    let k = c.in_ok-key.ensures in
    let m = c.in_ok-mark.ensures in
    let frame = c.in_ok-check_frame.ensures in (
      mark_decides c.args.place c.args.before c.args.row.now _ frame k.0 k.1 ∙ m.0,
      place_read c.args.place c.args.before c.args.row.now _ frame k.0 k.1 _ m.1,
    )
