use Rattle.std.proofs.Common.{◌≤◌, length, arith}
use Rattle.std.proofs.lemmas.List.{get_or_past}
use Rattle.session.proofs.reply.setting.Goals as goal

pub returns-else-at-header : goal.returns-else-at-header
returns-else-at-header c =
    let past : length c.args.header.now ≤ c.args.at = omega arith in
    let e = get_or_past c.args.header.now c.args.at 0 past in
    omega arith
