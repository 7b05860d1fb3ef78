use Rattle.std.proofs.Common.{◌≡◌, rules}
use Rattle.wide_file.specs.Included.{text_at, whole_of}
use Rattle.wide_file.proofs.SpellLemmas.{told_zone}
use Rattle.wide_file.proofs.spelling.read_wide_zone.Goals as goal

pub returns-clause-fault : goal.returns-clause-fault
returns-clause-fault c =
    let plain = c.in_ok-plain.plain in
    let text : c.as_bytes.result.now ≡ plain.text = search rules in
    told_zone (whole_of (text_at c.args.files.now) c.args.origin.now c.args.text.now) plain c.root.result c.as_bytes.result.now c.in-Err.fault c.placed.result
    c.in_ok-plain.ensures.spelled.0 c.in_ok-plain.ensures.spelled.1 c.in_ok-plain.ensures.records text c.placed.ensures.memory c.placed.ensures.placed c.in-Err.ensures.fault
