use Rattle.wide_file.proofs.PlainFileLemmas.{plain_zone_is_wide}
use Rattle.wide_file.proofs.laws.plain_zones_are_wide.Goals as goal

pub returns : goal.returns
returns c = plain_zone_is_wide
