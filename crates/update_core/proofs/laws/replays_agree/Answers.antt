use Rattle.std.proofs.Common.{◌≡◌, List, [], ◌∷◌, ◌++◌, unwrap_or, refl}
use Rattle.dns_rdata.specs.Record.{Record}
use Rattle.dns_message.specs.declared.update.Update.{Update}
use Rattle.update_core.specs.Act.{act, replay}
use Rattle.update_core.proofs.laws.replays_agree.Goals as goal

in_parts : (zone : List Record) (updates others : List Update) → replay zone (updates ++ others) ≡ replay (replay zone updates) others
in_parts zone [] others = refl
in_parts zone (update ∷ updates) others = in_parts (unwrap_or (act zone update) zone) updates others

pub returns-clause-parts : goal.returns-clause-parts
returns-clause-parts c = in_parts
