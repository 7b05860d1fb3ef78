use Rattle.std.proofs.Common.{refl}
use Rattle.wire_names.specs.Leads.{stays}
use Rattle.wire_names.proofs.message.led_from.Goals as goal

pub returns-in-None : goal.returns-in-None
returns-in-None c = λ msg are. stays refl
