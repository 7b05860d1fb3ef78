use Rattle.std.proofs.Common.{sym, ap, ◌∙◌}
use Rattle.notify.specs.Notify.{is_read_as}
use Rattle.notify.proofs.message.is_read_as.Goals as goal

pub returns-in-Ok : goal.returns-in-Ok
returns-in-Ok c = c.eq.ensures ∙ sym (ap (is_read_as c.args.name.now) (sym c.read_name.ensures.computed ∙ c.in-Ok.is))

pub returns-in-Err : goal.returns-in-Err
returns-in-Err c = sym (ap (is_read_as c.args.name.now) (sym c.read_name.ensures.computed ∙ c.in-Err.is))
