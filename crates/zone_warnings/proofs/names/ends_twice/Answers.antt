use Rattle.std.proofs.Common.{◌≡◌, ◌++◌, ◌&&◌, ◌==◌, not, Bool, true, false, length, nat_le, Some, None, sym, ap, ◌∙◌, if◌then◌else◌}
use Rattle.dns_name.specs.Name.{Name, wire_of, is_under}
use Rattle.zone_warnings.proofs.NameLemmas.{none_fits, none_under_twice, false_behind}
use Rattle.zone_warnings.proofs.names.ends_twice.Goals as goal

pub returns-in-None : goal.returns-in-None
returns-in-None c =
    let apex = c.args.apex.now in
    let name = c.args.name.now in
    let long = none_fits (nat_le (length (wire_of (apex ++ apex))) 255) (apex ++ apex) (sym c.in-None.is ∙ c.in_ok-both.ensures) in
    sym (false_behind (not (length apex == 0)) (is_under name (apex ++ apex)) (none_under_twice name apex c.wire-wire.ensures.lawful c.wire-apex_wire.ensures.lawful long))
