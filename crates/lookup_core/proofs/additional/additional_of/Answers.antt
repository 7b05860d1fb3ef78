use Rattle.std.proofs.Common.{◌∙◌}
use Rattle.lookup_core.specs.Shown.{section_shown}
use Rattle.lookup_core.proofs.AdditionalLemmas.{both_sections}
use Rattle.lookup_core.proofs.additional.additional_of.Goals as goal

pub returns : goal.returns
returns g c =
    c.into_section.ensures
    ∙ both_sections (g.Z.ZoneRead.records c.args.zone.now) (section_shown c.args.answer.now) (section_shown c.args.authority.now) c.new-additional.result c.add_section.new.additional c.add_section-2.new.additional c.new-additional.ensures c.add_section.ensures
    c.add_section-2.ensures
