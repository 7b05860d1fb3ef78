use Rattle.std.proofs.Common.{◌∙◌, ap}
use Rattle.std.specs.List.{flat_map}
use Rattle.lookup_core.proofs.AdditionalLemmas.{section_of_sets}
use Rattle.lookup_core.proofs.additional.Additional.into_section.Goals as goal

pub returns : goal.returns
returns c = section_of_sets c.self.inside.shown.items c.self.invariant ∙ ap (flat_map (λ set. set)) c.self.view_is
