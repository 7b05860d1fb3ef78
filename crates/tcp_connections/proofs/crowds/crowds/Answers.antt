-- Of the candidates those are left that have more than a quarter.
use Rattle.std.proofs.Common.{refl, ap, ◌∙◌}
use Rattle.tcp_connections.specs.Group.{is_group}
use Rattle.tcp_connections.specs.Places.{is_crowd, crowd_of}
use Rattle.tcp_connections.proofs.PlaceLemmas.{left_one, left_three}
use Rattle.tcp_connections.proofs.crowds.crowds.Goals as goal

pub returns : goal.returns
returns g c = λ group.
    let connections = c.args.connections.now in
    let found = c.candidates-found.result in
    left_three (is_group group c.crowd.result) (is_group group c.crowd-2.result) (is_group group c.crowd-3.result) (is_group group found.first) (is_group group found.second) (is_group group found.third) (is_crowd connections group)
    (ap (is_group group) c.crowd.ensures ∙ left_one (is_crowd connections) (crowd_of connections) refl (λ own. refl) group found.first)
    (ap (is_group group) c.crowd-2.ensures ∙ left_one (is_crowd connections) (crowd_of connections) refl (λ own. refl) group found.second)
    (ap (is_group group) c.crowd-3.ensures ∙ left_one (is_crowd connections) (crowd_of connections) refl (λ own. refl) group found.third)
    (λ is. c.candidates-found.ensures group is)
