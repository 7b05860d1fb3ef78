-- What is known of versions grows.
use Rattle.requests.proofs.TurnLemmas.{grows_more}
use Rattle.server_control.proofs.control_reload.order_held.Goals as goal

pub returns-then-order : goal.returns-then-order
returns-then-order g c = record { grows = grows_more _ _ _ c.hold.ensures.grows c.last_version.ensures.grows }

pub returns : goal.returns
returns g c = record { grows = grows_more _ _ _ (grows_more _ _ _ c.hold.ensures.grows c.last_version.ensures.grows) c.release.ensures.grows }
