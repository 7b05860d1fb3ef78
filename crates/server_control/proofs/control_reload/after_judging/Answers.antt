-- What is known of versions grows.
use Rattle.requests.proofs.TurnLemmas.{grows_more}
use Rattle.server_control.proofs.control_reload.after_judging.Goals as goal

pub returns-in-NXRRSet : goal.returns-in-NXRRSet
returns-in-NXRRSet g c = record { grows = grows_more _ _ _ c.result_at.ensures.grows c.order_held.ensures.grows }
