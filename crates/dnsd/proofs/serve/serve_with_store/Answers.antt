-- A server begins with the versions that it is given.
use Rattle.dnsd.proofs.serve.serve_with_store.Goals as goal

pub serve_zone-served-requires-clause-first : goal.serve_zone-served-requires-clause-first
serve_zone-served-requires-clause-first g c = λ _ _. c.in-Ok.ensures.served.0

pub serve_zone-served-requires-clause-follow : goal.serve_zone-served-requires-clause-follow
serve_zone-served-requires-clause-follow g c = λ _ _. c.in-Ok.ensures.served.1
