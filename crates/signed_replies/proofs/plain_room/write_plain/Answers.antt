-- A request without its TSIG has the request's header.
use Rattle.signed_replies.proofs.PlainLemmas.{plain_wants}
use Rattle.signed_replies.proofs.plain_room.write_plain.Goals as goal

pub returns-clause-wants : goal.returns-clause-wants
returns-clause-wants c = λ head want. plain_wants c.args.request.now c.args.start head c.id_of-id.ensures.fits want
