-- What was put first is signed.
use Rattle.std.proofs.Common.{◌∙◌, ap, slice_get}
use Rattle.signed_replies.specs.Signed.{signed_queued}
use Rattle.signed_replies.proofs.plain_room.write_queued.Goals as goal

pub returns-clause-octets : goal.returns-clause-octets
returns-clause-octets c = c.sign_queued.ensures.octets ∙ ap (signed_queued (slice_get c.args.keys.now c.args.tsig.key) c.args.tsig c.args.now) c.put_first.ensures
