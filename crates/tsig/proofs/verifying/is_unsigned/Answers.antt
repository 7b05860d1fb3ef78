use Rattle.std.proofs.Common.{rules}
use Rattle.tsig.proofs.verifying.is_unsigned.Goals as goal

pub returns : goal.returns
returns c keys now = search (c.if-not-is_bare.ensures keys now, c.if-msg-lt-HEADER.false, c.if-msg-ge-QR.false, c.octets-msg.ensures, rules) depth 30 fits 20000
