use Rattle.dns_message.proofs.SizeLemmas.{one_fits}
use Rattle.message_laws.proofs.laws.one_record_fits.Goals as goal

pub returns : goal.returns
returns c = one_fits
