use Rattle.tsig.proofs.PutBack.{put_back, signed_right}
use Rattle.tsig.proofs.laws.what_is_signed.Goals as goal

pub returns-clause-put_back : goal.returns-clause-put_back
returns-clause-put_back _ = put_back

pub returns-clause-right : goal.returns-clause-right
returns-clause-right _ = signed_right
