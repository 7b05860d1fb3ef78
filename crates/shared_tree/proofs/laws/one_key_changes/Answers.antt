use Rattle.shared_tree.proofs.LawLemmas.{put_at, put_elsewhere, gone_at, gone_elsewhere}
use Rattle.shared_tree.proofs.laws.one_key_changes.Goals as goal

pub returns : goal.returns
returns g c = record {
  put = put_at g.met.K.Ord.total;
  put_elsewhere = put_elsewhere g.met.K.Ord.total;
  taken_out = gone_at g.met.K.Ord.total;
  taken_out_elsewhere = gone_elsewhere g.met.K.Ord.total;
}
