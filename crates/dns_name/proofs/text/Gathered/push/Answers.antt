use Rattle.dns_name.proofs.GatherLemmas.{pushed}
use Rattle.dns_name.proofs.text.Gathered.push.Goals as goal

pub returns : goal.returns
returns c = λ labels label is. record {
  in_hand = pushed (λ v. v.items) c.try_push.result c.args.self.now.label c.try_push.new.self label c.args.octet c.try_push.ensures.variant c.try_push.ensures.ok c.try_push.ensures.err is.in_hand;
  empty = is.empty;
  long = is.long;
  front = λ short. let front = is.front short in record { crowded = front.crowded; octets = front.octets };
}
