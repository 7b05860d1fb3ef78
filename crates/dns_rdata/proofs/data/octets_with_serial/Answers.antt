use Rattle.std.proofs.Common.{◌≡◌, ◌∙◌}
use Rattle.std.proofs.lemmas.Result.{IfOk-weaker}
use Rattle.dns_rdata.specs.Data.{with_serial}
use Rattle.dns_rdata.proofs.SoaSerial.{put_together}
use Rattle.dns_rdata.proofs.data.octets_with_serial.Goals as goal

pub returns : goal.returns
returns c =
    let all = put_together c.args.serial.0 c.args.octets.now c.in_ok-own.own.items c.extend_from_slice.new.self.items c.extend_from_slice-2.new.self.items c.extend_from_slice-3.new.self.items c.split_at.result.0.now c.to_be_bytes.result c.split_at.result.1.now
    c.in_ok-own.ensures.items c.in_ok-extend_from_slice.ensures.items c.in_ok-extend_from_slice-2.ensures.items c.in_ok-extend_from_slice-3.ensures.items c.split_at.ensures.front c.split_at.ensures.back c.to_be_bytes.ensures c.requires in
    IfOk-weaker c.new.result (λ own. own ≡ c.as_slice.result.now) (λ own. own ≡ with_serial c.args.serial.0 c.args.octets.now) (λ own e. e ∙ c.as_slice.ensures.value ∙ all) c.new.ensures.octets
