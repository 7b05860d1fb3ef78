use Rattle.std.proofs.Common.{◌≡◌, ◌<◌, arith, sym, ap, ◌∙◌, length, take}
use Rattle.std.specs.Io.BufRead.{strip_last}
use Rattle.hex.specs.Hex.{decode_of}
use Rattle.std.proofs.lemmas.List.{length-take, with_items_is}
use Rattle.serve_core.specs.Served.{ForNothing}
use Rattle.commands.proofs.AnswerLinesLemmas.{request_on-refused, request_on-octets}
use Rattle.commands.proofs.answer.write_line.Goals as goal

pub returns-in-None-clause-line : goal.returns-in-None-clause-line
returns-in-None-clause-line g c =
    let line_is = c.without_lf.ensures ∙ ap (strip_last 10) c.as_slice.ensures.value in
    let room : length c.deref_mut.result.now ≡ 65535 = ap length c.deref_mut.ensures.value ∙ c.args.buffers.now.request_room in
    let refused = request_on-refused (strip_last 10 c.args.buffers.now.line.items) (λ octets e. let long : length c.deref_mut.result.now < length octets = c.in-None.ensures octets (ap decode_of line_is ∙ e) in omega (arith, long, room)) in
    λ past holds. rw refused (record { want = ForNothing; line = c.write_whole.ensures; goes_on = holds })

pub returns-in-Some-clause-line : goal.returns-in-Some-clause-line
returns-in-Some-clause-line g c =
    let line_is = c.without_lf.ensures ∙ ap (strip_last 10) c.as_slice.ensures.value in
    let room : length c.deref_mut.result.now ≡ 65535 = ap length c.deref_mut.ensures.value ∙ c.args.buffers.now.request_room in
    let request = request_on-octets (strip_last 10 c.args.buffers.now.line.items) (take c.in-Some.len c.request_of.new.out) (sym (ap decode_of line_is) ∙ c.in-Some.ensures.1) (omega (arith, length-take c.in-Some.len c.request_of.new.out, room, c.in-Some.ensures.0)) in
    let kept : length c.request_of.new.out ≡ c.args.buffers.now.request.len = c.request_of.auto.out ∙ ap length c.deref_mut.ensures.value ∙ sym c.args.buffers.now.request.ok.0 in
    let read : c.deref.result.now ≡ c.request_of.new.out = c.deref.ensures.value ∙ with_items_is c.args.buffers.now.request c.request_of.new.out kept in
    λ past holds. rw (request, ← read) (c.write_reply.ensures.line past holds)
