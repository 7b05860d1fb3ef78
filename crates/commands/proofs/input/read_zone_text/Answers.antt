use Rattle.std.proofs.Common.{◌≡◌, ◌<◌, length, arith, ap, ◌∙◌, take}
use Rattle.commands.proofs.LinesLemmas.{IfSome-each}
use Rattle.commands.proofs.InputLemmas.{IsRead-end, IsRead-separator, IsOnTheWayToZone-line, separator_test}
use Rattle.commands.proofs.input.read_zone_text.Goals as goal

pub returns-then-branch-eq0-clause-text : goal.returns-then-branch-eq0-clause-text
returns-then-branch-eq0-clause-text g c =
    let same : length c.read_until.new.buf.items ≡ length c.loop.text.items = omega (arith, c.in_ok-read_until.ensures.ok) in
    IfSome-each _ _ (λ input e. (IsRead-end input _ (g.R.Read.remaining c.read_until.new.self) _ _ (c.loop.invariant input e) (record { more = c.in_ok-read_until.ensures.bytes; taken = c.in_ok-read_until.ensures.rest }) same).text_is)

pub returns-then-branch-eq0-clause-rest : goal.returns-then-branch-eq0-clause-rest
returns-then-branch-eq0-clause-rest g c =
    let same : length c.read_until.new.buf.items ≡ length c.loop.text.items = omega (arith, c.in_ok-read_until.ensures.ok) in
    IfSome-each _ _ (λ input e. (IsRead-end input _ (g.R.Read.remaining c.read_until.new.self) _ c.read_until.new.buf.items (c.loop.invariant input e) (record { more = c.in_ok-read_until.ensures.bytes; taken = c.in_ok-read_until.ensures.rest }) same).rest_is)

pub returns-then-is_separator-clause-text : goal.returns-then-is_separator-clause-text
returns-then-is_separator-clause-text g c =
    let start : c.len-start.result ≡ length c.loop.text.items = omega arith in
    let grown : length c.loop.text.items < length c.read_until.new.buf.items = omega (arith, c.in_ok-read_until.ensures.ok) in
    let test = separator_test c.loop.text.items c.read_until.new.buf.items c.deref.result.now c.len-start.result _ _ start c.deref.ensures.value c.is_separator.ensures c.if-is_separator.true in
    IfSome-each _ _ (λ input e. c.truncate.ensures.items ∙ ap (λ n. take n c.read_until.new.buf.items) start ∙ (IsRead-separator input _ (g.R.Read.remaining c.read_until.new.self) _ _ (c.loop.invariant input e) (record { more = c.in_ok-read_until.ensures.bytes; taken = c.in_ok-read_until.ensures.rest }) grown test).text_is)

pub returns-then-is_separator-clause-rest : goal.returns-then-is_separator-clause-rest
returns-then-is_separator-clause-rest g c =
    let start : c.len-start.result ≡ length c.loop.text.items = omega arith in
    let grown : length c.loop.text.items < length c.read_until.new.buf.items = omega (arith, c.in_ok-read_until.ensures.ok) in
    let test = separator_test c.loop.text.items c.read_until.new.buf.items c.deref.result.now c.len-start.result _ _ start c.deref.ensures.value c.is_separator.ensures c.if-is_separator.true in
    IfSome-each _ _ (λ input e. (IsRead-separator input _ (g.R.Read.remaining c.read_until.new.self) _ _ (c.loop.invariant input e) (record { more = c.in_ok-read_until.ensures.bytes; taken = c.in_ok-read_until.ensures.rest }) grown test).rest_is)

pub loop-preserved : goal.loop-preserved
loop-preserved g c input e =
    let start : c.len-start.result ≡ length c.loop.text.items = omega arith in
    let grown : length c.loop.text.items < length c.read_until.new.buf.items = omega (arith, c.in_ok-read_until.ensures.ok) in
    let test = separator_test c.loop.text.items c.read_until.new.buf.items c.deref.result.now c.len-start.result _ _ start c.deref.ensures.value c.is_separator.ensures c.if-is_separator.false in
    IsOnTheWayToZone-line input _ (g.R.Read.remaining c.read_until.new.self) _ _ (c.loop.invariant input e) (record { more = c.in_ok-read_until.ensures.bytes; taken = c.in_ok-read_until.ensures.rest }) grown test
