use Rattle.std.proofs.Common.{◌≡◌, ◌++◌, flat_map, drop}
use Rattle.http_page.specs.Html.{escaped_octet}
use Rattle.http_page.proofs.html.put_escaped.Given as goal

-- what is written, with what is left, is all
abbrev pub invariant-loop-octet : goal.invariant-loop-octet
invariant-loop-octet l = l.text.items ++ flat_map (escaped_octet) (drop l.octet-index l.octets) ≡ l.initial.text.items ++ flat_map (escaped_octet) l.octets
