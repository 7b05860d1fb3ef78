-- The name of the worked examples (RFC 1035, 4.1.4).
use Rattle.std.specs.Prelude.{[], ◌∷◌, codes}
use Rattle.dns_name.specs.Name.{Name}

-- F.ISI.ARPA
abbrev pub f_isi_arpa : Name
f_isi_arpa = codes "F" ∷ codes "ISI" ∷ codes "ARPA" ∷ []
