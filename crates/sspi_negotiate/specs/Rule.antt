-- When a client replaces NTLM by Kerberos: if a KDC serves the domain of the name.
use Rattle.std.specs.Prelude.{◌≡◌, ℕ, List, ◌&&◌, Option, None, Some, if◌then◌else◌}
use Rattle.sspi_names.specs.Kdcs.{url_of}
use Rattle.sspi_names.specs.Name.{Name, domain_of}
use Rattle.sspi_names.specs.declared.kdc_table.KdcEntry.{KdcEntry}
use Rattle.sspi_negotiate.specs.declared.protocol.Protocol.TheVariants.{Kerberos}
use Rattle.sspi_mech.specs.Meaning.{Meaning}
use Rattle.sspi_negotiate.specs.Hand.{Origin, InPlaceOfNtlm, is_ntlm_hand}
use Rattle.sspi_negotiate.specs.Plan.{Plan, Takes}
use Rattle.sspi_negotiate.specs.Values.{Values}

-- the URL of the KDC that serves the domain of a name
abbrev pub url_for : List KdcEntry → Option (List ℕ) → Option (List ℕ)
url_for kdcs None = None
url_for kdcs (Some domain) = url_of kdcs domain

-- the URL for which Kerberos is taken, if NTLM is selected and Kerberos may be used
abbrev pub rule_url : Values → Name → Option (List ℕ)
rule_url v name = if is_ntlm_hand v.hand && v.packages.kerberos then url_for v.kdcs (domain_of name)
    else None

abbrev pub by_rule : Option (List ℕ) → List KdcEntry → List ℕ → Plan → Plan
by_rule None kdcs computer rest = rest
by_rule (Some url) kdcs computer rest = Takes (InPlaceOfNtlm (Some url) kdcs computer) rest

abbrev pub ruled_values : Option (List ℕ) → Values → Values
ruled_values None v = v
ruled_values (Some url) v = record v { hand = Kerberos }

-- the mechanism that is then selected
abbrev pub TakenBy : {M : Type 0} → Meaning Origin M → Option (List ℕ) → List KdcEntry → List ℕ →
    M → M → Type 0
TakenBy c None kdcs computer m m2 = m2 ≡ m
TakenBy c (Some url) kdcs computer m m2 = c.made (InPlaceOfNtlm (Some url) kdcs computer) m2
