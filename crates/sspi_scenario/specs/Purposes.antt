-- Which keys a scenario may have, by what it is for.
use Rattle.std.specs.Prelude.{ℕ, Bool, true, false, List, Option, Some, None, if◌then◌else◌}
use Rattle.sspi_scenario.specs.declared.key.Key.{Key}
use Rattle.sspi_scenario.specs.declared.key.Key.TheVariants as key
use Rattle.sspi_scenario.specs.declared.purpose.Purpose.{Purpose}
use Rattle.sspi_scenario.specs.declared.purpose.Purpose.TheVariants.{Exchange, Play, Early}
use Rattle.sspi_scenario.specs.declared.purpose.Purpose.TheVariants.{Sessions, Serve, Connect}
use Rattle.sspi_scenario.specs.Keys.{has, key_named}
use Rattle.sspi_scenario.specs.Optional.{◌>>=◌}

-- only a play has deliveries, and it has neither a turn limit nor a link that changes messages; the
-- sessions of a desk have no such link either; only what reports an early result has a policy that
-- admits users; one end over a channel has no such link, no deliveries and no failing proxy calls
abbrev pub takes : Purpose → Key → Bool
takes Exchange key.Deliver = false
takes Exchange key.Admit = false
takes Play key.Turns = false
takes Play key.Edit = false
takes Play key.Admit = false
takes Early key.Deliver = false
takes Sessions key.Edit = false
takes Sessions key.Deliver = false
takes Sessions key.Admit = false
takes Serve key.Edit = false
takes Serve key.Deliver = false
takes Serve key.ProxyFail = false
takes Connect key.Edit = false
takes Connect key.Deliver = false
takes Connect key.ProxyFail = false
takes purpose other = true

-- whether an end over a channel is given its random value: the challenge of a server, the nonce of
-- a client
abbrev pub has_random : Purpose → List Key → Bool
has_random Exchange keys = true
has_random Play keys = true
has_random Early keys = true
has_random Sessions keys = true
has_random Serve keys = has keys key.Challenge
has_random Connect keys = has keys key.Nonce

-- the key of this name, if a scenario for this purpose may have it
unfoldable pub key_for : Purpose → List ℕ → Option Key
key_for purpose name = do
  k ← key_named name
  if takes purpose k then Some k else None
