-- The texts that name an IP address.
use Rattle.std.specs.Prelude.{ℕ, List}
use Rattle.std.specs.declared.net.ip_addr.IpAddr.{IpAddr}
use Rattle.std.specs.Net.Grammar as grammar

-- the text is an address: an `IPv4address` of RFC 3986, section 3.2.2, or a form of RFC 4291,
-- section 2.2
abbrev pub IsIpText : List ℕ → Type 0
IsIpText text = (address : IpAddr) × grammar.IsIpText text address
