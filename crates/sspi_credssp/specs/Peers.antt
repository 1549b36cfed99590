-- The peers that a server knows when its context is made: a negotiation is made with those that the
-- proxy lists.
use Rattle.std.specs.Prelude.{List, [], Option}
use Rattle.sspi_names.specs.declared.identity.AuthIdentity.{AuthIdentity}
use Rattle.sspi_mech.specs.Meaning.{Meaning}
use Rattle.sspi_negotiate.specs.declared.negotiate_config.NegotiateConfig.{NegotiateConfig}
use Rattle.sspi_negotiate.specs.New.{NegotiateSetting, ForClient, ForServer}
use Rattle.sspi_negotiate.specs.Values.{Negotiation}
use Rattle.sspi_credssp.specs.Proxy.{IsTold}

-- what a negotiation is made of: on a server also the entries of its proxy, if it exposes them
pub data PeersSetting : Type 0 where
  OfClient : NegotiateConfig → PeersSetting
  OfServer : NegotiateConfig → Option (List AuthIdentity) → PeersSetting

-- the setting of a negotiation with the listed identities
abbrev pub listed_setting : PeersSetting → List AuthIdentity → NegotiateSetting
listed_setting (OfClient config) known = ForClient config
listed_setting (OfServer config told) known = ForServer config known

-- a client lists nobody
abbrev pub AreListed : PeersSetting → List AuthIdentity → Type 0
AreListed (OfClient config) known = Unit {0}
AreListed (OfServer config told) known = IsTold told known

-- The same negotiation, but a server's is made with all that its proxy lists. Whether it can be
-- made does not depend on them.
abbrev pub knowing : {M : Type 0} → Meaning NegotiateSetting (Negotiation M) →
    Meaning PeersSetting (Negotiation M)
knowing c = record {
  made = λ s m. AreListed s m.known × c.made (listed_setting s m.known) m;
  unmade = λ s kind. c.unmade (listed_setting s []) kind;
  acquires = c.acquires;
  steps = c.steps;
  resumes = c.resumes;
  accepts = c.accepts;
  identifies = c.identifies;
  names = c.names;
  keyed = c.keyed;
  session_key = c.session_key;
  waits = c.waits;
  left = c.left;
  pairs = c.pairs;
  counts = c.counts;
  counted = c.counted;
  seals = c.seals;
  opens = c.opens;
  signs = c.signs;
  verifies = c.verifies;
  permits = c.permits;
  refuses = c.refuses;
  entry = c.entry;
  sizes = c.sizes;
}
