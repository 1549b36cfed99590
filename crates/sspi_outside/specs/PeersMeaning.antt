-- What it means to accept the peers of a list, or whoever is named.
use Rattle.std.specs.Prelude.{ℕ}
use Rattle.sspi_credssp.specs.Proxy.{ProxyMeaning, ProxyTells}
use Rattle.sspi_credssp.specs.Table.{table_meaning}
use Rattle.sspi_outside.specs.Peers.{any_tells}
use Rattle.sspi_outside.specs.declared.peers.Peers.{Peers}
use Rattle.sspi_outside.specs.declared.peers.Peers.TheVariants.{Listed, Anyone}

abbrev pub peers_tell : Peers → ProxyTells
peers_tell (Listed table) = table_meaning.told table
peers_tell (Anyone peer) = any_tells

abbrev pub peers_calls : Peers → ℕ
peers_calls (Listed table) = table.calls
peers_calls (Anyone peer) = peer.calls

abbrev pub peers_faults : Peers → ℕ
peers_faults (Listed table) = table.faults
peers_faults (Anyone peer) = 0

abbrev pub peers_meaning : ProxyMeaning Peers
peers_meaning = record { told = peers_tell; calls = peers_calls; faults = peers_faults }
