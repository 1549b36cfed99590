-- The number of each protocol of a connection.
use Rattle.std.specs.Prelude.{ℕ}
use Rattle.sspi_types.specs.declared.connection.ConnectionProtocol.{ConnectionProtocol}
use Rattle.sspi_types.specs.declared.connection.ConnectionProtocol.TheVariants.{
  SpProtTls1Client,
  SpProtTls1Server,
  SpProtSsl3Client,
  SpProtSsl3Server,
  SpProtTls1_1Client,
  SpProtTls1_1Server,
  SpProtTls1_2Client,
  SpProtTls1_2Server,
  SpProtTls1_3Client,
  SpProtTls1_3Server,
  SpProtPct1Client,
  SpProtPct1Server,
  SpProtSsl2Client,
  SpProtSsl2Server,
}
use Rattle.sspi_types.specs.declared.connection.ConnectionCipher.{ConnectionCipher}
use Rattle.sspi_types.specs.declared.connection.ConnectionCipher.TheVariants.{Calg3des, CalgAes128}
use Rattle.sspi_types.specs.declared.connection.ConnectionCipher.TheVariants.{CalgAes256, CalgDes}
use Rattle.sspi_types.specs.declared.connection.ConnectionCipher.TheVariants.{CalgRc2, CalgRc4}
use Rattle.sspi_types.specs.declared.connection.ConnectionCipher.TheVariants.{NoEncryption}
use Rattle.sspi_types.specs.declared.connection.ConnectionHash.{ConnectionHash}
use Rattle.sspi_types.specs.declared.connection.ConnectionHash.TheVariants.{CalgMd5, CalgSha}
use Rattle.sspi_types.specs.declared.connection.ConnectionKeyExchange.{ConnectionKeyExchange}
use Rattle.sspi_types.specs.declared.connection.ConnectionKeyExchange.TheVariants.{CalgRsaKeyx}
use Rattle.sspi_types.specs.declared.connection.ConnectionKeyExchange.TheVariants.{CalgDhEphem}

-- the number of each protocol (schannel.h, SP_PROT_*)
abbrev pub connection_protocol_number : ConnectionProtocol → ℕ
connection_protocol_number SpProtTls1Client = 0x0080
connection_protocol_number SpProtTls1Server = 0x0040
connection_protocol_number SpProtSsl3Client = 0x0020
connection_protocol_number SpProtSsl3Server = 0x0010
connection_protocol_number SpProtTls1_1Client = 0x0200
connection_protocol_number SpProtTls1_1Server = 0x0100
connection_protocol_number SpProtTls1_2Client = 0x0800
connection_protocol_number SpProtTls1_2Server = 0x0400
connection_protocol_number SpProtTls1_3Client = 0x2000
connection_protocol_number SpProtTls1_3Server = 0x1000
connection_protocol_number SpProtPct1Client = 0x0002
connection_protocol_number SpProtPct1Server = 0x0001
connection_protocol_number SpProtSsl2Client = 0x0008
connection_protocol_number SpProtSsl2Server = 0x0004

-- the number of each cipher (wincrypt.h, CALG_*)
abbrev pub connection_cipher_number : ConnectionCipher → ℕ
connection_cipher_number Calg3des = 26115
connection_cipher_number CalgAes128 = 26126
connection_cipher_number CalgAes256 = 26128
connection_cipher_number CalgDes = 26113
connection_cipher_number CalgRc2 = 26114
connection_cipher_number CalgRc4 = 26625
connection_cipher_number NoEncryption = 0

-- the number of each hash (wincrypt.h, CALG_*)
abbrev pub connection_hash_number : ConnectionHash → ℕ
connection_hash_number CalgMd5 = 32771
connection_hash_number CalgSha = 32772

-- the number of each key exchange (wincrypt.h, CALG_*)
abbrev pub connection_key_exchange_number : ConnectionKeyExchange → ℕ
connection_key_exchange_number CalgRsaKeyx = 41984
connection_key_exchange_number CalgDhEphem = 43522
