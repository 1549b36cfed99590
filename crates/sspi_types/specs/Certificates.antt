-- The number of each encoding of a certificate.
use Rattle.std.specs.Prelude.{ℕ}
use Rattle.sspi_types.specs.declared.certificate.CertEncodingType.{CertEncodingType}
use Rattle.sspi_types.specs.declared.certificate.CertEncodingType.TheVariants.{Pkcs7AsnEncoding}
use Rattle.sspi_types.specs.declared.certificate.CertEncodingType.TheVariants.{X509AsnEncoding}

-- the number of each encoding (wincrypt.h, *_ASN_ENCODING)
abbrev pub cert_encoding_type_number : CertEncodingType → ℕ
cert_encoding_type_number Pkcs7AsnEncoding = 0x10000
cert_encoding_type_number X509AsnEncoding = 0x00001
