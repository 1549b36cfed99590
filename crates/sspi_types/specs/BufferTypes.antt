-- The number of each type of a buffer.
use Rattle.std.specs.Prelude.{ℕ}
use Rattle.sspi_types.specs.declared.buffer_type.BufferType.{BufferType}
use Rattle.sspi_types.specs.declared.buffer_type.BufferType.TheVariants.{
  Empty,
  Data,
  Token,
  TransportToPackageParameters,
  Missing,
  Extra,
  StreamTrailer,
  StreamHeader,
  NegotiationInfo,
  Padding,
  Stream,
  ObjectIdsList,
  ObjectIdsListSignature,
  Target,
  ChannelBindings,
  ChangePasswordResponse,
  TargetHost,
  Alert,
  ApplicationProtocol,
  AttributeMark,
  ReadOnly,
  ReadOnlyWithChecksum,
}

-- the number of each type (sspi.h, SECBUFFER_*)
abbrev pub buffer_type_number : BufferType → ℕ
buffer_type_number Empty = 0
buffer_type_number Data = 1
buffer_type_number Token = 2
buffer_type_number TransportToPackageParameters = 3
buffer_type_number Missing = 4
buffer_type_number Extra = 5
buffer_type_number StreamTrailer = 6
buffer_type_number StreamHeader = 7
buffer_type_number NegotiationInfo = 8
buffer_type_number Padding = 9
buffer_type_number Stream = 10
buffer_type_number ObjectIdsList = 11
buffer_type_number ObjectIdsListSignature = 12
buffer_type_number Target = 13
buffer_type_number ChannelBindings = 14
buffer_type_number ChangePasswordResponse = 15
buffer_type_number TargetHost = 16
buffer_type_number Alert = 17
buffer_type_number ApplicationProtocol = 18
buffer_type_number AttributeMark = 0xf0000000
buffer_type_number ReadOnly = 0x80000000
buffer_type_number ReadOnlyWithChecksum = 0x10000000
