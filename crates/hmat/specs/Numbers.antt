-- The numbers that the enums stand for.
use Rattle.std.specs.Prelude.{ℕ}
use Rattle.hmat.specs.declared.DataType.{DataType}
use Rattle.hmat.specs.declared.DataType.TheVariants as datum
use Rattle.hmat.specs.declared.MinTransferSize.{MinTransferSize}
use Rattle.hmat.specs.declared.MinTransferSize.TheVariants as transfer
use Rattle.hmat.specs.declared.LocalityType.{LocalityType}
use Rattle.hmat.specs.declared.LocalityType.TheVariants as locality
use Rattle.hmat.specs.declared.CacheLevel.{CacheLevel}
use Rattle.hmat.specs.declared.CacheLevel.TheVariants as level
use Rattle.hmat.specs.declared.Associativity.{Associativity}
use Rattle.hmat.specs.declared.Associativity.TheVariants as associativity
use Rattle.hmat.specs.declared.WritePolicy.{WritePolicy}
use Rattle.hmat.specs.declared.WritePolicy.TheVariants as policy

abbrev pub data_type_number : DataType → ℕ
data_type_number datum.AccessLatency = 0
data_type_number datum.ReadLatency = 1
data_type_number datum.WriteLatency = 2
data_type_number datum.AccessBandwidth = 3
data_type_number datum.ReadBandwidth = 4
data_type_number datum.WriteBandwidth = 5

abbrev pub transfer_number : MinTransferSize → ℕ
transfer_number transfer.SizeByteAligned = 0
transfer_number transfer.Size64b = 1
transfer_number transfer.Size128b = 2
transfer_number transfer.Size256b = 3
transfer_number transfer.Size512b = 4
transfer_number transfer.Size1k = 5
transfer_number transfer.Size2k = 6
transfer_number transfer.Size4k = 7
transfer_number transfer.Size8k = 8
transfer_number transfer.Size16k = 9
transfer_number transfer.Size32k = 10
transfer_number transfer.Size64k = 11

abbrev pub locality_number : LocalityType → ℕ
locality_number locality.Memory = 0
locality_number locality.FirstLevelCache = 1
locality_number locality.SecondLevelCache = 2
locality_number locality.ThirdLevelCache = 3

abbrev pub level_number : CacheLevel → ℕ
level_number level.None = 0
level_number level.One = 1
level_number level.Two = 2
level_number level.Three = 3

abbrev pub associativity_number : Associativity → ℕ
associativity_number associativity.None = 0
associativity_number associativity.DirectMapped = 1
associativity_number associativity.Complex = 2

abbrev pub policy_number : WritePolicy → ℕ
policy_number policy.None = 0
policy_number policy.Writeback = 1
policy_number policy.Writethrough = 2
