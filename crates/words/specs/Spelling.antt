-- What the values of the options spell: a partition, a logical volume, a volume, a size and the like.
use Rattle.std.specs.Prelude.{ℕ, ◌+◌, ◌&&◌, ◌||◌, Bool, true, false, Option, Some, None, List, length, take, drop, nat_lt, nat_le, ◌==◌, if◌then◌else◌, position, codes, option_and_then}
use Rattle.std.specs.List.{list_all, starts_with}
use Rattle.std.specs.Str.{bytes_eq}
use Rattle.std.specs.Prelude.{nat_eq}
use Rattle.words.specs.declared.job.VolumeName.{VolumeName}
use Rattle.words.specs.declared.job.VolumeName.TheVariants.{Part, Lv, Group}
use Rattle.words.specs.declared.job.Unknown.{Unknown}
use Rattle.words.specs.declared.job.Unknown.TheVariants.{Ignore, Warn, Error}
use Rattle.words.specs.Numbers.{is_digit, whole_number_of}

-- what stands behind a leading `/dev/`, or all of it
abbrev pub without_dev : List ℕ → List ℕ
without_dev bytes = if starts_with nat_eq bytes (codes "/dev/") then drop 5 bytes else bytes

-- whether the name of a disk stands first, one whose partitions may be named
abbrev pub begins_with_disk : List ℕ → Bool
begins_with_disk name = starts_with nat_eq name (codes "sda") || starts_with nat_eq name (codes "vda") || starts_with nat_eq name (codes "hda")

-- a partition: `/dev/` or nothing, a disk, and a number of one to four digits of which the first isn't 0
unfoldable pub part_of : List ℕ → Option ℕ
part_of bytes = if begins_with_disk (without_dev bytes) then whole_number_of 4 (drop 3 (without_dev bytes)) else None

-- letters, digits, `_`, `.`, `+` and `-`
abbrev pub is_name_byte : ℕ → Bool
is_name_byte byte = is_digit byte || nat_le 65 byte && nat_le byte 90 || nat_le 97 byte && nat_le byte 122 || byte == 95 || byte == 46 || byte == 43 || byte == 45

-- the name of a group or of a logical volume: one or more of them
abbrev pub is_name : List ℕ → Bool
is_name bytes = nat_lt 0 (length bytes) && list_all is_name_byte bytes

-- the bytes before the first `byte` and those behind it
abbrev pub parted_at : ℕ → List ℕ → Option (List ℕ × List ℕ)
parted_at byte bytes = option_and_then (λ at. Some (take at bytes, drop (at + 1) bytes)) (position (λ b. b == byte) bytes)

-- the names of a logical volume's group and of itself, `/dev/` or nothing before them and `/` between them
unfoldable pub lv_of : List ℕ → Option (List ℕ × List ℕ)
lv_of bytes = option_and_then (λ names. if is_name names.0 && is_name names.1 then Some names else None) (parted_at 47 (without_dev bytes))

-- a volume: a partition, a logical volume, or a group whose name is no partition
unfoldable pub volume_of : List ℕ → Option VolumeName
volume_of bytes = elim (part_of bytes) [ Some number ↦ Some (Part number) | None ↦ elim (lv_of bytes) [ Some names ↦ Some (Lv names.0 names.1) | None ↦ (if is_name bytes then Some (Group bytes) else None) ] ]

-- whether two names are those of one volume
abbrev pub is_same_volume : VolumeName → VolumeName → Bool
is_same_volume (Part a) (Part b) = a == b
is_same_volume (Lv a b) (Lv c d) = bytes_eq a c && bytes_eq b d
is_same_volume (Group a) (Group b) = bytes_eq a b
is_same_volume a b = false

-- 1 to 1048576, in one to seven digits
unfoldable pub alignment_of : List ℕ → Option ℕ
alignment_of bytes = option_and_then (λ number. if nat_le number 1048576 then Some number else None) (whole_number_of 7 bytes)

-- whether the first partition is aligned: `auto` is `never`
unfoldable pub align_first_of : List ℕ → Option Bool
align_first_of bytes = if bytes_eq bytes (codes "always") then Some true else if bytes_eq bytes (codes "never") || bytes_eq bytes (codes "auto") then Some false else None

-- what is done about a content that can't grow
unfoldable pub unknown_of : List ℕ → Option Unknown
unknown_of bytes = if bytes_eq bytes (codes "ignore") then Some Ignore else if bytes_eq bytes (codes "warn") then Some Warn else if bytes_eq bytes (codes "error") then Some Error else None
