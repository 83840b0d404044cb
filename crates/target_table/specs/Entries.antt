-- What a plan makes of the entries of a GPT.
use Rattle.std.specs.Prelude.{◌≡◌, ℕ, zero, suc, ◌+◌, ◌-◌, ◌==◌, Bool, true, false, if◌then◌else◌, Option, Some, None, option_map, List, [], ◌∷◌, ◌++◌, map, take, replicate, codes, slice_index_or}
use Rattle.std.specs.List.{list_any, range_with_len}
use Rattle.std.specs.Str.{bytes_eq}
use Rattle.disk_base.specs.Checksum.{IsCrc32}
use Rattle.sha1.specs.Sha1.{sha1}
use Rattle.uuid.specs.Parts.{with_variant, with_version}
use Rattle.uuid.specs.declared.Variant.TheVariants.{RFC4122}
use Rattle.uuid.specs.declared.Version.TheVariants.{Sha1}
use Rattle.layout_plan.specs.declared.part.Placed.{Placed}
use Rattle.layout_plan.specs.Plans.{Plan}
use Rattle.gpt_table.specs.declared.entry.Entry.{Entry}
use Rattle.gpt_table.specs.Gpt.{EntryTable, array_bytes}
use Rattle.gpt_table.specs.Header.{IsHeaderSector}
use Rattle.target_work.specs.declared.sector_write.SectorWrite.{SectorWrite}
use Rattle.target_table.specs.Slots.{placed_under}

-- the kind of a partition for data of Linux, 0FC63DAF-8483-4772-8E79-3D69D8477DE4
abbrev pub linux_kind : List ℕ
linux_kind =
    0x0F ∷ 0xC6 ∷ 0x3D ∷ 0xAF ∷ 0x84 ∷ 0x83 ∷ 0x47 ∷ 0x72 ∷ 0x8E ∷ 0x79 ∷ 0x3D ∷ 0x69 ∷ 0xD8 ∷ 0x47 ∷ 0x7D ∷ 0xE4 ∷ []

-- the source's entry of a partition that is placed
abbrev pub source_entry : List (Option Entry) → Placed → Option Entry
source_entry entries placed = slice_index_or entries (placed.from - 1) None

-- an entry from the first to the last sector of what is placed
abbrev pub entry_in_place : Placed → Entry → Entry
entry_in_place placed entry = record entry { first = placed.start; last = placed.start + placed.count - 1 }

-- on the target it keeps its kind, its identifier, its flags and its name
abbrev pub placed_entry : List (Option Entry) → Placed → Option Entry
placed_entry entries placed = option_map (entry_in_place placed) (source_entry entries placed)

-- the entry of the partition that takes what is left over, with that identifier
abbrev pub extra_entry : List ℕ → Placed → Entry
extra_entry id extra = record {
  kind = linux_kind;
  id = id;
  first = extra.start;
  last = extra.start + extra.count - 1;
  flags = 0;
  name = replicate 72 0;
}

-- the entry of that number where no partition of the source has it
abbrev pub spare_entry : List ℕ → Option Placed → ℕ → Option Entry
spare_entry id None number = None
spare_entry id (Some extra) number = if extra.number == number then Some (extra_entry id extra) else None

-- the entry of that number
abbrev pub entry_or_spare : List (Option Entry) → Option Placed → Option Entry → Option Entry
entry_or_spare entries None spare = spare
entry_or_spare entries (Some placed) spare = placed_entry entries placed

abbrev pub target_entry : List ℕ → List (Option Entry) → Plan → ℕ → Option Entry
target_entry id entries plan number = entry_or_spare entries (placed_under plan number) (spare_entry id plan.extra number)

-- the 128 entries, where what is left over has that identifier
unfoldable pub target_entries : List ℕ → List (Option Entry) → Plan → List (Option Entry)
target_entries id entries plan = map (λ number. target_entry id entries plan number) (range_with_len 1 128)

-- the name-based identifier of the text `extra` in a namespace (RFC 9562, 5.5)
unfoldable pub extra_in : List ℕ → List ℕ
extra_in namespace = with_version (with_variant (take 16 (sha1 (namespace ++ codes "extra"))) RFC4122) Sha1

-- whether an entry has that identifier
abbrev pub has_id : List ℕ → Option Entry → Bool
has_id id None = false
has_id id (Some entry) = bytes_eq entry.id id

-- that identifier or, where an entry has it, the one that is based on it, and so on, as often as there may be entries
unfoldable pub fresh_id : ℕ → List (Option Entry) → List ℕ → List ℕ
fresh_id zero entries id = id
fresh_id (suc times) entries id = if list_any (has_id id) entries then fresh_id times entries (extra_in id) else id

-- a plan without what is left over
abbrev pub without_extra : Plan → Plan
without_extra plan = record plan { extra = None }

-- the entries of what is placed, without what is left over
abbrev pub kept_entries : List (Option Entry) → Plan → List (Option Entry)
kept_entries entries plan = target_entries [] entries (without_extra plan)

-- the identifier of the partition that takes what is left over: it is based on the disk's
abbrev pub extra_id : List ℕ → List (Option Entry) → Plan → List ℕ
extra_id disk entries plan = fresh_id 128 (kept_entries entries plan) (extra_in disk)

-- the 128 entries of the target
abbrev pub planned_entries : List ℕ → List (Option Entry) → Plan → List (Option Entry)
planned_entries disk entries plan = target_entries (extra_id disk entries plan) entries plan

-- bytes that are written from a sector on
abbrev pub write_to : ℕ → List ℕ → SectorWrite
write_to at bytes = record { at = at; bytes = bytes }

-- the backup's array and header, and then the primary ones
pub record AreGptWrites (table : EntryTable) (sectors : ℕ) (writes : List SectorWrite) : Type 0 where
  pub sum : ℕ
  pub sums : IsCrc32 (array_bytes table.entries) sum
  pub primary : List ℕ
  pub backup : List ℕ
  pub is_primary : IsHeaderSector table.disk sectors false sum primary
  pub is_backup : IsHeaderSector table.disk sectors true sum backup
  pub writes_are : writes
      ≡ write_to (sectors - 33) (array_bytes table.entries) ∷ write_to (sectors - 1) backup
      ∷ write_to 2 (array_bytes table.entries) ∷ write_to 1 primary ∷ []
