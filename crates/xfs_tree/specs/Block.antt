-- One block of a tree: its header, its records, its keys and pointers, and what is wrong with it.
use Rattle.std.specs.Prelude.{◌≡◌, ℕ, zero, suc, ◌+◌, ◌-◌, ◌*◌, ◌/◌, ◌%◌, ◌^◌, ◌<◌, ◌≤◌, Bool, true, false, ◌==◌, ◌&&◌, nat_lt, nat_le, cond, if◌then◌else◌, IsTrue, List, [], ◌∷◌, map}
use Rattle.std.specs.List.{All, flat_map, range_with_len}
use Rattle.byteorder.specs.Endian.{big_number}
use Rattle.disk_base.specs.Image.{bytes_at}
use Rattle.xfs_super.specs.Geometry.{Geometry}
use Rattle.xfs_super.specs.Superblock.{has_checksum}
use Rattle.disk_base.specs.Fields.{big_at}
use Rattle.xfs_tree.specs.Form.{Form, Setting}
use Rattle.xfs_tree.specs.declared.fault.TreeFault.{TreeFault}
use Rattle.xfs_tree.specs.declared.fault.TreeFault.TheVariants.{Checksum, Header, Level, Order, Range, Marked, Device, Memory}

-- a block of a tree as it is seen: its height (0 is a leaf), the least number of records or keys that it may have, which
-- block of the volume it is, and what it holds
pub record Sight : Type 0 where
  pub height : ℕ
  pub least : ℕ
  pub at : ℕ
  pub bytes : List ℕ

abbrev pub block_seen : ℕ → ℕ → ℕ → List ℕ → Sight
block_seen height least at bytes = record { height = height; least = least; at = at; bytes = bytes }

abbrev pub sight : (ℕ → List ℕ) → ℕ → ℕ → ℕ → Sight
sight volume height least at = block_seen height least at (volume at)

-- the header's places in short and in long blocks
abbrev pub header_len : Bool → ℕ
header_len long = if long then 72 else 56

abbrev pub place_at : Bool → ℕ
place_at long = if long then 24 else 16

abbrev pub identity_at : Bool → ℕ
identity_at long = if long then 40 else 32

abbrev pub checksum_at : Bool → ℕ
checksum_at long = if long then 64 else 52

abbrev pub level_in : List ℕ → ℕ
level_in bytes = big_at 2 bytes 4

-- how many records or keys the block has
abbrev pub count_in : List ℕ → ℕ
count_in bytes = big_at 2 bytes 6

abbrev pub owner_in : Bool → List ℕ → ℕ
owner_in long bytes = if long then big_at 8 bytes 56 else big_at 4 bytes 48

-- the block has its checksum
abbrev pub is_whole : Bool → List ℕ → Bool
is_whole long bytes = has_checksum bytes (checksum_at long)

-- how many records a leaf holds, and how many keys a node
abbrev pub pointer_len : Bool → ℕ
pointer_len long = if long then 8 else 4

abbrev pub leaf_capacity : {R : Type 0} → Form R → ℕ
leaf_capacity form = (4096 - header_len form.long) / form.size

abbrev pub node_capacity : {R : Type 0} → Form R → ℕ
node_capacity form = (4096 - header_len form.long) / (form.key + pointer_len form.long)

abbrev pub capacity : {R : Type 0} → Form R → ℕ → ℕ
capacity form zero = leaf_capacity form
capacity form (suc height) = node_capacity form

-- record `i` of a leaf, and all of them
abbrev pub record_at : {R : Type 0} → Form R → List ℕ → ℕ → R
record_at form bytes i = form.record_of (bytes_at bytes (header_len form.long + form.size * i) form.size)

abbrev pub records_spelt : {R : Type 0} → Form R → List ℕ → List R
records_spelt form bytes = map (record_at form bytes) (range_with_len 0 (count_in bytes))

-- key `i` of a node
abbrev pub key_at : {R : Type 0} → Form R → List ℕ → ℕ → List ℕ
key_at form bytes i = bytes_at bytes (header_len form.long + form.key * i) form.key

-- pointer `i` of a node, and all of them; they stand after the greatest number of keys
abbrev pub pointer_at : {R : Type 0} → Form R → List ℕ → ℕ → ℕ
pointer_at form bytes i =
    if form.long then big_at 8 bytes (72 + form.key * node_capacity form + 8 * i)
    else big_at 4 bytes (56 + form.key * node_capacity form + 4 * i)

abbrev pub pointers : {R : Type 0} → Form R → List ℕ → List ℕ
pointers form bytes = map (pointer_at form bytes) (range_with_len 0 (count_in bytes))

-- the block in its group that a pointer names, and the block of the volume: a short one names a block of its own group
abbrev pub block_to : {R : Type 0} → Setting R → ℕ → ℕ
block_to t p = if t.form.long then p % 2 ^ t.agblklog else p

abbrev pub leads_to : {R : Type 0} → Setting R → ℕ → ℕ
leads_to t p =
    if t.form.long then p / 2 ^ t.agblklog * t.agblocks + p % 2 ^ t.agblklog else t.group * t.agblocks + p

-- it names a block that a group can have, however many groups there are; and one of this volume
abbrev pub stays : {R : Type 0} → Setting R → ℕ → Bool
stays t p = nat_lt (block_to t p) t.agblocks

abbrev pub points_inside : {R : Type 0} → Setting R → Geometry → ℕ → Bool
points_inside t geo p = stays t p && nat_lt (leads_to t p) geo.dblocks

-- the blocks that pointers lead to
abbrev pub blocks_led_to : {R : Type 0} → Setting R → List ℕ → List ℕ
blocks_led_to t ps = flat_map (λ p. cond (stays t p) (leads_to t p ∷ []) []) ps

-- it has its checksum and room for what it has, and spells its height, its place, its owner, its kind and the volume
abbrev pub spells : {R : Type 0} → Setting R → Sight → Bool
spells t s =
    is_whole t.form.long s.bytes
    && ((level_in s.bytes == s.height && nat_le (count_in s.bytes) (capacity t.form s.height))
    && ((big_at 8 s.bytes (place_at t.form.long) == 8 * s.at && owner_in t.form.long s.bytes == t.owner)
    && (big_at 4 s.bytes 0 == big_number 4 t.form.magic && big_at 16 s.bytes (identity_at t.form.long) == big_number 16 t.meta)))

-- the records of a leaf, the leaf that each of them stands in, and the blocks below a node: none where it doesn't spell what it is
abbrev pub records_in : {R : Type 0} → Setting R → Sight → List R
records_in t s = cond (spells t s) (records_spelt t.form s.bytes) []

abbrev pub children : {R : Type 0} → Setting R → Sight → List ℕ
children t s = cond (spells t s) (blocks_led_to t (pointers t.form s.bytes)) []

-- the header of that block of the volume
pub record IsHeader {R : Type 0} (t : Setting R) (at : ℕ) (bytes : List ℕ) : Type 0 where
  pub magic : bytes_at bytes 0 4 ≡ t.form.magic
  pub place : big_at 8 bytes (place_at t.form.long) ≡ 8 * at
  pub identity : bytes_at bytes (identity_at t.form.long) 16 ≡ t.meta
  pub owner : owner_in t.form.long bytes ≡ t.owner

-- what a block of that height has lies inside: the records of a leaf in their group, the pointers of a node in the volume
abbrev pub LieInside : {R : Type 0} → Setting R → Geometry → ℕ → List ℕ → Type 0
LieInside t geo zero bytes = All (λ r. IsTrue (t.form.inside geo t.group r)) (records_spelt t.form bytes)
LieInside t geo (suc height) bytes = All (λ p. IsTrue (points_inside t geo p)) (pointers t.form bytes)

-- its number of records or keys is at least `least` and has room, and what it has lies inside
pub record IsBlockInRange {R : Type 0} (t : Setting R) (geo : Geometry) (s : Sight) : Type 0 where
  pub some : s.least ≤ count_in s.bytes
  pub room : count_in s.bytes ≤ capacity t.form s.height
  pub inside : LieInside t geo s.height s.bytes

-- the keys of a node rise
abbrev pub HaveRisingKeys : {R : Type 0} → Form R → List ℕ → Type 0
HaveRisingKeys form bytes =
    (i : ℕ) → i + 1 < count_in bytes → IsTrue (form.key_before (key_at form bytes i) (key_at form bytes (i + 1)))

abbrev pub HasOrder : {R : Type 0} → Form R → ℕ → List ℕ → Type 0
HasOrder form zero bytes = Unit {0}
HasOrder form (suc height) bytes = HaveRisingKeys form bytes

-- a block that is seen is sound
pub record IsSoundBlock {R : Type 0} (t : Setting R) (geo : Geometry) (s : Sight) : Type 0 where
  pub checksum : is_whole t.form.long s.bytes ≡ true
  pub header : IsHeader t s.at s.bytes
  pub level : level_in s.bytes ≡ s.height
  pub range : IsBlockInRange t geo s
  pub order : HasOrder t.form s.height s.bytes

-- a group and a block in it name that block of the volume
abbrev pub Names : {R : Type 0} → Setting R → ℕ → ℕ → ℕ → Type 0
Names t g b at = (g ≡ at / t.agblocks) × (b ≡ at % t.agblocks)

-- what a fault says of the block that it names
abbrev pub IsBlockFault : {R : Type 0} → Setting R → Geometry → Sight → TreeFault → Type 0
IsBlockFault t geo s (Checksum g b) = Names t g b s.at × (is_whole t.form.long s.bytes ≡ false)
IsBlockFault t geo s (Header g b) = Names t g b s.at × (IsHeader t s.at s.bytes → ⊥)
IsBlockFault t geo s (Level g b) = Names t g b s.at × (level_in s.bytes ≡ s.height → ⊥)
IsBlockFault t geo s (Range g b) = Names t g b s.at × (IsBlockInRange t geo s → ⊥)
IsBlockFault t geo s (Order g b) = Names t g b s.at × (HasOrder t.form s.height s.bytes → ⊥)
IsBlockFault t geo s (Marked g b) = ⊥
IsBlockFault t geo s Device = ⊥
IsBlockFault t geo s Memory = ⊥
