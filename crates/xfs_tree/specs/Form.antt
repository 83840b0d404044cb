-- A kind of record: how it stands in a block, and how records of the kind are ordered.
use Rattle.std.specs.Prelude.{◌≡◌, ℕ, ◌≤◌, Bool, List}
use Rattle.xfs_super.specs.Geometry.{Geometry}

pub record Form (R : Type 0) : Type 0 where
  pub long : Bool  -- the tree's blocks are long ones
  pub size : ℕ  -- bytes of a record in a leaf
  pub key : ℕ  -- bytes of a key in a node
  pub magic : List ℕ  -- what the tree's blocks begin with
  pub record_of : List ℕ → R  -- the record that bytes spell
  pub bytes_of : R → List ℕ  -- the bytes that spell it
  pub key_of : R → List ℕ  -- the key that leads to it
  pub fits : R → Bool  -- each field fits its width on the disk
  pub before : R → R → Bool  -- the order of records
  pub key_before : List ℕ → List ℕ → Bool  -- the order of keys
  pub inside : Geometry → ℕ → R → Bool  -- a record lies in its group

-- of which kind a tree is and whose, and what growth keeps of the volume that it stands in
pub record Setting (R : Type 0) : Type 0 where
  pub form : Form R
  pub agblocks : ℕ
  pub agblklog : ℕ
  pub meta : List ℕ
  pub group : ℕ  -- the group of a short tree
  pub owner : ℕ  -- what its blocks name: the group of a short tree, the inode of a long one

abbrev pub setting_of : {R : Type 0} → Form R → Geometry → ℕ → ℕ → Setting R
setting_of form geo group owner = record {
  form = form;
  agblocks = geo.agblocks;
  agblklog = geo.agblklog;
  meta = geo.meta;
  group = group;
  owner = owner;
}

-- a volume that grew: its groups are as large as before, there may be more, and what its numbers mean is the same
pub record IsGrown (geo grown : Geometry) : Type 0 where
  pub agblocks : grown.agblocks ≡ geo.agblocks
  pub agblklog : grown.agblklog ≡ geo.agblklog
  pub inopblog : grown.inopblog ≡ geo.inopblog
  pub meta : grown.meta ≡ geo.meta
  pub more : geo.dblocks ≤ grown.dblocks
  pub groups : geo.agcount ≤ grown.agcount
