-- The files of a volume by their paths, as functions of the inodes that are seen.
use Rattle.std.specs.Prelude.{ℕ, Bool, ◌==◌, ◌||◌, cond, Option, Some, None, List, [], ◌∷◌, map, codes}
use Rattle.std.specs.Str.{bytes_eq}
use Rattle.xfs_dir.specs.Item.{DirectoryEntry}
use Rattle.xfs_inode.specs.Core.{core_of}
use Rattle.xfs_inode.specs.Seen.{SeenInode, inode_content, attribute_bytes}
use Rattle.xfs_inode.specs.declared.core_fields.Core.{Core}
use Rattle.xfs_super.specs.Geometry.{Geometry}
use Rattle.xfs_files.specs.Directory.{directory_entries}

-- what is kept of a file: `mode` has its kind, times are as they are stored, and a directory has the names of its entries, with
-- those for itself and its parent where these are stored as entries
pub record File : Type 0 where
  pub mode : ℕ
  pub uid : ℕ
  pub gid : ℕ
  pub nlink : ℕ
  pub project : ℕ
  pub atime : ℕ
  pub mtime : ℕ
  pub ctime : ℕ
  pub crtime : ℕ
  pub size : ℕ
  pub flags : ℕ
  pub flags2 : ℕ
  pub generation : ℕ
  pub attributes : List ℕ
  pub content : List ℕ
  pub names : List (List ℕ)

-- the entries of an inode
abbrev pub entries_seen : Geometry → SeenInode → List DirectoryEntry
entries_seen geo i = directory_entries (core_of geo i.bytes) i.bytes i.contents.extents

abbrev pub file_with : Geometry → Core → SeenInode → File
file_with geo core i = record {
  mode = core.mode;
  uid = core.uid;
  gid = core.gid;
  nlink = core.nlink;
  project = core.project;
  atime = core.atime;
  mtime = core.mtime;
  ctime = core.ctime;
  crtime = core.crtime;
  size = core.size;
  flags = core.flags;
  flags2 = core.flags2;
  generation = core.generation;
  attributes = attribute_bytes geo i;
  content = inode_content geo i;
  names = map (λ e. e.name) (entries_seen geo i);
}

-- the file that an inode is
unfoldable pub file_of : Geometry → SeenInode → File
file_of geo i = file_with geo (core_of geo i.bytes) i

-- ---- paths: lists of names, from the root on; none goes through a link

-- the inode of that number, if it is allocated
abbrev pub inode_numbered : ℕ → List SeenInode → Option SeenInode
inode_numbered ino [] = None
inode_numbered ino (i ∷ is) = cond (i.ino == ino) (Some i) (inode_numbered ino is)

-- the first entry of that name
abbrev pub entry_named : List ℕ → List DirectoryEntry → Option DirectoryEntry
entry_named name [] = None
entry_named name (e ∷ es) = cond (bytes_eq e.name name) (Some e) (entry_named name es)

abbrev pub inode_of_entry : List SeenInode → Option DirectoryEntry → Option SeenInode
inode_of_entry inodes None = None
inode_of_entry inodes (Some e) = inode_numbered e.ino inodes

-- no path goes through the entries of a directory for itself and its parent
abbrev pub is_dot_name : List ℕ → Bool
is_dot_name name = bytes_eq name (codes ".") || bytes_eq name (codes "..")

-- the inode of that name in a directory
abbrev pub inode_under : Geometry → List SeenInode → SeenInode → List ℕ → Option SeenInode
inode_under geo inodes i name = cond (is_dot_name name) None (inode_of_entry inodes (entry_named name (entries_seen geo i)))

-- the file at a path below an inode: that of the inode itself where the path has no name
unfoldable pub file_below : Geometry → List SeenInode → List (List ℕ) → Option SeenInode → Option File
file_below geo inodes path None = None
file_below geo inodes [] (Some i) = Some (file_of geo i)
file_below geo inodes (name ∷ path) (Some i) = file_below geo inodes path (inode_under geo inodes i name)

-- and that at a path from the root on
abbrev pub file_at_path : Geometry → List SeenInode → List (List ℕ) → Option File
file_at_path geo inodes path = file_below geo inodes path (inode_numbered geo.rootino inodes)
