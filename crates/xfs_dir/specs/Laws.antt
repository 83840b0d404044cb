-- What holds of every block and of every short form.
use Rattle.std.specs.Prelude.{◌≡◌, ℕ, List}
use Rattle.xfs_dir.specs.Item.{DirItem}
use Rattle.xfs_dir.specs.Block.{BlockSpells, IsBlockEntryFault, block_items}
use Rattle.xfs_dir.specs.Short.{ShortItem, ShortSpells, IsShortEntryFault}
use Rattle.xfs_dir.specs.ShortScan.{short_items}

-- a block spells one list of items alone, which its bytes give, and where it has a fault it spells none
pub record BlocksAreExact (bytes : List ℕ) (items : List DirItem) : Type 0 where
  pub once : BlockSpells bytes items → block_items bytes ≡ items
  pub excluded : BlockSpells bytes items → (at : ℕ) → IsBlockEntryFault bytes at → ⊥

-- so does a short form
pub record ShortFormsAreExact (bytes : List ℕ) (items : List ShortItem) : Type 0 where
  pub once : ShortSpells bytes items → short_items bytes ≡ items
  pub excluded : ShortSpells bytes items → (at : ℕ) → IsShortEntryFault bytes at → ⊥
