-- The items of a folder.
use Rattle.std.specs.Prelude.{◌≡◌, ℕ, List, [], ◌∷◌, take, drop, Option, Some, None}
use Rattle.edge_io.specs.declared.folder.Item.{Item}
use Rattle.edge_io.specs.declared.folder.ItemKind.{ItemKind}
use Rattle.edge_io.specs.declared.folder.ItemKind.TheVariants.{File, Directory}

-- An item that is left: its path, its kind, and its bytes, none for a directory.
pub record FolderEntry : Type 0 where
  pub path : List ℕ
  pub kind : ItemKind
  pub bytes : List ℕ

-- the bytes that an item of this kind has, of these
abbrev pub bytes_of : ItemKind → List ℕ → List ℕ
bytes_of File bytes = bytes
bytes_of Directory bytes = []

-- A folder gave no item, for none was left, and nothing has changed.
pub record GivesNone (path_before path_after : List ℕ) (items_before items_after : List FolderEntry) (left_before left_after : List ℕ) : Type 0 where
  pub end : items_before ≡ []
  pub items : items_after ≡ items_before
  pub left : left_after ≡ left_before
  pub path : path_after ≡ path_before

-- A folder gave this item, the first of those left. Its path is the front of the slice for the path, the rest
-- of which has not changed, and its bytes are those left.
pub record GivesFirst (item : Item) (path_before path_after : List ℕ) (items_before items_after : List FolderEntry) (left_after : List ℕ) : Type 0 where
  pub first : items_before ≡ record { path = take item.path_len path_after; kind = item.kind; bytes = left_after } ∷ items_after
  pub rest : drop item.path_len path_after ≡ drop item.path_len path_before
  pub none : item.kind ≡ Directory → left_after ≡ []

-- A folder gave an item, or none.
abbrev pub GivesItem : Option Item → List ℕ → List ℕ → List FolderEntry → List FolderEntry → List ℕ → List ℕ → Type 0
GivesItem None path path_after items items_after left left_after = GivesNone path path_after items items_after left left_after
GivesItem (Some item) path path_after items items_after left left_after = GivesFirst item path path_after items items_after left_after
