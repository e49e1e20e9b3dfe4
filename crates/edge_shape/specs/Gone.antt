-- Positions that are gone where some pointers are.
use Rattle.std.specs.Prelude.{◌≡◌, ◌≢◌, ℕ, ◌+◌, ◌-◌, ◌/◌, ◌%◌, ◌<◌, ◌==◌, ◌&&◌, ◌||◌, not, Bool, true, false, nat_lt, nat_le, if◌then◌else◌, List, slice_index, filter}
use Rattle.edge_base.specs.declared.form.Form.{Form}
use Rattle.edge_base.specs.declared.form.Form.TheVariants.{Plain, Indirect, Double}
use Rattle.edge_base.specs.declared.geometry.Request.{Request}
use Rattle.edge_base.specs.layout.Places.{pointers_of}
use Rattle.edge_store.specs.View.{View, is_spot}
use Rattle.edge_store.specs.Placed.{entry_at, double_block, indirect_block, data_block, block_at}
use Rattle.edge_moves.specs.Relinks.{number_under}
use Rattle.edge_moves.specs.Sound.{numbered}
use Rattle.edge_shape.specs.Shape.{entries_at}

-- the pointers that are taken away: entries, places of double-indirect nodes, places of indirect nodes
pub record Pointers : Type 0 where
  pub entry : ℕ → Bool
  pub outer : ℕ → ℕ → Bool
  pub inner : ℕ → ℕ → Bool

module _ (g : Request) (taken : Pointers) where
  abbrev pub gone_double : ℕ → Bool
  gone_double d = taken.entry (g.direct + g.indirect + d)

  abbrev pub gone_indirect : ℕ → Bool
  gone_indirect j =
      if nat_lt j g.indirect then taken.entry (g.direct + j)
      else (gone_double ((j - g.indirect) / pointers_of g) || taken.outer ((j - g.indirect) / pointers_of g) ((j - g.indirect) % pointers_of g))

  abbrev pub gone_data : ℕ → Bool
  gone_data i =
      if nat_lt i g.direct then taken.entry i
      else (gone_indirect ((i - g.direct) / pointers_of g) || taken.inner ((i - g.direct) / pointers_of g) ((i - g.direct) % pointers_of g))

  -- whether the pointer to a position is taken away, or one above it
  abbrev pub gone : Form → ℕ → Bool
  gone Plain i = gone_data i
  gone Indirect j = gone_indirect j
  gone Double d = gone_double d

  -- the indices that stay
  abbrev pub left : List ℕ → List ℕ
  left indices = filter (λ i. not (gone_data i)) indices

-- From v to w these pointers of node n are gone; its other pointers are as they were, as far as they are reached.
pub record Unlinks (g : Request) (v w : View) (n : ℕ) (taken : Pointers) : Type 0 where
  pub entries : (e : ℕ) → entry_at w n e ≡ (if taken.entry e then 0 else entry_at v n e)
  pub outer : (d s : ℕ) → gone_double g taken d ≡ false → double_block g v n d ≢ 0
      → slice_index (entries_at w Double (double_block g v n d)) s ≡ (if taken.outer d s then 0 else slice_index (entries_at v Double (double_block g v n d)) s)
  pub inner : (j p : ℕ) → gone_indirect g taken j ≡ false → indirect_block g v n j ≢ 0
      → slice_index (entries_at w Indirect (indirect_block g v n j)) p
      ≡ (if taken.inner j p then 0 else slice_index (entries_at v Indirect (indirect_block g v n j)) p)

-- Under each pointer node that stays, something stays.
pub record Leaves (g : Request) (v : View) (n : ℕ) (taken : Pointers) : Type 0 where
  pub inner : (j : ℕ) → gone_indirect g taken j ≡ false → indirect_block g v n j ≢ 0
      → (p : ℕ) × (p < pointers_of g) × (data_block g v n (number_under g Indirect j p) ≢ 0) × (taken.inner j p ≡ false)
  pub outer : (d : ℕ) → gone_double g taken d ≡ false → double_block g v n d ≢ 0
      → (s : ℕ) × (s < pointers_of g) × (indirect_block g v n (number_under g Double d s) ≢ 0) × (taken.outer d s ≡ false)

-- Each block of node n that stays has its form and owner in w too.
abbrev pub KeepsSpots : Request → View → View → ℕ → Pointers → Type 0
KeepsSpots g v w n taken = (form : Form) (m : ℕ) → gone g taken form m ≡ false → block_at g v (numbered n form m) ≢ 0
    → is_spot w form n (block_at g v (numbered n form m)) ≡ true

-- ---- pointers side by side

-- the places of indirect node j from one up to another
abbrev pub indirect_places : ℕ → ℕ → ℕ → Pointers
indirect_places j from upto = record { entry = λ e. false; outer = λ d s. false; inner = λ l p. (l == j) && (nat_le from p && nat_lt p upto) }

-- those of double-indirect node d
abbrev pub double_places : ℕ → ℕ → ℕ → Pointers
double_places d from upto = record { entry = λ e. false; outer = λ c s. (c == d) && (nat_le from s && nat_lt s upto); inner = λ l p. false }

-- the entries from one up to another
abbrev pub entry_places : ℕ → ℕ → Pointers
entry_places from upto = record { entry = λ e. nat_le from e && nat_lt e upto; outer = λ d s. false; inner = λ l p. false }
