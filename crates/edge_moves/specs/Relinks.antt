-- Where a node's blocks are, told for each of its positions.
use Rattle.std.specs.Prelude.{◌≡◌, ◌≢◌, ◌+◌, ◌-◌, ◌*◌, ◌<◌, ℕ, nat_lt, if◌then◌else◌}
use Rattle.edge_base.specs.declared.form.Form.{Form}
use Rattle.edge_base.specs.declared.form.Form.TheVariants.{Plain, Indirect, Double}
use Rattle.edge_base.specs.declared.geometry.Request.{Request}
use Rattle.edge_base.specs.layout.Places.{entries_of, pointers_of}
use Rattle.edge_base.specs.tree.Positions.{positions_of_form}
use Rattle.edge_store.specs.Damages.{form_of_entry, form_under}
use Rattle.edge_store.specs.Placed.{entry_at, pointer_at}
use Rattle.edge_store.specs.View.{View}

-- the number, among the positions of its form, of the one that an entry leads to
abbrev pub number_of_entry : Request → ℕ → ℕ
number_of_entry g e = if nat_lt e g.direct then e else if nat_lt e (g.direct + g.indirect) then e - g.direct else e - g.direct - g.indirect

-- the number of the one that a place of a pointer node leads to
abbrev pub number_under : Request → Form → ℕ → ℕ → ℕ
number_under g Double m place = g.indirect + (m * pointers_of g + place)
number_under g Indirect m place = g.direct + (m * pointers_of g + place)
number_under g Plain m place = 0

-- The pointers of node n lead to the blocks that a function tells for its positions.
pub record Relinks (g : Request) (w : View) (n : ℕ) (to : Form → ℕ → ℕ) : Type 0 where
  pub entries : (e : ℕ) → e < entries_of g → entry_at w n e ≡ to (form_of_entry g e) (number_of_entry g e)
  pub pointers : (form : Form) (m place : ℕ) → form ≢ Plain → m < positions_of_form g form → place < pointers_of g
      → pointer_at w form (to form m) place ≡ to (form_under form) (number_under g form m place)
