-- What a cut does, step by step.
use Rattle.std.specs.Prelude.{ℕ, ◌+◌}
use Rattle.edge_base.specs.declared.form.Form.{Form}
use Rattle.edge_base.specs.declared.form.Form.TheVariants as form
use Rattle.edge_base.specs.declared.geometry.Request.{Request}
use Rattle.edge_base.specs.layout.Places.{entries_of, pointers_of}
use Rattle.edge_store.specs.View.{View, IsView}
use Rattle.edge_moves.specs.Renewal.{EntryRenewed, PointerRenewed}
use Rattle.edge_shape.specs.declared.cut.Cut.{Cut}
use Rattle.edge_shape.specs.declared.cut.Cut.TheVariants.{Whole, Node, Top, Both}
use Rattle.edge_shape.specs.Trees.{IsSoundTree, IsSoundInode}
use Rattle.edge_shape.specs.Cutting.{CutPlaces, CutEntries}

-- The block of an entry, a pointer node, is made new and cut from a place on, and the entries behind it go.
pub record NodeSteps (g : Request) (c v w : View) (n entry : ℕ) (f : Form) (place : ℕ) : Type 0 where
  pub block : ℕ
  pub owned : View
  pub own : EntryRenewed g c v owned n entry block
  pub owned_view : IsView g owned
  pub trimmed : View
  pub trimmed_view : IsView g trimmed
  pub cut : IsSoundTree g owned f n block → CutPlaces owned trimmed f n block place (pointers_of g)
  pub rest : IsSoundInode g trimmed n (entry + 1) → CutEntries g trimmed w n (entry + 1) (entries_of g)

-- A double-indirect node and an indirect node under it are made new and cut, and the entries behind them go.
pub record BothSteps (g : Request) (c v w : View) (n entry outer place : ℕ) : Type 0 where
  pub top : ℕ
  pub node : ℕ
  pub one : View
  pub one_view : IsView g one
  pub own_top : EntryRenewed g c v one n entry top
  pub two : View
  pub two_view : IsView g two
  pub own_node : PointerRenewed g c one two form.Double n top outer node
  pub three : View
  pub three_view : IsView g three
  pub cut_node : IsSoundTree g two form.Indirect n node → CutPlaces two three form.Indirect n node place (pointers_of g)
  pub four : View
  pub four_view : IsView g four
  pub cut_top : IsSoundTree g three form.Double n top → CutPlaces three four form.Double n top (outer + 1) (pointers_of g)
  pub rest : IsSoundInode g four n (entry + 1) → CutEntries g four w n (entry + 1) (entries_of g)

-- Where nothing is cut through, the entries from one on go.
abbrev pub Steps : Request → View → View → View → ℕ → Cut → Type 0
Steps g c v w n (Whole entry) = IsSoundInode g v n entry → CutEntries g v w n entry (entries_of g)
Steps g c v w n (Node entry place) = NodeSteps g c v w n entry form.Indirect place
Steps g c v w n (Top entry place) = NodeSteps g c v w n entry form.Double place
Steps g c v w n (Both entry outer place) = BothSteps g c v w n entry outer place
