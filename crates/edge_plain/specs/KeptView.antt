-- The view that is kept.
use Rattle.edge_plain.specs.declared.plain_view.PlainView.{PlainView}
use Rattle.edge_plain.specs.Kept.{view_in}
use Rattle.edge_store.specs.View.{View}

abbrev pub view_of : PlainView → View
view_of v = view_in v.geometry v.heads.items v.entries.items v.forms.items v.owners.items v.pointers.items v.bytes.items
