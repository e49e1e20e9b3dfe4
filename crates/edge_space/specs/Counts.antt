-- How many positions of a run of data blocks are not dirty, form by form, where the views are told. s is a store as a call begins.
use Rattle.std.specs.Prelude.{◌≡◌, ◌+◌, ◌-◌, ℕ, not, max, count_by}
use Rattle.std.specs.List.{range_with_len}
use Rattle.edge_base.specs.declared.form.Form.{Form}
use Rattle.edge_base.specs.declared.form.Form.TheVariants.{Plain, Indirect, Double}
use Rattle.edge_base.specs.declared.geometry.Request.{Request}
use Rattle.edge_store.specs.Fresh.{is_dirty}
use Rattle.edge_store.specs.Placed.{entry_at, pointer_at, indirect_block}
use Rattle.edge_store.specs.State.{StoreState, Told}
use Rattle.edge_store.specs.View.{View, is_new}
use Rattle.edge_moves.specs.Relinks.{number_under}
use Rattle.edge_moves.specs.Renewal.{cost}
use Rattle.edge_moves.specs.Sound.{numbered}
use Rattle.edge_count.specs.Runs.{run_first, run_count}

-- of so many positions of a form of node n, from a number on, how many are not dirty
abbrev pub fresh_of_form : Request → View → View → ℕ → Form → ℕ → ℕ → ℕ
fresh_of_form g c v n form first count = count_by (λ k. not (is_dirty g c v (numbered n form k))) (range_with_len first count)

-- of the positions of a run of data blocks, and of the pointer nodes above them
abbrev pub fresh_of_run : Request → View → View → ℕ → ℕ → ℕ → ℕ
fresh_of_run g c v n first count =
    fresh_of_form g c v n Plain first count
    + fresh_of_form g c v n Indirect (run_first g first count Indirect) (run_count g first count Indirect)
    + fresh_of_form g c v n Double (run_first g first count Double) (run_count g first count Double)

abbrev pub IsFreshRun : StoreState → ℕ → ℕ → ℕ → ℕ → Type 0
IsFreshRun s n first count fresh = Told s → fresh ≡ fresh_of_run s.origin.request s.committed s.working n first count

-- of the data blocks of a run behind the direct ones, and of the indirect nodes that they are in
abbrev pub AreFreshRows : StoreState → ℕ → ℕ → ℕ → ℕ → Type 0
AreFreshRows s n first count fresh = Told s → (let g = s.origin.request in
    fresh ≡ fresh_of_form g s.committed s.working n Indirect (run_first g first count Indirect) (run_count g first count Indirect)
    + fresh_of_form g s.committed s.working n Plain (max first g.direct) (first + count - max first g.direct))

-- of an indirect node, and of so many data blocks in it from a place on
abbrev pub IsFreshRow : StoreState → ℕ → ℕ → ℕ → ℕ → ℕ → Type 0
IsFreshRow s n row first count fresh = Told s → (let g = s.origin.request in
    fresh ≡ fresh_of_form g s.committed s.working n Indirect row 1 + fresh_of_form g s.committed s.working n Plain (number_under g Indirect row first) count)

-- ---- blocks

-- the block of indirect node `row`, 0 where it is absent
abbrev pub IsIndirectNode : StoreState → ℕ → ℕ → ℕ → Type 0
IsIndirectNode s n row b = Told s → b ≡ indirect_block s.origin.request s.working n row

-- what making the block in a place of an indirect node new takes
abbrev pub IsPlaceCost : StoreState → ℕ → ℕ → ℕ → Type 0
IsPlaceCost s b place taken = Told s → taken ≡ cost s.committed s.working (pointer_at s.working Indirect b place)

-- how many of the blocks in places of it are not new
abbrev pub AreFreshPlaces : StoreState → ℕ → ℕ → ℕ → ℕ → Type 0
AreFreshPlaces s b first count fresh = Told s
    → fresh ≡ count_by (λ k. not (is_new s.committed s.working (pointer_at s.working Indirect b k))) (range_with_len first count)

-- and of those of entries of an inode
abbrev pub AreFreshEntries : StoreState → ℕ → ℕ → ℕ → ℕ → Type 0
AreFreshEntries s n first count fresh = Told s
    → fresh ≡ count_by (λ e. not (is_new s.committed s.working (entry_at s.working n e))) (range_with_len first count)
