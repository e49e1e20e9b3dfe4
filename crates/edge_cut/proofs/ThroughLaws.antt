-- Where a cut at an index goes through, by the way to the index.
use Rattle.std.proofs.Common.{◌≡◌, ℕ, ◌<◌, sym, ap, ◌∙◌, subst}
use Rattle.std.specs.Prelude.{Result, Ok, Err, IfOk}
use Rattle.edge_base.specs.declared.way.Way.{Way}
use Rattle.edge_base.specs.layout.Places.{max_blocks_of, way_of, IsWithinNodes}
use Rattle.edge_store.specs.State.{StoreState}
use Rattle.edge_shape.specs.declared.cut.Cut.{Cut}
use Rattle.edge_shape.specs.Where.{cut_of_way, IsWithin}
use Rattle.edge_shape.proofs.WithinLaws.{cut_of_way-within, cut_at-below}
use Rattle.edge_cut.specs.Through.{IsCutOfWay, IsCutAt, GoesThroughThere}

pub at_way : {E : Type 0} (s : StoreState) (n i : ℕ) (on : Way) (result : Result Cut E) → i < max_blocks_of s.origin.request → way_of s.origin.request i ≡ on
    → IfOk result (IsCutOfWay s n on) → IfOk result (IsCutAt s n i)
at_way s n i on (Ok cut) low is at = λ told. at told ∙ sym (cut_at-below s.origin.request s.working n i low ∙ ap (cut_of_way s.origin.request s.working n) is)
at_way s n i on (Err fault) low is at = at

pub within_way : {E : Type 0} (s : StoreState) (n : ℕ) (on : Way) (result : Result Cut E) → IsWithinNodes s.origin.request on → IfOk result (IsCutOfWay s n on) → IfOk result (GoesThroughThere s n)
within_way s n on (Ok cut) low at = λ told. subst (IsWithin s.origin.request s.working n) (sym (at told)) (cut_of_way-within s.origin.request s.working n on low)
within_way s n on (Err fault) low at = at
