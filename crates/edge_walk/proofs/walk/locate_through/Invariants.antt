use Rattle.std.proofs.Common.{◌≡◌, ◌≤◌, ◌||◌, ◌∷◌, length, None}
use Rattle.edge_model.specs.Walk.{walk, walk_from}
use Rattle.edge_volume.specs.Nodes.{OnTree}
use Rattle.edge_volume.specs.Parts.{Looks}
use Rattle.edge_walk.specs.Reached.{IsReached}
use Rattle.edge_walk.specs.Spots.{AreShort}
use Rattle.edge_walk.specs.Ways.{goes_through}
use Rattle.edge_walk.proofs.ThroughLaws.{goes_from}
use Rattle.edge_walk.proofs.walk.locate_through.Given as goal

abbrev pub invariant-loop-next : goal.invariant-loop-next
invariant-loop-next g l = record {
  more : (goal.iterator-loop-next g).can_next l.next-iterator;
  finite : (goal.iterator-loop-next g).is_finite l.next-iterator;
  looks : Looks g.S.Store None l.fn.s l.s;
  reached : IsReached (g.S.Store.state l.s) l.d;
  walks : OnTree (g.S.Store.state l.fn.s) (λ t. walk t l.fn.names ≡ walk_from t l.d l.name l.next-iterator);
  goes : OnTree (g.S.Store.state l.fn.s)
      (λ t. goes_through t l.fn.names l.fn.n ≡ (l.through || goes_from t l.d (l.name ∷ l.next-iterator) l.fn.n));
  short : AreShort (g.S.Store.state l.fn.s).origin.request l.fn.names
      → (length l.name ≤ (g.S.Store.state l.fn.s).origin.request.name_max) × AreShort (g.S.Store.state l.fn.s).origin.request l.next-iterator;
}
