use Rattle.std.proofs.Common.{◌∙◌, ap}
use Rattle.edge_base.specs.declared.geometry.Request.{Request}
use Rattle.edge_base.specs.layout.Places.{allocable_of}
use Rattle.edge_calls.specs.State.{volume_of}
use Rattle.edge_calls.proofs.SessionLaws.{space_told}
use Rattle.edge_calls.proofs.volume.Volume.space.Goals as goal

pub returns : goal.returns
returns g c = record {
  did = λ out.
      let v = volume_of g.S.Store c.args.self.now in
      space_told v out _ c.requires.live (λ s stands. record {
        now = c.free-free.ensures.now stands.store.told c.requires.live;
        after = c.free-free.ensures.after stands.store.told c.requires.live;
        blocks = c.allocable.ensures.count ∙ ap allocable_of c.geometry-g.ensures;
        free_inodes = c.free_inodes.ensures stands.store.told c.requires.live;
        inodes = ap (λ (r : Request). r.inodes) (c.request.ensures.same ∙ c.geometry-g.ensures);
      });
}
