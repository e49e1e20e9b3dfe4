use Rattle.std.proofs.Common.{◌≡◌, ◌∙◌, true, sym, subst}
use Rattle.edge_base.specs.declared.form.Form.{Form}
use Rattle.edge_store.specs.View.{is_spot}
use Rattle.edge_store.proofs.ViewLaws.{spot_of}
use Rattle.edge_plain.specs.KeptView.{view_of}
use Rattle.edge_plain.proofs.CountLaws.{counted_bytes_set}
use Rattle.edge_plain.proofs.plain.PlainStoreStore.write_block.Goals as goal

pub invariant_of-self-clause-counted : goal.invariant_of-self-clause-counted
invariant_of-self-clause-counted c =
    let s = c.args.self.now in
    counted_bytes_set s.working.geometry _ (view_of s.committed) (view_of s.working) (view_of c.write.new.self) _ _ _ _ _ c.write.ensures.geometry s.counted
    c.args.s.owner c.args.s.block c.args.at c.args.bytes.now (subst (λ (f : Form). is_spot (view_of s.working) f c.args.s.owner c.args.s.block ≡ true) c.requires.form (spot_of (view_of s.working) c.args.s.form c.args.s.owner c.args.s.block (sym c.damage.ensures ∙ c.in_default.is))) c.write.ensures.set
